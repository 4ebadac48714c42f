-- Which predicates are steps of the search.
use Rattle.std.proofs.Common.{◌≡◌, ◌≤◌, ℕ, Bool, true, false, cond, List, [], ◌∷◌, codes, refl, sym, ap, ◌∙◌, arith}
use Rattle.std.specs.Prelude.{bytes_eq, nat_le}
use Rattle.std.proofs.lemmas.Slice.Eq.{bytes_eq-Decides}
use Rattle.pl_term.specs.Tree.{Chars, Tree, Trees, var, int, atom, comp, none, more, count}
use Rattle.pl_model.specs.History.{proc}
use Rattle.pl_model.specs.Control.{Construct, if_then_else, disjunction, construct, construct_of_none, construct_of_one, construct_of_two, construct_of_three, construct_by_count, or_else}
use Rattle.pl_model.specs.SystemPredicates.{system_predicates, system_kind, is_search}
use Rattle.pl_model.specs.laws.Dispatch.{goal_of, is_search_step}
use Rattle.pl_model.proofs.DispatchTexts.{flagged, agree, none_of_more, by_test, by_two_tests, passed}

abbrev step_flags_of_none : List (Chars × Bool)
step_flags_of_none =
    (codes "true", false) ∷ (codes "!", false) ∷ (codes "fail", false) ∷ (codes "false", false) ∷
    (codes "repeat", false) ∷ (codes "halt", false) ∷ (codes "nl", true) ∷ []

abbrev step_flags_of_one : List (Chars × Bool)
step_flags_of_one =
    (codes "\\+", false) ∷ (codes "once", false) ∷ (codes "throw", false) ∷ (codes "halt", false) ∷
    (codes "thread_exit", true) ∷ (codes "retract", true) ∷ (codes "retractall", true) ∷ (codes "write", true) ∷
    (codes "writeq", true) ∷ (codes "print", true) ∷ (codes "put_char", true) ∷ (codes "write_canonical", true) ∷ []

abbrev step_flags_of_two : List (Chars × Bool)
step_flags_of_two =
    (codes ",", false) ∷ (codes ";", false) ∷ (codes "->", false) ∷ (codes "clause", true) ∷ []

abbrev step_flags_of_three : List (Chars × Bool)
step_flags_of_three =
    (codes "catch", false) ∷ (codes "findall", true) ∷ []

none_step : (f : Chars) → is_search_step (construct_of_none f) ≡ flagged f step_flags_of_none
none_step f =
    let h : Construct → Bool = is_search_step in
    (by_test h (bytes_eq f (codes "true")) refl
    (by_test h (bytes_eq f (codes "!")) refl
    (by_two_tests h (bytes_eq f (codes "fail")) (bytes_eq f (codes "false")) refl
    (by_test h (bytes_eq f (codes "repeat")) refl
    (by_test h (bytes_eq f (codes "halt")) refl
    (by_test h (bytes_eq f (codes "nl")) refl
    refl))))))

one_step : (f : Chars) (t : Tree) → is_search_step (construct_of_one f t) ≡ flagged f step_flags_of_one
one_step f t =
    let h : Construct → Bool = is_search_step in
    (by_test h (bytes_eq f (codes "\\+")) refl
    (by_test h (bytes_eq f (codes "once")) refl
    (by_test h (bytes_eq f (codes "throw")) refl
    (by_test h (bytes_eq f (codes "halt")) refl
    (by_test h (bytes_eq f (codes "thread_exit")) refl
    (by_test h (bytes_eq f (codes "retract")) refl
    (by_test h (bytes_eq f (codes "retractall")) refl
    (by_test h (bytes_eq f (codes "write")) refl
    (by_two_tests h (bytes_eq f (codes "writeq")) (bytes_eq f (codes "print")) refl
    (by_test h (bytes_eq f (codes "put_char")) refl
    (by_test h (bytes_eq f (codes "write_canonical")) refl
    refl)))))))))))

if_false : (b : Bool) (x y : Construct) → is_search_step x ≡ false → is_search_step y ≡ false → is_search_step (cond b x y) ≡ false
if_false true x y p q = p
if_false false x y p q = q

-- A condition or a disjunction is no predicate.
either_is_none : (t u : Tree) → is_search_step (or_else t u) ≡ false
either_is_none (var x) u = refl
either_is_none (int i) u = refl
either_is_none (atom b) u = refl
either_is_none (comp g c none) u = refl
either_is_none (comp g c (more t none)) u = if_false (bytes_eq g (codes "->")) (if_then_else c t u) (disjunction (comp g c (more t none)) u) refl refl
either_is_none (comp g c (more t (more v ts))) u = refl

two_step : (f : Chars) (t u : Tree) → is_search_step (construct_of_two f t u) ≡ flagged f step_flags_of_two
two_step f t u =
    let h : Construct → Bool = is_search_step in
    (by_test h (bytes_eq f (codes ",")) refl
    (by_test h (bytes_eq f (codes ";")) (either_is_none t u)
    (by_test h (bytes_eq f (codes "->")) refl
    (by_test h (bytes_eq f (codes "clause")) refl
    refl))))

three_step : (f : Chars) (t u v : Tree) → is_search_step (construct_of_three f t u v) ≡ flagged f step_flags_of_three
three_step f t u v =
    let h : Construct → Bool = is_search_step in
    (by_test h (bytes_eq f (codes "catch")) refl
    (by_test h (bytes_eq f (codes "findall")) refl
    refl))

-- A call is no predicate, and its name is that of none.
over_call : (f : Chars) (t : Tree) (ts : Trees) (es : List (Chars × Bool)) → flagged (codes "call") es ≡ false
    → is_search_step (construct_by_count f t ts) ≡ flagged f es → is_search_step (construct (comp f t ts)) ≡ flagged f es
unfolding construct
over_call f t ts es at e =
    passed is_search_step (bytes_eq f (codes "call")) (nat_le (count ts) 7) refl e
    (λ same. ap (λ g. flagged g es) ((bytes_eq-Decides f (codes "call")).0 same) ∙ at)

of_atom : (f : Chars) → is_search_step (construct (atom f)) ≡ flagged f step_flags_of_none
unfolding construct
of_atom f = none_step f

listed_of_none : (f : Chars) → flagged f step_flags_of_none ≡ is_search (system_kind (proc f 0))
unfolding system_predicates
listed_of_none = agree is_search refl step_flags_of_none system_predicates 0 refl

listed_of_one : (f : Chars) → flagged f step_flags_of_one ≡ is_search (system_kind (proc f 1))
unfolding system_predicates
listed_of_one = agree is_search refl step_flags_of_one system_predicates 1 refl

listed_of_two : (f : Chars) → flagged f step_flags_of_two ≡ is_search (system_kind (proc f 2))
unfolding system_predicates
listed_of_two = agree is_search refl step_flags_of_two system_predicates 2 refl

listed_of_three : (f : Chars) → flagged f step_flags_of_three ≡ is_search (system_kind (proc f 3))
unfolding system_predicates
listed_of_three = agree is_search refl step_flags_of_three system_predicates 3 refl

listed_of_four : (f : Chars) → flagged f [] ≡ is_search (system_kind (proc f 4))
unfolding system_predicates
listed_of_four = agree is_search refl [] system_predicates 4 refl

listed_of_five : (f : Chars) → flagged f [] ≡ is_search (system_kind (proc f 5))
unfolding system_predicates
listed_of_five = agree is_search refl [] system_predicates 5 refl

listed_of_more : (f : Chars) (n : ℕ) → 6 ≤ n → is_search (system_kind (proc f n)) ≡ false
unfolding system_predicates
listed_of_more = none_of_more is_search refl system_predicates refl

-- A goal is a predicate that is a step of the search exactly where the list says so.
pub steps_told : (f : Chars) (ts : Trees) → is_search_step (construct (goal_of f ts)) ≡ is_search (system_kind (proc f (count ts)))
steps_told f none = of_atom f ∙ listed_of_none f
steps_told f (more t none) = over_call f t none step_flags_of_one refl (one_step f t) ∙ listed_of_one f
steps_told f (more t (more u none)) = over_call f t (more u none) step_flags_of_two refl (two_step f t u) ∙ listed_of_two f
steps_told f (more t (more u (more v none))) =
    over_call f t (more u (more v none)) step_flags_of_three refl (three_step f t u v) ∙ listed_of_three f
steps_told f (more t (more u (more v (more w none)))) = over_call f t (more u (more v (more w none))) [] refl refl ∙ listed_of_four f
steps_told f (more s (more t (more u (more v (more w none))))) =
    over_call f s (more t (more u (more v (more w none)))) [] refl refl ∙ listed_of_five f
steps_told f (more s (more t (more u (more v (more w (more x ts)))))) =
    over_call f s (more t (more u (more v (more w (more x ts))))) [] refl refl
    ∙ sym (listed_of_more f (count (more s (more t (more u (more v (more w (more x ts))))))) (omega arith))
