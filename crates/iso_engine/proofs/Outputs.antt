-- Goals that write, by their names and the number of their arguments.
use Rattle.std.proofs.Common.{◌≡◌, ◌≢◌, ℕ, ℤ, ◌<◌, Bool, true, false, cond, ◌==◌, ◌&&◌, nat_le, List, [], ◌∷◌, ◌++◌, length, get_or, Option, Some, None, IsSome, IfSome, MatchOption, codes, refl, sym, ap, ap₂, subst, ◌∙◌, append-nil, arith}
use Rattle.std.specs.List.{All}
use Rattle.std.specs.Str.{bytes_eq}
use Rattle.std.proofs.lemmas.Bool.Decides.{Decides-eqb}
use Rattle.std.proofs.lemmas.List.Elements.{All-tail}
use Rattle.pl_term.specs.Tree.{Chars, Tree, Trees, var, int, atom, comp, none, more, compound, count, trees}
use Rattle.pl_model.specs.Predicates.{proc_of}
use Rattle.pl_model.specs.Control.{construct, construct_by_count, construct_of_two, construct_of_three, or_else}
use Rattle.pl_model.specs.History.{proc}
use Rattle.pl_model.specs.Control as control
use Rattle.atom_api.specs.FixedNames.{call_name, cut_name, fail_name, false_name, halt_name, nl_name, not_provable_name, once_name, print_name, put_char_name, repeat_name, retract_name, retractall_name, thread_exit_name, throw_name, true_name, write_canonical_name, write_name, writeq_name}
use Rattle.atom_api.specs.Names.{Names}
use Rattle.term_store.specs.declared.words.Place.{Place}
use Rattle.term_store.specs.declared.views.Arguments.{Arguments}
use Rattle.term_store.specs.Heap.{atom_name}
use Rattle.term_store.specs.Contents.{Contents, arguments_at, term_at}
use Rattle.world_builtins.specs.declared.styles.Style.TheVariants.{Bare, Quoted}
use Rattle.world_builtins.specs.Naming.{IsHeldAt}
use Rattle.world_builtins.specs.Naming as written
use Rattle.term_store.specs.NumberedNames.{atoms_in, atoms_in_all, number_of}
use Rattle.iso_search.specs.declared.construct.Construct.{Construct}
use Rattle.iso_search.specs.declared.construct.Construct.TheVariants.{Succeeds, Cuts, Conjunction, Disjunction, IfThen, IfThenElse, Fails, Repeats, Calls, NotProvable, Once, Catches, Throws, FindsAll, Halts, HaltsWithZero, Exits, Inspects, Retracts, Clears, Writes, WritesQuoted, WritesCanonical, WritesNewline, Puts, Other}
use Rattle.iso_search.specs.Constructs.{atom_construct, one_construct, output_construct}
use Rattle.iso_search.specs.Constructs.{construction as construction_of}
use Rattle.iso_search.specs.Reading.{View, IsView, reads}
use Rattle.iso_search.specs.Spelling.{spelled, spelled_all, text_of}
use Rattle.iso_search.proofs.Naming.{put_char_is, text_is}
use Rattle.iso_search.proofs.Constructing.{by_one, called, named_otherwise, no_goal_integer, no_goal_variable, of_an_atom}
use Rattle.iso_engine.specs.declared.write.goals.OutputGoal.{OutputGoal}
use Rattle.iso_engine.specs.declared.write.goals.OutputGoal.TheVariants.{Term, Canonical, NewLine, Character}
use Rattle.iso_engine.specs.OutputGoals.{IsGoalHeld, IsGoalOf, IsHeldIn, IsNamed, IsNoOutput, atom_output, construction, is_output, one_output}

-- What a construct writes.
abbrev output_of : Construct → Option OutputGoal
output_of (Writes t) = Some (Term Bare t)
output_of (WritesQuoted t) = Some (Term Quoted t)
output_of (WritesCanonical t) = Some (Canonical t)
output_of WritesNewline = Some NewLine
output_of (Puts t) = Some (Character t)
output_of _ = None

-- The construct that a goal is, by what it writes.
abbrev pub IsTold : View → Contents → control.Construct → Option OutputGoal → Type 0
IsTold v s c None = is_output c ≡ false
IsTold v s c (Some o) = construction v s o ≡ c

told : (v : View) (s : Contents) (k : Construct) → IsTold v s (construction_of v s k) (output_of k)
told v s Succeeds = refl
told v s Cuts = refl
told v s (Conjunction t u) = refl
told v s (Disjunction t u) = refl
told v s (IfThen t u) = refl
told v s (IfThenElse c t u) = refl
told v s Fails = refl
told v s Repeats = refl
told v s (Calls t a) = refl
told v s (NotProvable t) = refl
told v s (Once t) = refl
told v s (Catches t c r) = refl
told v s (Throws t) = refl
told v s (FindsAll x t l) = refl
told v s (Halts t) = refl
told v s HaltsWithZero = refl
told v s (Exits t) = refl
told v s (Inspects h b) = refl
told v s (Retracts t) = refl
told v s (Clears t) = refl
told v s (Writes t) = refl
told v s (WritesQuoted t) = refl
told v s (WritesCanonical t) = refl
told v s WritesNewline = refl
told v s (Puts t) = refl
told v s Other = refl

-- By numbers

-- There is none where the test holds.
abbrev Lacks : Option OutputGoal → Bool → Type 0
Lacks o b = b ≡ true → (let no : Option OutputGoal = None in no ≡ o)

is_number : (a k : ℕ) → (a == k) ≡ true → a ≡ k
is_number a k e = (Decides-eqb a k).0 e

atom_found : (a : ℕ) → output_of (atom_construct a) ≡ atom_output a
atom_found a = go (a == true_name) (a == cut_name) (a == fail_name) (a == false_name) (a == repeat_name) (a == halt_name) (at true_name) (at cut_name) (at fail_name) (at false_name) (at repeat_name) (at halt_name)
  where
    at : (k : ℕ) → (a == k) ≡ true → atom_output k ≡ atom_output a
    at k e = sym (ap atom_output (is_number a k e))

    last : (b : Bool) → output_of (cond b WritesNewline Other) ≡ cond b (Some NewLine) None
    last true = refl
    last false = refl

    go : (b c d e f i : Bool) → Lacks (atom_output a) b → Lacks (atom_output a) c → Lacks (atom_output a) d → Lacks (atom_output a) e → Lacks (atom_output a) f → Lacks (atom_output a) i
        → output_of (cond b Succeeds (cond c Cuts (cond d Fails (cond e Fails (cond f Repeats (cond i HaltsWithZero (cond (a == nl_name) WritesNewline Other)))))))
        ≡ atom_output a
    go true c d e f i p q r s u w = p refl
    go false true d e f i p q r s u w = q refl
    go false false true e f i p q r s u w = r refl
    go false false false true f i p q r s u w = s refl
    go false false false false true i p q r s u w = u refl
    go false false false false false true p q r s u w = w refl
    go false false false false false false p q r s u w = last (a == nl_name)

output_found : (a : ℕ) (t : Place) → output_of (output_construct a t) ≡ one_output a t
output_found a t = go (a == write_name) (a == writeq_name) (a == print_name) (a == put_char_name) (a == write_canonical_name)
  where
    go : (b c d e f : Bool)
        → output_of (cond b (Writes t) (cond c (WritesQuoted t) (cond d (WritesQuoted t) (cond e (Puts t) (cond f (WritesCanonical t) Other)))))
        ≡ cond b (Some (Term Bare t)) (cond c (Some (Term Quoted t)) (cond d (Some (Term Quoted t)) (cond e (Some (Character t)) (cond f (Some (Canonical t)) None))))
    go true c d e f = refl
    go false true d e f = refl
    go false false true e f = refl
    go false false false true f = refl
    go false false false false true = refl
    go false false false false false = refl

one_found : (a : ℕ) (t : Place) → output_of (one_construct a t) ≡ one_output a t
one_found a t = go (a == not_provable_name) (a == once_name) (a == throw_name) (a == halt_name) (a == thread_exit_name) (a == retract_name) (a == retractall_name) (at not_provable_name) (at once_name) (at throw_name) (at halt_name) (at thread_exit_name) (at retract_name) (at retractall_name)
  where
    at : (k : ℕ) → (a == k) ≡ true → one_output k t ≡ one_output a t
    at k e = sym (ap (λ x. one_output x t) (is_number a k e))

    go : (b c d e f i j : Bool) → Lacks (one_output a t) b → Lacks (one_output a t) c → Lacks (one_output a t) d → Lacks (one_output a t) e → Lacks (one_output a t) f → Lacks (one_output a t) i → Lacks (one_output a t) j
        → output_of (cond b (NotProvable t) (cond c (Once t) (cond d (Throws t) (cond e (Halts t) (cond f (Exits t) (cond i (Retracts t) (cond j (Clears t) (output_construct a t))))))))
        ≡ one_output a t
    go true c d e f i j p q r s u w x = p refl
    go false true d e f i j p q r s u w x = q refl
    go false false true e f i j p q r s u w x = r refl
    go false false false true f i j p q r s u w x = s refl
    go false false false false true i j p q r s u w x = u refl
    go false false false false false true j p q r s u w x = w refl
    go false false false false false false true p q r s u w x = x refl
    go false false false false false false false p q r s u w x = output_found a t

-- What holds of each goal that writes one argument
each_one : (P : Option OutputGoal → Type 0) (a : ℕ) (t : Place) → P (Some (Term Bare t)) → P (Some (Term Quoted t)) → (a ≡ put_char_name → P (Some (Character t)))
    → P (Some (Canonical t)) → P None → P (one_output a t)
each_one P a t bare quoted character canonical absent = go (a == write_name) (a == writeq_name) (a == print_name) (a == put_char_name) (a == write_canonical_name) (λ e. character (is_number a put_char_name e))
  where
    go : (b c d e f : Bool) → (e ≡ true → P (Some (Character t)))
        → P (cond b (Some (Term Bare t)) (cond c (Some (Term Quoted t)) (cond d (Some (Term Quoted t)) (cond e (Some (Character t)) (cond f (Some (Canonical t)) None)))))
    go true c d e f h = bare
    go false true d e f h = quoted
    go false false true e f h = quoted
    go false false false true f h = h refl
    go false false false false true h = canonical
    go false false false false false h = absent

abbrev IsNamedSo : Tree → Option OutputGoal → Type 0
IsNamedSo g None = Unit {0}
IsNamedSo g (Some o) = IsNamed o g

-- Goals at places

-- What is said of a goal however it is read.
gathered : (s : Contents) (goal : Place) (r : Option OutputGoal)
    → ((v : View) → IsView v → IsTold v s (construct (reads v s goal)) r × IsNamedSo (reads v s goal) r)
    → MatchOption r (IsNoOutput s goal) (λ o. IsGoalOf s o goal)
gathered s goal None h = λ v view. (h v view).0
gathered s goal (Some o) h = h

pub no_variable : (v : View) (s : Contents) (p : Place) (n : ℕ) → term_at s p ≡ var n → is_output (construct (reads v s p)) ≡ false
no_variable v s p n e = sym (ap is_output (no_goal_variable v s p n e))

pub no_integer : (v : View) (s : Contents) (p : Place) (i : ℤ) → term_at s p ≡ int i → is_output (construct (reads v s p)) ≡ false
no_integer v s p i e = sym (ap is_output (no_goal_integer v s p i e))

atom_named : (g : Tree) (a : ℕ) → IsNamedSo g (atom_output a)
atom_named g a = go (a == nl_name)
  where
    go : (b : Bool) → IsNamedSo g (cond b (Some NewLine) None)
    go true = tt
    go false = tt

pub at_atom : (s : Contents) (goal : Place) (a : ℕ) (r : Option OutputGoal) → term_at s goal ≡ atom (atom_name a) → r ≡ atom_output a
    → MatchOption r (IsNoOutput s goal) (λ o. IsGoalOf s o goal)
at_atom s goal a r at is =
    gathered s goal r
    (λ v view.
    subst (λ o. IsTold v s (construct (reads v s goal)) o × IsNamedSo (reads v s goal) o) (atom_found a ∙ sym is) (
      subst (λ c. IsTold v s c (output_of (atom_construct a))) (of_an_atom v view s goal a (atom_construct a) at refl) (told v s (atom_construct a)),
      subst (IsNamedSo (reads v s goal)) (sym (atom_found a)) (atom_named (reads v s goal) a),
    ))

-- The atoms of a term

number_same : (f : Chars) → written.number_of f ≡ number_of f
number_same [] = refl
number_same (a ∷ fs) = refl

mutual
  pub atoms_same : (t : Tree) → written.atoms_in t ≡ atoms_in t
  atoms_same (var x) = refl
  atoms_same (int i) = refl
  atoms_same (atom a) = ap (λ k. k ∷ []) (number_same a)
  atoms_same (comp f t ts) = ap₂ ◌∷◌ (number_same f) (ap₂ ◌++◌ (atoms_same t) (all_atoms_same ts))

  all_atoms_same : (ts : Trees) → written.atoms_in_all ts ≡ atoms_in_all ts
  all_atoms_same none = refl
  all_atoms_same (more t ts) = ap₂ ◌++◌ (atoms_same t) (all_atoms_same ts)

-- Goals of one argument

shape_one : (xs : List Tree) (d : Tree) → length xs ≡ 1 → xs ≡ get_or xs 0 d ∷ []
shape_one [] d e = absurd (omega (arith, e))
shape_one (x ∷ []) d e = refl
shape_one (x ∷ (y ∷ xs)) d e = absurd (omega (arith, e))

module _ (s : Contents) (goal first : Place) (name : ℕ) (a : Arguments) (at : term_at s goal ≡ compound (atom_name name) (arguments_at s a))
    (long : length (arguments_at s a) ≡ 1) (stands : term_at s first ≡ get_or (arguments_at s a) 0 (atom [])) where
  abbrev r : Option OutputGoal
  r = one_output name first

  goal_is : term_at s goal ≡ comp (atom_name name) (term_at s first) none
  goal_is = at ∙ ap (compound (atom_name name)) (shape_one (arguments_at s a) (atom []) long) ∙ ap (λ t. comp (atom_name name) t none) (sym stands)

  module _ (v : View) (view : IsView v) where
    told_of : (k : Construct) → construction_of v s k ≡ construct (spelled (text_of v.names) (compound (atom_name name) (arguments_at s a))) → output_of k ≡ r
        → IsTold v s (construct (reads v s goal)) r
    told_of k is found =
        subst (IsTold v s (construct (reads v s goal))) found
        (subst (λ c. IsTold v s c (output_of k)) (is ∙ sym (ap (λ u. construct (spelled (text_of v.names) u)) at)) (told v s k))

    told_by : (b : Bool) → (name == call_name) ≡ b → IsTold v s (construct (reads v s goal)) r
    told_by true e =
        told_of (Calls first a) (called v view s name (arguments_at s a) first a e (omega (arith, long)) (omega (arith, long)) stands refl)
        (sym (ap (λ x. one_output x first) (is_number name call_name e)))
    told_by false e =
        told_of (one_construct name first)
        (named_otherwise v view s name (arguments_at s a) (one_construct name first) (by_one v view s name (arguments_at s a) first (one_construct name first) long stands refl) e)
        (one_found name first)

    proc_is : name ≡ put_char_name → proc_of (reads v s goal) ≡ proc (codes "put_char") 1
    proc_is e =
        ap (λ u. proc_of (spelled (text_of v.names) u)) goal_is
        ∙ ap (λ n. proc (text_of v.names (atom_name n)) 1) e
        ∙ ap (λ f. proc f 1) (text_is v view put_char_name (codes "put_char") put_char_is)

    named_so : IsNamedSo (reads v s goal) r
    named_so = each_one (IsNamedSo (reads v s goal)) name first tt tt proc_is tt tt

  pub at_one : (q : Option OutputGoal) → q ≡ one_output name first → MatchOption q (IsNoOutput s goal) (λ o. IsGoalOf s o goal)
  at_one q is =
      subst (λ o. MatchOption o (IsNoOutput s goal) (λ x. IsGoalOf s x goal)) (sym is)
      (gathered s goal r (λ v view. (told_by v view (name == call_name) refl, named_so v view)))

  first_held : (m : Names) → IsGoalHeld m s goal → IsHeldAt m s first
  first_held m held =
      let all = subst (λ t. All (λ k. IsSome (m k)) (atoms_in t)) goal_is held in
      subst (All (λ k. IsSome (m k))) (append-nil (atoms_in (term_at s first)) ∙ sym (atoms_same (term_at s first)))
      (All-tail (λ k. IsSome (m k)) (number_of (atom_name name)) _ all)

  pub held_one : (q : Option OutputGoal) → q ≡ one_output name first → IfSome q (λ o. (m : Names) → IsGoalHeld m s goal → IsHeldIn m s o)
  held_one q is =
      subst (λ p. IfSome p (λ o. (m : Names) → IsGoalHeld m s goal → IsHeldIn m s o)) (sym is)
      (each_one (λ p. IfSome p (λ o. (m : Names) → IsGoalHeld m s goal → IsHeldIn m s o)) name first first_held first_held (λ e. first_held) first_held tt)

-- Goals of more arguments

or_none : (t u : Tree) → is_output (or_else t u) ≡ false
or_none (var x) u = refl
or_none (int i) u = refl
or_none (atom a) u = refl
or_none (comp f c none) u = refl
or_none (comp f c (more t none)) u = go (bytes_eq f (codes "->"))
  where
    go : (b : Bool) → is_output (cond b (control.if_then_else c t u) (control.disjunction (comp f c (more t none)) u)) ≡ false
    go true = refl
    go false = refl
or_none (comp f c (more t (more x y))) u = refl

two_none : (t u : Tree) (a b c d : Bool)
    → is_output (cond a (control.conjunction t u) (cond b (or_else t u) (cond c (control.if_then t u) (cond d (control.inspects t u) control.other)))) ≡ false
two_none t u true b c d = refl
two_none t u false true c d = or_none t u
two_none t u false false true d = refl
two_none t u false false false true = refl
two_none t u false false false false = refl

three_none : (t u w : Tree) (a b : Bool) → is_output (cond a (control.catches t u w) (cond b (control.finds_all t u w) control.other)) ≡ false
three_none t u w true b = refl
three_none t u w false true = refl
three_none t u w false false = refl

more_none : (f : Chars) (t u : Tree) (us : Trees) → is_output (construct_by_count f t (more u us)) ≡ false
more_none f t u none = two_none t u (bytes_eq f (codes ",")) (bytes_eq f (codes ";")) (bytes_eq f (codes "->")) (bytes_eq f (codes "clause"))
more_none f t u (more w none) = three_none t u w (bytes_eq f (codes "catch")) (bytes_eq f (codes "findall"))
more_none f t u (more w (more x xs)) = refl

comp_none : (f : Chars) (t u : Tree) (us : Trees) → is_output (construct (comp f t (more u us))) ≡ false
unfolding construct
comp_none f t u us = go (bytes_eq f (codes "call") && nat_le (count (more u us)) 7)
  where
    go : (b : Bool) → is_output (cond b (control.calls t (more u us)) (construct_by_count f t (more u us))) ≡ false
    go true = refl
    go false = more_none f t u us

pub at_more : (v : View) (s : Contents) (goal : Place) (name : ℕ) (xs : List Tree) → term_at s goal ≡ compound (atom_name name) xs → 0 < length xs → length xs ≢ 1
    → is_output (construct (reads v s goal)) ≡ false
at_more v s goal name xs at some other = ap (λ u. is_output (construct (spelled (text_of v.names) u))) at ∙ go xs some other
  where
    go : (ys : List Tree) → 0 < length ys → length ys ≢ 1 → is_output (construct (spelled (text_of v.names) (compound (atom_name name) ys))) ≡ false
    go [] p q = absurd (omega (arith, p))
    go (y ∷ []) p q = absurd (q refl)
    go (y ∷ (z ∷ zs)) p q =
        let g = text_of v.names in comp_none (g (atom_name name)) (spelled g y) (spelled g z) (spelled_all g (trees zs))
