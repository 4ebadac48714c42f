-- The dispatch knows a name where the list has it. A listed name is tried by computation; in a choice by names, each test
-- fails of a name that is not listed.
use Rattle.std.proofs.Common.{◌≡◌, ◌≤◌, ℕ, Bool, true, false, cond, ◌==◌, ◌&&◌, List, [], ◌∷◌, Option, Some, None, refl, sym, ap, ◌∙◌, arith}
use Rattle.std.proofs.Math.Path.{fun_ext}
use Rattle.std.specs.List.{list_all}
use Rattle.std.specs.Prelude.{bytes_eq, is_some}
use Rattle.std.proofs.lemmas.Bool.{false≢true}
use Rattle.std.proofs.lemmas.Slice.Eq.{bytes_eq-Decides}
use Rattle.pl_term.specs.Tree.{Chars, Tree, Trees, none, more, count}
use Rattle.pl_model.specs.History.{proc}
use Rattle.pl_model.specs.BuiltinRows as basic
use Rattle.pl_model.specs.Builtins.{row}
use Rattle.pl_model.specs.SharedBuiltins.{shared}
use Rattle.pl_model.specs.SystemPredicates.{SystemPredicate, system_predicates, kind_in, system_kind, is_of_arguments, is_of_state}
use Rattle.pl_model.specs.declared.system.PredicateKind.{PredicateKind}
use Rattle.pl_model.proofs.DispatchTexts.{among, at_listed, kind_step, none_of_more}

-- The names with so many arguments of a kind.
abbrev pub names : (Option PredicateKind → Bool) → ℕ → List SystemPredicate → List Chars
names h n [] = []
names h n (e ∷ es) = cond (h (Some e.kind) && (n == e.indicator.arity)) (e.indicator.name ∷ names h n es) (names h n es)

out_of : (c : Bool) (f t : Chars) (ts : List Chars) → among f (cond c (t ∷ ts) ts) ≡ false → ((c && bytes_eq f t) ≡ false) × (among f ts ≡ false)
out_of false f t ts o = (refl, o)
out_of true f t ts o = go (bytes_eq f t) o
  where
    go : (b : Bool) → cond b true (among f ts) ≡ false → (b ≡ false) × (among f ts ≡ false)
    go true o = absurd (false≢true (sym o))
    go false o = (refl, o)

unlisted : (h : Option PredicateKind → Bool) → h None ≡ false → (f : Chars) (n : ℕ) (es : List SystemPredicate) → among f (names h n es) ≡ false
    → h (kind_in es (proc f n)) ≡ false
unlisted h nothing f n [] out = nothing
unlisted h nothing f n (e ∷ es) out =
    let parts : (((h (Some e.kind) && (n == e.indicator.arity)) && bytes_eq f e.indicator.name) ≡ false) × (among f (names h n es) ≡ false) =
    out_of (h (Some e.kind) && (n == e.indicator.arity)) f e.indicator.name (names h n es) out in
    ap h (kind_step e es (proc f n))
    ∙ go (h (Some e.kind)) (n == e.indicator.arity) (bytes_eq f e.indicator.name) refl parts.0 (unlisted h nothing f n es parts.1)
  where
    go : (k m b : Bool) → h (Some e.kind) ≡ k → ((k && m) && b) ≡ false → h (kind_in es (proc f n)) ≡ false
        → h (cond (b && m) (Some e.kind) (kind_in es (proc f n))) ≡ false
    go k m false is out rest = rest
    go k false true is out rest = rest
    go true true true is out rest = absurd (false≢true (sym out))
    go false true true is out rest = is

-- A test by a listed name fails of a name that is not listed.
abbrev masked : Chars → List Chars → Chars → Bool
masked f ts t = cond (among t ts) false (bytes_eq f t)

pub no_test : (f : Chars) (ts : List Chars) → among f ts ≡ false → bytes_eq f ≡ masked f ts
no_test f ts out = fun_ext (λ t. go t (among t ts) refl (bytes_eq f t) refl)
  where
    go : (t : Chars) (b : Bool) → among t ts ≡ b → (c : Bool) → bytes_eq f t ≡ c → bytes_eq f t ≡ cond b false (bytes_eq f t)
    go t false listed c e = refl
    go t true listed false e = e
    go t true listed true e = absurd (false≢true (sym out ∙ ap (λ g. among g ts) ((bytes_eq-Decides f t).0 e) ∙ listed))

-- What is said of names: it is true of the listed ones, and false of the others.
pub tells : (h : Option PredicateKind → Bool) → h None ≡ false → (n : ℕ) (has : Chars → Bool)
    → list_all has (names h n system_predicates) ≡ true
    → list_all (λ t. h (system_kind (proc t n))) (names h n system_predicates) ≡ true
    → ((f : Chars) → among f (names h n system_predicates) ≡ false → has f ≡ false)
    → (f : Chars) → has f ≡ h (system_kind (proc f n))
tells h nothing n has all kinds other f = go (among f (names h n system_predicates)) refl
  where
    go : (b : Bool) → among f (names h n system_predicates) ≡ b → has f ≡ h (system_kind (proc f n))
    go true in₁ =
        at_listed has (names h n system_predicates) f all in₁
        ∙ sym (at_listed (λ t. h (system_kind (proc t n))) (names h n system_predicates) f kinds in₁)
    go false out = other f out ∙ sym (unlisted h nothing f n system_predicates out)

none_row : (next : ℕ) (f : Chars) → is_some (row f none next) ≡ is_of_arguments (system_kind (proc f 0))
unfolding row basic.row system_predicates
none_row next =
    tells is_of_arguments refl 0 (λ g. is_some (row g none next)) refl refl
    (λ f out. refl)

one_row : (t : Tree) (next : ℕ) (f : Chars) → is_some (row f (more t none) next) ≡ is_of_arguments (system_kind (proc f 1))
unfolding row basic.row system_predicates
one_row t next =
    tells is_of_arguments refl 1 (λ g. is_some (row g (more t none) next)) refl refl
    (λ f out. rw (no_test f (names is_of_arguments 1 system_predicates) out) refl)

two_row : (t u : Tree) (next : ℕ) (f : Chars) → is_some (row f (more t (more u none)) next) ≡ is_of_arguments (system_kind (proc f 2))
unfolding row basic.row system_predicates
two_row t u next =
    tells is_of_arguments refl 2 (λ g. is_some (row g (more t (more u none)) next)) refl refl
    (λ f out. rw (no_test f (names is_of_arguments 2 system_predicates) out) refl)

three_row : (t u v : Tree) (next : ℕ) (f : Chars) → is_some (row f (more t (more u (more v none))) next) ≡ is_of_arguments (system_kind (proc f 3))
unfolding row basic.row system_predicates
three_row t u v next =
    tells is_of_arguments refl 3 (λ g. is_some (row g (more t (more u (more v none))) next)) refl refl
    (λ f out. rw (no_test f (names is_of_arguments 3 system_predicates) out) refl)

four_row : (t u v w : Tree) (next : ℕ) (f : Chars) → is_some (row f (more t (more u (more v (more w none)))) next) ≡ is_of_arguments (system_kind (proc f 4))
unfolding row basic.row system_predicates
four_row t u v w next =
    tells is_of_arguments refl 4 (λ g. is_some (row g (more t (more u (more v (more w none)))) next)) refl refl
    (λ f out. refl)

five_row : (s t u v w : Tree) (next : ℕ) (f : Chars) → is_some (row f (more s (more t (more u (more v (more w none))))) next) ≡ is_of_arguments (system_kind (proc f 5))
unfolding row basic.row system_predicates
five_row s t u v w next =
    tells is_of_arguments refl 5 (λ g. is_some (row g (more s (more t (more u (more v (more w none))))) next)) refl refl
    (λ f out. rw (no_test f (names is_of_arguments 5 system_predicates) out) refl)

no_row : (s t u v w x : Tree) (ts : Trees) (next : ℕ) (f : Chars) → is_some (row f (more s (more t (more u (more v (more w (more x ts)))))) next) ≡ false
unfolding row basic.row
no_row s t u v w x ts next f = refl

no_row_listed : (f : Chars) (n : ℕ) → 6 ≤ n → is_of_arguments (system_kind (proc f n)) ≡ false
unfolding system_predicates
no_row_listed = none_of_more is_of_arguments refl system_predicates refl

-- A predicate has a row exactly where the list says so.
pub rows_told : (f : Chars) (ts : Trees) (next : ℕ) → is_some (row f ts next) ≡ is_of_arguments (system_kind (proc f (count ts)))
rows_told f none next = none_row next f
rows_told f (more t none) next = one_row t next f
rows_told f (more t (more u none)) next = two_row t u next f
rows_told f (more t (more u (more v none))) next = three_row t u v next f
rows_told f (more t (more u (more v (more w none)))) next = four_row t u v w next f
rows_told f (more s (more t (more u (more v (more w none))))) next = five_row s t u v w next f
rows_told f (more s (more t (more u (more v (more w (more x ts)))))) next =
    no_row s t u v w x ts next f ∙ sym (no_row_listed f (count (more s (more t (more u (more v (more w (more x ts))))))) (omega arith))

none_shared : (f : Chars) → is_some (shared f none) ≡ is_of_state (system_kind (proc f 0))
unfolding shared system_predicates
none_shared =
    tells is_of_state refl 0 (λ g. is_some (shared g none)) refl refl
    (λ f out. rw (no_test f (names is_of_state 0 system_predicates) out) refl)

one_shared : (t : Tree) → (f : Chars) → is_some (shared f (more t none)) ≡ is_of_state (system_kind (proc f 1))
unfolding shared system_predicates
one_shared t =
    tells is_of_state refl 1 (λ g. is_some (shared g (more t none))) refl refl
    (λ f out. rw (no_test f (names is_of_state 1 system_predicates) out) refl)

two_shared : (t u : Tree) → (f : Chars) → is_some (shared f (more t (more u none))) ≡ is_of_state (system_kind (proc f 2))
unfolding shared system_predicates
two_shared t u =
    tells is_of_state refl 2 (λ g. is_some (shared g (more t (more u none)))) refl refl
    (λ f out. rw (no_test f (names is_of_state 2 system_predicates) out) refl)

three_shared : (t u v : Tree) → (f : Chars) → is_some (shared f (more t (more u (more v none)))) ≡ is_of_state (system_kind (proc f 3))
unfolding shared system_predicates
three_shared t u v =
    tells is_of_state refl 3 (λ g. is_some (shared g (more t (more u (more v none))))) refl refl
    (λ f out. rw (no_test f (names is_of_state 3 system_predicates) out) refl)

four_shared : (t u v w : Tree) → (f : Chars) → is_some (shared f (more t (more u (more v (more w none))))) ≡ is_of_state (system_kind (proc f 4))
unfolding shared system_predicates
four_shared t u v w =
    tells is_of_state refl 4 (λ g. is_some (shared g (more t (more u (more v (more w none)))))) refl refl
    (λ f out. refl)

five_shared : (s t u v w : Tree) → (f : Chars) → is_some (shared f (more s (more t (more u (more v (more w none)))))) ≡ is_of_state (system_kind (proc f 5))
unfolding shared system_predicates
five_shared s t u v w =
    tells is_of_state refl 5 (λ g. is_some (shared g (more s (more t (more u (more v (more w none))))))) refl refl
    (λ f out. refl)

not_shared : (s t u v w x : Tree) (ts : Trees) (f : Chars) → is_some (shared f (more s (more t (more u (more v (more w (more x ts))))))) ≡ false
unfolding shared
not_shared s t u v w x ts f = refl

none_shared_listed : (f : Chars) (n : ℕ) → 6 ≤ n → is_of_state (system_kind (proc f n)) ≡ false
unfolding system_predicates
none_shared_listed = none_of_more is_of_state refl system_predicates refl

-- A predicate asks something of the shared state exactly where the list says so.
pub shared_told : (f : Chars) (ts : Trees) → is_some (shared f ts) ≡ is_of_state (system_kind (proc f (count ts)))
shared_told f none = none_shared f
shared_told f (more t none) = one_shared t f
shared_told f (more t (more u none)) = two_shared t u f
shared_told f (more t (more u (more v none))) = three_shared t u v f
shared_told f (more t (more u (more v (more w none)))) = four_shared t u v w f
shared_told f (more s (more t (more u (more v (more w none))))) = five_shared s t u v w f
shared_told f (more s (more t (more u (more v (more w (more x ts)))))) =
    not_shared s t u v w x ts f ∙ sym (none_shared_listed f (count (more s (more t (more u (more v (more w (more x ts))))))) (omega arith))
