-- Lists of terms and the arguments of terms, under bindings.
use Rattle.std.proofs.Common.{◌≡◌, ℕ, zero, suc, ◌<◌, ◌≤◌, List, [], ◌∷◌, ◌++◌, length, map, get_or, refl, sym, ap, ◌∙◌, arith}
use Rattle.pl_term.specs.Tree.{Chars, Tree, Trees, var, int, atom, comp, none, more, after, compound, count, trees}
use Rattle.pl_term.specs.Variables.{replace, replace_all}
use Rattle.pl_model.specs.Terms.{arguments}
use Rattle.pl_model.specs.Unify.{Bindings, bound, bound_all}
use Rattle.pl_model.proofs.UnifyReplace.{count-replace}

pub arguments_made : (f : Chars) (xs : List Tree) → arguments (compound f xs) ≡ trees xs
arguments_made f [] = refl
arguments_made f (x ∷ xs) = refl

pub count_trees : (xs : List Tree) → count (trees xs) ≡ length xs
count_trees [] = refl
count_trees (x ∷ xs) = ap suc (count_trees xs)

pub at_trees : (xs : List Tree) (i : ℕ) (d : Tree) → i < length xs → after i (trees xs) ≡ more (get_or xs i d) (after (suc i) (trees xs))
at_trees [] i d h = absurd (omega (arith, h))
at_trees (x ∷ xs) zero d h = refl
at_trees (x ∷ xs) (suc i) d h = at_trees xs i d (omega (arith, h))

-- After all of them there are none.
pub after_all : (ts : Trees) (i : ℕ) → count ts ≤ i → after i ts ≡ none
after_all none zero h = refl
after_all none (suc i) h = refl
after_all (more t ts) zero h = absurd (omega (arith, h))
after_all (more t ts) (suc i) h = after_all ts i (omega (arith, h))

-- The term that stands at the place of a list.
pub there : (ts : Trees) (i : ℕ) → i < count ts → (t : Tree) × (after i ts ≡ more t (after (suc i) ts))
there none i h = absurd (omega (arith, h))
there (more t ts) zero h = (t, refl)
there (more t ts) (suc i) h = there ts i (omega (arith, h))

after_replaced : (x : ℕ) (s : Tree) (i : ℕ) (ts : Trees) → after i (replace_all x s ts) ≡ replace_all x s (after i ts)
after_replaced x s zero ts = refl
after_replaced x s (suc i) none = refl
after_replaced x s (suc i) (more t ts) = after_replaced x s i ts

pub after_bound : (bs : Bindings) (i : ℕ) (ts : Trees) → after i (bound_all bs ts) ≡ bound_all bs (after i ts)
after_bound [] i ts = refl
after_bound (b ∷ bs) i ts = after_bound bs i (replace_all b.0 b.1 ts) ∙ ap (bound_all bs) (after_replaced b.0 b.1 i ts)

pub none_bound : (bs : Bindings) → bound_all bs none ≡ none
none_bound [] = refl
none_bound (b ∷ bs) = none_bound bs

pub more_bound : (bs : Bindings) (t : Tree) (ts : Trees) → bound_all bs (more t ts) ≡ more (bound bs t) (bound_all bs ts)
more_bound [] t ts = refl
more_bound (b ∷ bs) t ts = more_bound bs (replace b.0 b.1 t) (replace_all b.0 b.1 ts)

pub bound_on : (bs cs : Bindings) (ts : Trees) → bound_all cs (bound_all bs ts) ≡ bound_all (bs ++ cs) ts
bound_on [] cs ts = refl
bound_on (b ∷ bs) cs ts = bound_on bs cs (replace_all b.0 b.1 ts)

pub count_bound : (bs : Bindings) (ts : Trees) → count (bound_all bs ts) ≡ count ts
count_bound [] ts = refl
count_bound (b ∷ bs) ts = count_bound bs (replace_all b.0 b.1 ts) ∙ count-replace ts b.0 b.1

comp_bound : (bs : Bindings) (f : Chars) (t : Tree) (ts : Trees) → bound bs (comp f t ts) ≡ comp f (bound bs t) (bound_all bs ts)
comp_bound [] f t ts = refl
comp_bound (b ∷ bs) f t ts = comp_bound bs f (replace b.0 b.1 t) (replace_all b.0 b.1 ts)

-- The arguments of a term that has some.
pub arguments_bound : (bs : Bindings) (t : Tree) → zero < count (arguments t) → arguments (bound bs t) ≡ bound_all bs (arguments t)
arguments_bound bs (var x) h = absurd (omega (arith, h))
arguments_bound bs (int i) h = absurd (omega (arith, h))
arguments_bound bs (atom a) h = absurd (omega (arith, h))
arguments_bound bs (comp f t ts) h = ap arguments (comp_bound bs f t ts) ∙ sym (more_bound bs t ts)

pub get_or_map : {A B : Type 0} (f : A → B) (xs : List A) (i : ℕ) (d : A) (e : B) → i < length xs → get_or (map f xs) i e ≡ f (get_or xs i d)
get_or_map f [] i d e h = absurd (omega (arith, h))
get_or_map f (x ∷ xs) zero d e h = refl
get_or_map f (x ∷ xs) (suc i) d e h = get_or_map f xs i d e (omega (arith, h))
