-- Variables in the terms of a store.
use Rattle.std.proofs.Common.{◌≡◌, ℕ, Bool, true, false, ◌||◌, List, [], ◌∷◌, refl, ap, ◌∙◌}
use Rattle.pl_term.specs.Tree.{Chars, Tree, trees, compound}
use Rattle.pl_term.specs.Variables.{has, has_all, occurrences, occurrences_all, distinct}
use Rattle.pl_model.proofs.UnifyReplace.{is_in-append}
use Rattle.builtin_term.specs.TermWalks.{one_has}

one_has-trees : (x : ℕ) (ts : List Tree) → has_all x (trees ts) ≡ one_has x ts
one_has-trees x [] = refl
one_has-trees x (t ∷ ts) =
    is_in-append x (occurrences t) (occurrences_all (trees ts)) ∙ ap (λ b. has x t || b) (one_has-trees x ts)

-- A variable occurs in a compound term where it occurs in one of the arguments.
pub has-compound : (x : ℕ) (f : Chars) (ts : List Tree) → has x (compound f ts) ≡ one_has x ts
has-compound x f [] = refl
has-compound x f (t ∷ ts) = one_has-trees x (t ∷ ts)

-- Whether there is no variable among these.
abbrev pub none_left : List ℕ → Bool
none_left xs = elim (distinct xs) [ [] ↦ true | x ∷ ys ↦ false ]
