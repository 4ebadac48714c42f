-- Terms of two arguments whose atoms are held.
use Rattle.std.proofs.Common.{◌≡◌, ℕ, [], ◌∷◌, map, Some, IsSome, sym, subst}
use Rattle.std.specs.List.{All}
use Rattle.std.proofs.lemmas.List.Elements.{All-cons, All-nil}
use Rattle.pl_term.specs.Tree.{Chars, Tree, compound, int}
use Rattle.atom_api.specs.Fixed.{fixed}
use Rattle.atom_api.specs.Names.{Names, FixedStand}
use Rattle.term_store.specs.declared.words.Place.{Place}
use Rattle.term_store.specs.Heap.{atom_name}
use Rattle.term_store.specs.Contents.{Contents, term_at}
use Rattle.world_builtins.specs.Naming.{IsHeldAt, atoms_in}
use Rattle.builtin_rows.proofs.Balls.{fixed_held}
use Rattle.builtin_term.proofs.Composed.{compound_held}

module _ (m : Names) (s t : Contents) where
  abbrev P : ℕ → Type 0
  P a = IsSome (m a)

  abbrev Q : Tree → Type 0
  Q u = All P (atoms_in u)

  pub still_held : (p : Place) → term_at t p ≡ term_at s p → IsHeldAt m s p → IsHeldAt m t p
  still_held p e held = subst Q (sym e) held

  pub cell_held : FixedStand m → (f : ℕ) (name : Chars) → fixed f ≡ Some name → (p q w : Place)
      → term_at t w ≡ compound (atom_name f) (map (term_at s) (p ∷ (q ∷ []))) → IsHeldAt m s p → IsHeldAt m s q → IsHeldAt m t w
  cell_held stands f name known p q w means first second =
      let both : All Q (term_at s p ∷ (term_at s q ∷ [])) =
      All-cons Q (term_at s p) (term_at s q ∷ []) first (All-cons Q (term_at s q) [] second (All-nil Q)) in
      subst Q (sym means) (compound_held P f (term_at s p ∷ (term_at s q ∷ [])) (fixed_held m stands f name known) both)

pub integer_held : (m : Names) (s : Contents) (p : Place) (i : _) → term_at s p ≡ int i → IsHeldAt m s p
integer_held m s p i e = subst (λ u. All (λ a. IsSome (m a)) (atoms_in u)) (sym e) (All-nil (λ a. IsSome (m a)))
