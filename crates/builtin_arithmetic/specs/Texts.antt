-- Texts of atoms.
use Rattle.std.specs.Prelude.{◌≡◌, ℕ, Some}
use Rattle.pl_term.specs.Tree.{Chars}
use Rattle.atom_api.specs.Names.{Names, FixedStand}

-- The fixed atoms have their texts, and atoms that have a text have different ones.
pub record AreTexts (m : Names) : Type 0 where
  pub stand : FixedStand m
  pub unlike : (a b : ℕ) (t : Chars) → m a ≡ Some t → m b ≡ Some t → a ≡ b
