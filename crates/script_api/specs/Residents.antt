-- What holds of an engine between two slices.
use Rattle.std.specs.Prelude.{◌≡◌, ◌≤◌, ◌<◌, ◌^◌, ℕ, List, [], Option, Some, None, true}
use Rattle.std.specs.List.{All, Contains}
use Rattle.std.specs.Str.{all_scalars}
use Rattle.pl_term.specs.Tree.{Chars}
use Rattle.pl_term.specs.Texts.{size}
use Rattle.atom_api.specs.Names.{FixedStand, Names}
use Rattle.world_api.specs.Texts.{Holds}
use Rattle.world_api.specs.Told.{Told, Follows}

-- The oldest of some generations.
abbrev pub IsLeast : Option ℕ → List ℕ → Type 0
IsLeast None gs = gs ≡ []
IsLeast (Some g) gs = Contains gs g × All (λ h. g ≤ h) gs

-- Atoms can hold these texts: the fixed ones are there, no text has two atoms, and there are finitely many.
pub record CanHold (m : Names) : Type 0 where
  pub fixed : FixedStand m
  pub unlike : (a b : ℕ) (x : Chars) → m a ≡ Some x → m b ≡ Some x → a ≡ b
  pub finite : (a : ℕ) (x : Chars) → m a ≡ Some x → (a < 2 ^ 32) × (size x ≤ 248) × (all_scalars x ≡ true)

-- The engine has made no request since, others made entries, and the atoms hold what they held.
pub record Waited (m : Names) (t : Told) (n : Names) (u : Told) : Type 0 where
  pub holds : Holds m n
  pub can : CanHold n
  pub engine : u.engine ≡ t.engine
  pub goals : u.goals ≡ t.goals
  pub gens : u.gens ≡ t.gens
  pub follows : Follows t.engine t.history u.history

-- The texts of these atoms are held on, and no others are held that were not.
pub record IsKept (m n : Names) (xs : List ℕ) : Type 0 where
  pub can : CanHold m
  pub still : CanHold n
  pub fewer : Holds n m
  pub same : (a : ℕ) → Contains xs a → n a ≡ m a
