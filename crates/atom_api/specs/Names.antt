-- What a user of atoms holds: a finite map from atoms, which are numbers of slots, to texts.
use Rattle.std.specs.Prelude.{◌≡◌, ℕ, ◌==◌, ◌||◌, List, Option, Some, None, if◌then◌else◌}
use Rattle.std.specs.List.{list_any}
use Rattle.std.specs.Option.{is_some}
use Rattle.pl_term.specs.Tree.{Chars}
use Rattle.atom_api.specs.Fixed.{fixed}

abbrev pub Names : Type 0
Names = ℕ → Option Chars

-- The map in which the atom has the text, and all else is as before.
abbrev pub with_name : Names → ℕ → Chars → Names
with_name m a t k = if k == a then Some t else m k

-- Only the atoms of the list and the fixed atoms.
abbrev pub cut : List ℕ → Names → Names
cut live m k = if list_any (λ a. a == k) live || is_some (fixed k) then m k else None

-- The fixed atoms have their texts.
abbrev pub FixedStand : Names → Type 0
FixedStand m = (a : ℕ) (t : Chars) → fixed a ≡ Some t → m a ≡ Some t
