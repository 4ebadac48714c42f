-- The atoms that a seat holds, as a map from atoms to texts.
use Rattle.std.specs.Prelude.{◌≡◌, ◌<◌, ◌≤◌, ◌^◌, ◌==◌, ℕ, true, List, [], ◌∷◌, ◌++◌, Some, None, map, if◌then◌else◌}
use Rattle.std.specs.List.{list_any}
use Rattle.std.specs.Str.{all_scalars}
use Rattle.pl_term.specs.Tree.{Chars}
use Rattle.pl_term.specs.Texts.{size}
use Rattle.atom_words.specs.declared.view.Held.{Held}
use Rattle.atom_words.specs.declared.view.View.{View}
use Rattle.atom_api.specs.Names.{Names, FixedStand}
use Rattle.atom_table.specs.Holding.{unspelled}

-- the first slot of the list with the atom's number gives its text
abbrev pub named : List Held → Names
named [] k = None
named (a ∷ hs) k = if k == a.slot then Some (unspelled a.text) else named hs k

-- WHAT A SEAT HOLDS: the fixed atoms, and its own
abbrev pub names : View → Names
names v = named (v.fixed ++ v.held)

-- the texts that were asked of it
abbrev pub requests : View → List Chars
requests v = map unspelled v.asked

-- those slots held that the list names
abbrev pub those : List ℕ → List Held → List Held
those live [] = []
those live (a ∷ hs) = if list_any (λ k. k == a.slot) live then a ∷ those live hs else those live hs

-- what holds of the atoms that a seat holds: the fixed ones are there, equal texts have one atom, and all are numbers of slots with texts of at most 248 bytes
pub record Lawful (m : Names) : Type 0 where
  pub stand : FixedStand m
  pub unlike : (a b : ℕ) (t : Chars) → m a ≡ Some t → m b ≡ Some t → a ≡ b
  pub finite : (a : ℕ) (t : Chars) → m a ≡ Some t → (a < 2 ^ 32) × (size t ≤ 248) × (all_scalars t ≡ true)
