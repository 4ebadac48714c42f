-- What the arguments of a predicate on the parts of an atom want.
use Rattle.std.specs.Prelude.{◌≡◌, ◌≤◌, ◌++◌, length}
use Rattle.pl_term.specs.Texts.{size}
use Rattle.pl_term.specs.Tree.{Chars, Tree, atom}
use Rattle.atom_parts.specs.declared.columns.Wanted.{Wanted}
use Rattle.atom_parts.specs.Columns.{wanted_tree}

abbrev pub IsAtom : Tree → Type 0
IsAtom t = (c : Chars) × (t ≡ atom c)

-- The text of an atom that is held.
pub record IsWhole (t : Tree) (text : Chars) : Type 0 where
  pub is : t ≡ atom text
  pub short : size text ≤ 248
  pub few : length text ≤ 248

-- The term is what is wanted, by the text and by any that it begins.
abbrev pub IsWanted : Tree → Chars → Wanted → Type 0
IsWanted t text w = (more : Chars) → wanted_tree (text ++ more) w ≡ t
