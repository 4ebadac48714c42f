-- The lines of sub_atom/5.
use Rattle.std.specs.Prelude.{◌≡◌, ◌+◌, ◌-◌, ◌≤◌, true, ℕ, zero, suc, List, [], ◌∷◌, take, drop, length, Option, Some, None}
use Rattle.pl_term.specs.Tree.{Chars, Trees, atom}
use Rattle.pl_model.specs.AtomBuiltins.{five, number, sub_atoms_from}
use Rattle.pl_model.specs.BuiltinRows.{Answer, plain_answer, unifying}
use Rattle.atom_parts.specs.declared.columns.Column.{Column}
use Rattle.atom_parts.specs.declared.columns.Value.TheVariants.{Number, Part}
use Rattle.atom_parts.specs.declared.columns.Wanted.TheVariants.{Is}
use Rattle.atom_parts.specs.declared.parts.Parts.{Parts}
use Rattle.atom_parts.specs.declared.parts.Spot.{Spot}
use Rattle.atom_parts.specs.Columns.{does_unify, wanted_tree}

-- The table, and the line of the part with so many characters before it and so many in it.
abbrev pub parts_of : Chars → List Answer
parts_of a = sub_atoms_from (suc (length a)) zero a

abbrev pub part_line : Chars → ℕ → ℕ → Answer
part_line a b n = plain_answer (five (atom a) (number b) (number n) (number (length a - b - n)) (atom (take n (drop b a))))

-- Of an atom with so many characters the lines before those with so many more before the part.
abbrev pub lines_before : ℕ → ℕ → ℕ → ℕ
lines_before len b zero = 0
lines_before len b (suc j) = suc (len - b) + lines_before len (suc b) j

-- The line of a part.
abbrev pub line_at : Spot → ℕ
line_at p = p.first + p.count

-- The part is one of an atom with so many characters, or stands after all of them.
pub record IsSpot (len : ℕ) (p : Spot) : Type 0 where
  pub first : p.first ≡ lines_before len 0 p.before
  pub within : p.before ≤ len → p.before + p.count ≤ len
  pub past : p.before ≤ suc len

abbrev pub IsSpotOf : ℕ → ℕ → Option Spot → Type 0
IsSpotOf len line None = lines_before len 0 (suc len) ≤ line
IsSpotOf len line (Some p) = IsSpot len p × ((p.before ≤ len) × (line_at p ≡ line))

abbrev pub IsBlockAfter : ℕ → Spot → Spot → Type 0
IsBlockAfter len p q = IsSpot len q × (line_at q ≡ p.first + suc (len - p.before))

abbrev pub IsSpotAfter : ℕ → Spot → Spot → Type 0
IsSpotAfter len p q = IsSpot len q × (line_at q ≡ suc (line_at p))

-- What is wanted, as terms and column by column.
abbrev pub part_wanted : Chars → Parts → Trees
part_wanted text w =
    five (atom (take w.length text)) (wanted_tree text w.before) (wanted_tree text w.count) (wanted_tree text w.after) (wanted_tree text w.part)

abbrev pub part_columns : Parts → Spot → List Column
part_columns w p =
    record { wanted = Is (Part 0 w.length); value = Part 0 w.length }
    ∷ record { wanted = w.before; value = Number p.before }
    ∷ record { wanted = w.count; value = Number p.count }
    ∷ record { wanted = w.after; value = Number (w.length - p.before - p.count) }
    ∷ record { wanted = w.part; value = Part p.before p.count } ∷ []

-- Of the lines from one on this is the first that unifies, or there is none.
abbrev pub IsNextSpot : Trees → Chars → ℕ → Option Spot → Type 0
IsNextSpot ts a from None = unifying ts (drop from (parts_of a)) ≡ []
IsNextSpot ts a from (Some p) =
    unifying ts (drop from (parts_of a)) ≡ part_line a p.before p.count ∷ unifying ts (drop (suc (line_at p)) (parts_of a))

-- It is a part of the atom, and its columns unify.
abbrev pub IsPart : Chars → Parts → Option Spot → Type 0
IsPart text w None = Unit {0}
IsPart text w (Some p) = IsSpot w.length p × ((p.before ≤ w.length) × (does_unify text (part_columns w p) ≡ true))

pub record IsNextPart (text : Chars) (w : Parts) (from : Spot) (o : Option Spot) : Type 0 where
  pub next : IsNextSpot (part_wanted text w) (take w.length text) (line_at from) o
  pub part : IsPart text w o
