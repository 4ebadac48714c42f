-- The lines of atom_concat/3.
use Rattle.std.specs.Prelude.{◌≡◌, ◌-◌, ◌≤◌, true, ℕ, zero, suc, List, [], ◌∷◌, take, drop, length, Option, Some, None}
use Rattle.pl_term.specs.Tree.{Chars, Trees, atom}
use Rattle.pl_model.specs.AtomBuiltins.{parts_from}
use Rattle.pl_model.specs.BuiltinRows.{Answer, plain_answer, unifying}
use Rattle.pl_model.specs.TermBuiltins.{three}
use Rattle.atom_parts.specs.declared.columns.Column.{Column}
use Rattle.atom_parts.specs.declared.columns.Value.TheVariants.{Part}
use Rattle.atom_parts.specs.declared.columns.Wanted.TheVariants.{Is}
use Rattle.atom_parts.specs.declared.splits.Splits.{Splits}
use Rattle.atom_parts.specs.Columns.{does_unify, wanted_tree}

-- The table, and the line for a place.
abbrev pub splits_of : Chars → List Answer
splits_of c = parts_from (suc (length c)) zero c

abbrev pub split_line : Chars → ℕ → Answer
split_line c k = plain_answer (three (atom (take k c)) (atom (drop k c)) (atom c))

-- What is wanted, as terms and column by column.
abbrev pub split_wanted : Chars → Splits → Trees
split_wanted text w = three (wanted_tree text w.first) (wanted_tree text w.second) (atom (take w.length text))

abbrev pub split_columns : Splits → ℕ → List Column
split_columns w k =
    record { wanted = w.first; value = Part 0 k }
    ∷ record { wanted = w.second; value = Part k (w.length - k) }
    ∷ record { wanted = Is (Part 0 w.length); value = Part 0 w.length } ∷ []

-- Of the lines from one on this is the first that unifies, or there is none.
abbrev pub IsNext : Trees → List Answer → (ℕ → Answer) → ℕ → Option ℕ → Type 0
IsNext ts xs line from None = unifying ts (drop from xs) ≡ []
IsNext ts xs line from (Some k) = unifying ts (drop from xs) ≡ line k ∷ unifying ts (drop (suc k) xs)

-- The place is within the text, and its columns unify.
abbrev pub IsSplit : Chars → Splits → Option ℕ → Type 0
IsSplit text w None = Unit {0}
IsSplit text w (Some k) = (k ≤ w.length) × (does_unify text (split_columns w k) ≡ true)

pub record IsNextSplit (text : Chars) (w : Splits) (from : ℕ) (o : Option ℕ) : Type 0 where
  pub next : IsNext (split_wanted text w) (splits_of (take w.length text)) (split_line (take w.length text)) from o
  pub splits : IsSplit text w o
