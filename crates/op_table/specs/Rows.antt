-- Rows of a table of operators.
use Rattle.std.specs.Prelude.{ℕ, List, map}
use Rattle.std.specs.Str.{chars}
use Rattle.std.specs.Borrow.{Bor}
use Rattle.pl_model.specs.OperatorTable.{Key, Entry, place_of}
use Rattle.pl_model.specs.declared.operators.Kind.{Kind}

-- A row: a name in UTF-8, a priority and a specifier.
abbrev pub Row : Type 0
Row = Bor (List ℕ) × ℕ × Kind

abbrev pub row_entry : Row → Key × Entry
row_entry r = ((chars r.0.now, place_of r.2), (r.1, r.2))

abbrev pub row_entries : List Row → List (Key × Entry)
row_entries rs = map row_entry rs
