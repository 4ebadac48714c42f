-- The variables that the reader has numbered, as the grammar has them.
use Rattle.std.specs.Prelude.{◌≡◌, ℕ}
use Rattle.pl_term.specs.Tree.{Chars, var}
use Rattle.pl_model.specs.Grammar.{Reading, variable, variable_named}
pub use Rattle.prolog_reader.specs.ByHash.{pairs}
use Rattle.prolog_reader.specs.declared.names.Numbered.{Numbered}

-- How far reading has come, at a place.
abbrev pub reading_at : Numbered → ℕ → Reading
reading_at names at = record { at = at; names = pairs names.list; next = names.next }

-- The variable with this name has this number, and the names change by it as the grammar says.
abbrev pub Numbers : Numbered → Numbered → Chars → ℕ → Type 0
Numbers old new name n = (at place : ℕ) → variable_named (reading_at old at) name place ≡ variable (var n) (reading_at new place)
