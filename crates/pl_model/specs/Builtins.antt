-- Built-in predicates that need nothing of the shared state, by name and arguments.
use Rattle.std.specs.Prelude.{ℕ, Option, Some, None}
use Rattle.pl_term.specs.Tree.{Chars, Trees}
use Rattle.pl_model.specs.BuiltinRows.{Row}
use Rattle.pl_model.specs.BuiltinRows as basic
use Rattle.pl_model.specs.TermBuiltins.{term_row}
use Rattle.pl_model.specs.AtomBuiltins.{atom_row}

abbrev pub or_else : Option Row → Option Row → Option Row
or_else None r = r
or_else (Some r) s = Some r

-- The row of the predicate with this name and these arguments, or none where there is no such predicate.
unfoldable pub row : Chars → Trees → ℕ → Option Row
row f ts next = or_else (basic.row f ts next) (or_else (term_row f ts next) (atom_row f ts))
