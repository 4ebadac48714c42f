-- The lines of the tables of built-in predicates.
use Rattle.std.specs.Prelude.{List, [], Option, Some, None}
use Rattle.pl_term.specs.Tree.{Tree}
use Rattle.pl_model.specs.BuiltinRows.{Answer, Row, gives, table, error}
use Rattle.pl_model.specs.Builtins.{row}
use Rattle.pl_model.specs.Control.{name_of}
use Rattle.pl_model.specs.Terms.{arguments}

abbrev pub table_of : Option Row → List Answer
table_of None = []
table_of (Some (gives xs)) = []
table_of (Some (table xs)) = xs
table_of (Some (error e)) = []

-- The lines of the table of the predicate that a goal calls, whose row does not depend on the next number of a variable.
abbrev pub lines_of : Tree → List Answer
lines_of t = table_of (row (name_of t) (arguments t) 0)
