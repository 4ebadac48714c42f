-- Arguments of built-in predicates, and the lines of their tables.
use Rattle.std.specs.Prelude.{ℕ, List, [], IsSome, Option, Some, map}
use Rattle.std.specs.List.{All}
use Rattle.pl_term.specs.Tree.{Trees, trees}
use Rattle.pl_model.specs.Builtins.{row}
use Rattle.pl_model.specs.BuiltinRows as rows
use Rattle.pl_model.specs.BuiltinRows.{Answer}
use Rattle.atom_api.specs.Names.{Names}
use Rattle.term_store.specs.declared.views.Arguments.{Arguments}
use Rattle.term_store.specs.Contents.{Contents, arguments_at}
use Rattle.world_builtins.specs.Naming.{atoms_in}
use Rattle.world_builtins.specs.Spelling.{spelled, text_of}
use Rattle.builtin_rows.specs.declared.predicates.Pred.{Pred}
use Rattle.builtin_rows.specs.Predicates.{name_of}
use Rattle.builtin_rows.specs.Given.{Given, lined}

-- The atoms of the arguments are held.
abbrev pub AreHeld : Names → Contents → Arguments → Type 0
AreHeld m s a = All (λ t. All (λ x. IsSome (m x)) (atoms_in t)) (arguments_at s a)

-- The arguments, as they are read by the texts of atoms.
abbrev pub terms_of : Names → Contents → Arguments → Trees
terms_of m s a = trees (map (spelled (text_of m)) (arguments_at s a))

-- The lines of the table of a predicate.
abbrev pub lines_in : Option rows.Row → List Answer
lines_in (Some (rows.table xs)) = xs
lines_in _ = []

abbrev pub lines_of : Pred → Trees → List Answer
lines_of p ts = lines_in (row (name_of p) ts 0)

-- What the predicate gives from a line of its table on.
abbrev pub given_from : Pred → Trees → ℕ → Given
given_from p ts line = lined ts (lines_of p ts) line
