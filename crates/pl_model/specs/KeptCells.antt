-- What a clause costs in the database.
use Rattle.std.specs.Prelude.{ℕ}
use Rattle.pl_term.specs.Tree.{Tree, none, more}
use Rattle.pl_term.specs.Cells.{cells_all}
use Rattle.pl_model.specs.History.{head_part, body_part}

-- The cells of a clause that is kept as one term, a rule as its `:-` term and a fact as its head: those of its head and
-- its body, a variable of both counted once. The body of a fact is the atom true, which takes none.
abbrev pub kept_cells : Tree → ℕ
kept_cells t = cells_all (more (head_part t) (more (body_part t) none))
