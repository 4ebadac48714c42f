-- What a term costs where it is stored.
use Rattle.std.specs.Prelude.{ℕ, ◌+◌, length}
use Rattle.pl_term.specs.Tree.{Tree, Trees, var, int, atom, comp, none, more, count}
use Rattle.pl_term.specs.Variables.{variables, variables_all}

-- A compound term of `n` arguments takes `n + 1` cells beside those of its arguments, an atom or an integer none.
abbrev mutual
  pub compound_cells : Tree → ℕ
  compound_cells (var x) = 0
  compound_cells (int i) = 0
  compound_cells (atom a) = 0
  compound_cells (comp f t ts) = 2 + count ts + (compound_cells t + compound_cells_all ts)

  pub compound_cells_all : Trees → ℕ
  compound_cells_all none = 0
  compound_cells_all (more t ts) = compound_cells t + compound_cells_all ts

-- The cells of a term: those of its compound terms, and one for each of its variables, however often it occurs.
abbrev pub cells : Tree → ℕ
cells t = compound_cells t + length (variables t)

-- The cells of terms that are stored together, where a variable of several terms is one variable.
abbrev pub cells_all : Trees → ℕ
cells_all ts = compound_cells_all ts + length (variables_all ts)
