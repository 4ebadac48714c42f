-- Goals, clauses and budgets of the worked searches.
use Rattle.std.specs.Prelude.{ℕ, pos, List, None, codes}
use Rattle.pl_term.specs.Tree.{Chars, Tree, int, atom, comp, none, more}
use Rattle.pl_model.specs.History.{Clause, proc}
use Rattle.pl_model.specs.Database.{Stored}
use Rattle.pl_model.specs.Terms.{variable_count, list_term}
use Rattle.pl_model.specs.Resolution.{Limits}

abbrev pub wanting : ℕ → Limits
wanting n = record { inferences = 100; cells = 1000; choices = 100; solutions = n; stays = None }

abbrev pub ample : Limits
ample = wanting 1

abbrev pub with_inferences : ℕ → Limits
with_inferences n = record { inferences = n; cells = 1000; choices = 100; solutions = 1; stays = None }

abbrev pub with_cells : ℕ → Limits
with_cells n = record { inferences = 100; cells = n; choices = 100; solutions = 1; stays = None }

abbrev pub with_choices : ℕ → Limits
with_choices n = record { inferences = 100; cells = 1000; choices = n; solutions = 1; stays = None }

abbrev pub word : Chars → Tree
word f = atom f

abbrev pub number : ℕ → Tree
number n = int (pos n)

abbrev pub one : Chars → Tree → Tree
one f t = comp f t none

abbrev pub both : Tree → Tree → Tree
both t u = comp (codes ",") t (more u none)

abbrev pub either : Tree → Tree → Tree
either t u = comp (codes ";") t (more u none)

abbrev pub then : Tree → Tree → Tree
then t u = comp (codes "->") t (more u none)

abbrev pub equal : Tree → Tree → Tree
equal t u = comp (codes "=") t (more u none)

abbrev pub catches : Tree → Tree → Tree → Tree
catches t u v = comp (codes "catch") t (more u (more v none))

abbrev pub list : List Tree → Tree
list ts = list_term ts

-- A fact of one argument.
abbrev pub fact : Chars → Tree → Stored Clause
fact f t =
    record {
      place = 0;
      procedure = proc f 1;
      clause = record { head = comp f t none; body = atom (codes "true"); variables = variable_count t };
      erased = None;
    }
