-- What the engines of a command are given.
use Rattle.std.specs.Prelude.{◌≡◌, length}
use Rattle.run_model.specs.Lawful.{Program}
use Rattle.engine_run.specs.Ran.{HasBudgets}
use Rattle.pl_sched.specs.declared.ground.Terms.{Terms}

-- THE TERMS ARE THOSE OF THE COMMAND: its limits, how many goals it has, and how many slots its table of atoms has
pub record AreTerms (p : Program) (terms : Terms) : Type 0 where
  pub budgets : HasBudgets terms.budgets p.limits
  pub solutions : p.limits.solutions ≡ terms.solutions
  pub goals : length p.words ≡ terms.goals
  pub slots : p.slots ≡ terms.slots
