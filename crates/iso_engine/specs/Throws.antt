-- An error that is thrown.
use Rattle.std.specs.Prelude.{◌≡◌, ℕ}
use Rattle.pl_term.specs.Tree.{Tree}
use Rattle.world_api.specs.declared.visit.Procedure.{Procedure}
use Rattle.iso_engine.specs.declared.doing.Doing.TheVariants.{Throwing}
use Rattle.iso_engine.specs.declared.engine.Engine.{Engine}
use Rattle.iso_engine.specs.Calling.{IsErrorBall}
use Rattle.iso_engine.specs.Parts.{IsOverAtoms}

-- The engine throws the ball of an error term in a predicate, past the tasks of a list, and is what it was beside that.
pub record Throws (error : Tree) (p : Procedure) (rest : ℕ) (e f : Engine) : Type 0 where
  pub ball : Tree
  pub is : IsErrorBall error p ball
  pub over : IsOverAtoms error
  pub doing : f ≡ record e { doing = Throwing ball rest }
