use Rattle.run_model.proofs.LawfulAlone.{alone_moves}
use Rattle.run_model.proofs.executions.moves_alone.Goals as goal

pub returns : goal.returns
returns c = alone_moves
