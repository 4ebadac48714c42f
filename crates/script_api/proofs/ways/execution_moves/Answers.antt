use Rattle.script_api.proofs.ComesLaws.{comes_by_move}
use Rattle.script_api.proofs.ways.execution_moves.Goals as goal

pub returns : goal.returns
returns c = comes_by_move
