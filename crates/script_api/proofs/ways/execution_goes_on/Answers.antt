use Rattle.script_api.proofs.ComesLaws.{comes_then}
use Rattle.script_api.proofs.ways.execution_goes_on.Goals as goal

pub returns : goal.returns
returns c = comes_then
