use Rattle.script_api.proofs.ComesLaws.{comes_by_request}
use Rattle.script_api.proofs.ways.execution_asks.Goals as goal

pub returns : goal.returns
returns c = comes_by_request
