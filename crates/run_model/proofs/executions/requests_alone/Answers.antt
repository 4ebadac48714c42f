use Rattle.run_model.proofs.LawfulAlone.{alone_asks}
use Rattle.run_model.proofs.executions.requests_alone.Goals as goal

pub returns : goal.returns
returns c = alone_asks
