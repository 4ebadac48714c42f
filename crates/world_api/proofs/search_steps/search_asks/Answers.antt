use Rattle.world_api.proofs.SearchStepLaws.{steps_ask}
use Rattle.world_api.proofs.search_steps.search_asks.Goals as goal

pub returns : goal.returns
returns c = steps_ask
