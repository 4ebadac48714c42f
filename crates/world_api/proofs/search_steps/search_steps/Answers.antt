use Rattle.world_api.proofs.SearchStepLaws.{steps_go}
use Rattle.world_api.proofs.search_steps.search_steps.Goals as goal

pub returns : goal.returns
returns c = steps_go
