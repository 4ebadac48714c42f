use Rattle.world_api.proofs.SearchStepLaws.{steps_follow}
use Rattle.world_api.proofs.search_steps.search_sees_others.Goals as goal

pub returns : goal.returns
returns c = steps_follow
