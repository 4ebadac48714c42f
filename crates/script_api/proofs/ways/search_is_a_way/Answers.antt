use Rattle.script_api.proofs.SearchRuns.{steps_come}
use Rattle.script_api.proofs.ways.search_is_a_way.Goals as goal

pub returns : goal.returns
returns c = steps_come
