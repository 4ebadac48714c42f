use Rattle.hub_threads.proofs.Served.{all_changes}
use Rattle.hub_threads.proofs.held.serving.changes_are_kept.Goals as goal

pub returns : goal.returns
returns g c = λ term t. all_changes term t
