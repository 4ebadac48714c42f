use Rattle.pl_model.proofs.UpdatesFit.{updates_fit}
use Rattle.pl_model.proofs.shared.updates_have_room.Goals as goal

pub returns : goal.returns
returns c = updates_fit
