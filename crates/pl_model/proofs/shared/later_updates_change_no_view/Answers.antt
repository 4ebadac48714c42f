use Rattle.pl_model.proofs.UpdateView.{update_view}
use Rattle.pl_model.proofs.shared.later_updates_change_no_view.Goals as goal

pub returns : goal.returns
returns c = update_view
