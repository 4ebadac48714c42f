use Rattle.pl_model.proofs.PresentView.{present_view}
use Rattle.pl_model.proofs.shared.present_clauses_are_seen.Goals as goal

pub returns : goal.returns
returns c = present_view
