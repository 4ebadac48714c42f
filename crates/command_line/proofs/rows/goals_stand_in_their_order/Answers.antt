use Rattle.std.proofs.Common.{refl}
use Rattle.clap.proofs.OnLiterals.{clap_on_literals}
use Rattle.command_line.proofs.rows.goals_stand_in_their_order.Goals as goal

pub returns : goal.returns
unfolding clap_on_literals
returns c = record { several = refl; most = refl; too_many = refl }
