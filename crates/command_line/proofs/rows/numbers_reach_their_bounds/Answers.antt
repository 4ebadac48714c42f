use Rattle.std.proofs.Common.{refl}
use Rattle.clap.proofs.OnLiterals.{clap_on_literals}
use Rattle.command_line.proofs.rows.numbers_reach_their_bounds.Goals as goal

pub returns : goal.returns
unfolding clap_on_literals
returns c = refl
