use Rattle.std.proofs.Common.{refl}
use Rattle.clap.proofs.OnLiterals.{clap_on_literals}
use Rattle.command_line.proofs.rows.options_stand_anywhere.Goals as goal

pub returns : goal.returns
unfolding clap_on_literals
returns c = record { before = refl; between = refl; behind = refl }
