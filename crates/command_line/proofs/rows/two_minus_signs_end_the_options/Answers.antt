use Rattle.std.proofs.Common.{refl}
use Rattle.clap.proofs.OnLiterals.{clap_on_literals}
use Rattle.command_line.proofs.rows.two_minus_signs_end_the_options.Goals as goal

pub returns : goal.returns
unfolding clap_on_literals
returns c = record { option = refl; word = refl }
