use Rattle.std.proofs.Common.{refl}
use Rattle.clap.proofs.OnLiterals.{clap_on_literals}
use Rattle.command_line.proofs.rows.check_has_one_word.Goals as goal

pub returns : goal.returns
unfolding clap_on_literals
returns c = record { file = refl; minus = refl; nothing = refl; goal = refl; option = refl; help = refl }
