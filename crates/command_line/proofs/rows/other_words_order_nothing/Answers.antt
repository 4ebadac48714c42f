use Rattle.std.proofs.Common.{refl}
use Rattle.clap.proofs.OnLiterals.{clap_on_literals}
use Rattle.command_line.proofs.rows.other_words_order_nothing.Goals as goal

pub returns : goal.returns
unfolding clap_on_literals
returns c = record { nothing = refl; file = refl; another = refl; help = refl; help_of_run = refl }
