use Rattle.std.proofs.Common.{refl}
use Rattle.clap.proofs.OnLiterals.{clap_on_literals}
use Rattle.command_line.proofs.rows.two_words_are_enough.Goals as goal

pub returns : goal.returns
unfolding clap_on_literals
returns c = record { goal = refl; none = refl }
