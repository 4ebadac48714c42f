use Rattle.std.proofs.Common.{refl}
use Rattle.clap.proofs.OnLiterals.{clap_on_literals}
use Rattle.command_line.proofs.rows.numbers_have_bounds.Goals as goal

pub returns : goal.returns
unfolding clap_on_literals
returns c = record { least = refl; most = refl; most_inferences = refl; most_cells = refl; most_choices = refl; none = refl; twice = refl }
