use Rattle.std.proofs.Common.{refl}
use Rattle.clap.proofs.OnLiterals.{clap_on_literals}
use Rattle.command_line.proofs.rows.load_runs_as_run_does.Goals as goal

pub returns : goal.returns
unfolding clap_on_literals
returns c = refl
