use Rattle.std.proofs.Common.{refl}
use Rattle.clap.proofs.OnLiterals.{clap_on_literals}
use Rattle.command_line.proofs.rows.workers_and_slots_are_given.Goals as goal

pub returns : goal.returns
unfolding clap_on_literals
returns c = record { least = refl; most = refl; no_worker = refl; too_many_workers = refl; too_few_slots = refl; too_many_slots = refl }
