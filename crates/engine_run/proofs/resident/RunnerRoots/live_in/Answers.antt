use Rattle.engine_run.specs.Roots.{stage_atoms}
use Rattle.term_store.proofs.Gathering.{gathers_both}
use Rattle.engine_run.proofs.resident.RunnerRoots.live_in.Goals as goal

pub returns : goal.returns
returns g c =
    gathers_both
    (g.S.Script.names c.args.self.now.script)
    (stage_atoms c.args.self.now.stage)
    _
    _
    _
    c.in_ok-live_in.ensures
    c.in_ok-live_at.ensures
