use Rattle.std.proofs.Common.{◌∙◌, ap, refl}
use Rattle.pl_history.specs.Fronts.{FrontState, own_runs}
use Rattle.pl_history.proofs.Lives.{own_runs_on}
use Rattle.pl_history.proofs.threads.erase.Goals as goal

pub returns-clause-runs : goal.returns-clause-runs
returns-clause-runs c =
    ap (λ (f : FrontState). own_runs f.lives) c.in-Ok.ensures.front
    ∙ own_runs_on _ c.in-Ok.place c.args.front.now.lives refl
    ∙ c.requires.runs
