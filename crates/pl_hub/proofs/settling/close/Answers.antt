use Rattle.std.proofs.Common.{List, [], ◌∷◌, ◌++◌, ap, ◌∙◌, append-nil}
use Rattle.pl_model.specs.History.{finish}
use Rattle.pl_history.specs.Fronts.{FrontState, Life, gains}
use Rattle.pl_hub.specs.Settling.{entry}
use Rattle.pl_hub.proofs.Apart.{gains_none}
use Rattle.pl_hub.proofs.settling.close.Goals as goal

pub returns-clause-hub : goal.returns-clause-hub
returns-clause-hub g c =
    let x = entry c.args.engine (finish (g.W.ShowsHow.how c.args.how.now) (g.S.ShowsSteps.steps c.args.run.now)) in
    let was = c.args.hub.now in
    c.in-Ok.ensures.hub
    ∙ ap (λ (f : FrontState). record f { seen = f.seen ++ x ∷ []; lives = gains x c.in-Ok._place f.lives ++ [] }) c.hub_is_apart.ensures.hub
    ∙ ap (λ (ls : List Life). record was { seen = was.seen ++ x ∷ []; lives = ls ++ [] }) (gains_none x c.in-Ok._place was.lives c.hub_is_apart.ensures.apart)
    ∙ ap (λ (ls : List Life). record was { seen = was.seen ++ x ∷ []; lives = ls }) (append-nil was.lives)
