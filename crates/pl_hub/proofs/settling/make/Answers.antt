use Rattle.std.proofs.Common.{List, [], ◌∷◌, ◌++◌, ap, ◌∙◌}
use Rattle.pl_history.specs.Fronts.{FrontState, Life, begun_by, gains}
use Rattle.pl_hub.specs.Settling.{entry}
use Rattle.pl_hub.proofs.Apart.{gains_none}
use Rattle.pl_hub.proofs.settling.make.Goals as goal

pub returns-clause-hub : goal.returns-clause-hub
returns-clause-hub g c =
    let x = entry c.args.engine g.N.Updates.kind in
    let was = c.args.hub.now in
    c.in-Ok.ensures.hub
    ∙ ap (λ (f : FrontState). record f { seen = f.seen ++ x ∷ []; lives = gains x c.in-Ok.place f.lives ++ begun_by g.N.Updates.kind }) c.hub_is_apart.ensures.hub
    ∙ ap (λ (ls : List Life). record was { seen = was.seen ++ x ∷ []; lives = ls ++ begun_by g.N.Updates.kind }) (gains_none x c.in-Ok.place was.lives c.hub_is_apart.ensures.apart)
