use Rattle.std.proofs.Common.{◌≡◌, ◌++◌, [], ◌∷◌, None, ◌∙◌, ap, sym, refl, ne_eqb}
use Rattle.pl_term.specs.Tree.{atom}
use Rattle.pl_model.specs.History.{Entry, History, start, has_begun}
use Rattle.pl_history.specs.Fronts.{FrontState, own_runs}
use Rattle.pl_history.proofs.Lives.{own_runs_on, not_begun_yet}
use Rattle.pl_history.proofs.threads.begin.Goals as goal

pub returns-clause-begun : goal.returns-clause-begun
returns-clause-begun c =
    let x : Entry = record { engine = 1; kind = start c.args.engine (atom []) None } in
    let seen : c.hand.new.hub.seen ≡ c.args.hub.now.seen ++ x ∷ [] =
    ap (λ (f : FrontState). f.seen) c.hand.ensures.hub ∙ ap (λ (f : FrontState). f.seen) c.in-Ok.ensures.hub
    in λ e other before.
    ap (λ (h : History). has_begun h e) seen
    ∙ not_begun_yet c.args.hub.now.seen x e before (ne_eqb c.args.engine e (λ s. other (sym s)))

pub returns-clause-first_runs : goal.returns-clause-first_runs
returns-clause-first_runs c =
    ap (λ (f : FrontState). own_runs f.lives) c.in-Ok.ensures.front
    ∙ own_runs_on _ c.in-Ok.field-0 c.args.first.now.lives refl
    ∙ c.requires.runs
