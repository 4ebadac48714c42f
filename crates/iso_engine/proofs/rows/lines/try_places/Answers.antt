use Rattle.std.proofs.Common.{[], map}
use Rattle.pl_term.specs.Tree.{trees}
use Rattle.pl_model.specs.Control.{unified}
use Rattle.pl_model.specs.Resolution.{Node, State}
use Rattle.pl_model.specs.Terms.{arguments}
use Rattle.pl_model.specs.Unify.{solve_all}
use Rattle.iso_search.specs.Reading.{reads}
use Rattle.iso_engine.proofs.Unified.{tried_run}
use Rattle.iso_engine.proofs.rows.lines.try_places.Goals as goal

pub returns-in-Some-clause-step : goal.returns-in-Some-clause-step
returns-in-Some-clause-step c t p view =
    let r = reads t.view c.args.search.now.store in
    c.in-Some.ensures.step t c.args.rest p
    (λ (s : State) (n : Node). unified s n (solve_all [] (arguments (r c.args.goal)) (trees (map r c.args.places.now))))

pub returns-in_ok-outcome-in-None-clause-step : goal.returns-in_ok-outcome-in-None-clause-step
returns-in_ok-outcome-in-None-clause-step c t p view =
    tried_run t c.args.search.now c.take.new.self c.unify_places.new.search p c.args.goal c.args.places.now c.args.rest c.in_ok-outcome-in-None.outcome
    c.in-None.ensures.kept (c.in-None.ensures.step t) (c.in_ok-outcome-in-None.ensures.step t p view)
