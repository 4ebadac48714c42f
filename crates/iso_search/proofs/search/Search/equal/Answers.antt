use Rattle.std.proofs.Common.{◌∙◌}
use Rattle.pl_model.specs.Resolution.{State, Node}
use Rattle.pl_model.specs.Control.{unified}
use Rattle.pl_model.specs.Unify.{unify}
use Rattle.iso_search.specs.Outcomes.{limits_in, state_in}
use Rattle.iso_search.specs.Reading.{reads}
use Rattle.iso_search.specs.Searching.{node_of}
use Rattle.iso_search.proofs.Equalling.{equal_row, equal_run}
use Rattle.iso_search.proofs.search.Search.equal.Goals as goal

pub returns-in-Some-clause-step : goal.returns-in-Some-clause-step
returns-in-Some-clause-step c t p view =
    let e = c.args.self.now in
    let left = reads t.view e.store c.args.left in
    let right = reads t.view e.store c.args.right in
    c.in-Some.ensures.step t c.args.rest p (λ (s : State) (n : Node). unified s n (unify left right))
    ∙ equal_row (limits_in t e) (state_in t e) (node_of t.view e c.args.rest) p left right

pub returns-in_ok-outcome-in-None-clause-step : goal.returns-in_ok-outcome-in-None-clause-step
returns-in_ok-outcome-in-None-clause-step c t p view =
    equal_run t c.args.self.now c.take.new.self c.unify.new.self p c.args.left c.args.right c.args.rest c.in_ok-outcome-in-None.outcome
    c.in-None.ensures.kept (c.in-None.ensures.step t) (c.in_ok-outcome-in-None.ensures.step t p view)
