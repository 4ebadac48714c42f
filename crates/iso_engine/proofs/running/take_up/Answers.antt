use Rattle.std.proofs.Common.{ap, ◌∙◌}
use Rattle.pl_model.specs.Control.{take_up}
use Rattle.term_store.specs.Heap.{atom_name}
use Rattle.iso_search.specs.Outcomes.{limits_in, state_in}
use Rattle.iso_search.specs.Reading.{reads}
use Rattle.iso_search.specs.Searching.{node_of}
use Rattle.iso_search.specs.Spelling.{text_of}
use Rattle.iso_engine.proofs.Arms.{when_some}
use Rattle.iso_engine.proofs.Followed.{goal_done, run_setting}
use Rattle.iso_engine.proofs.running.take_up.Goals as goal

pub returns-in_ok-doing-in-Some-clause-step : goal.returns-in_ok-doing-in-Some-clause-step
returns-in_ok-doing-in-Some-clause-step c list is t view =
    let e = c.args.search.now in
    let f = c.take_up.new.self in
    let o = c.in-Some.outcome in
    let d = c.in_ok-doing-in-Some.doing in
    let after = when_some _ _ _ c.in_ok-taken.ensures.after c.in-Some.is in
    let step = when_some _ _ _ c.in_ok-taken.ensures.step c.in-Some.is in
    let r = run_setting t e f list c.args.rest c.args.cut c.args.goal o d in
    goal_done t e f list c.args.rest c.args.cut c.args.goal o d
    (record { name = text_of t.view.names (atom_name c.args.procedure.name); arity = c.args.procedure.arity })
    is
    c.requires.rest
    after.inside
    (c.requires.procedure t view)
    (step r view ∙ ap (take_up (limits_in r e) (state_in r e) (node_of t.view e c.args.rest) (reads t.view e.store c.args.goal) c.args.cut) (c.requires.stands t.view view))
    (c.in_ok-doing-in-Some.ensures r view)
