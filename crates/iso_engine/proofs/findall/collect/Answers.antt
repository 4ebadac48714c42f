use Rattle.iso_engine.proofs.Collected.{collect_done}
use Rattle.iso_engine.proofs.findall.collect.Goals as goal

pub returns-clause-step : goal.returns-clause-step
returns-clause-step c list is t view =
    let o = c.in_ok-outcome in
    collect_done c.args.search.now c.collect.new.self c.args.rest o.outcome c.in_ok-doing.doing c.requires.rest o.ensures.after.inside c.in_ok-doing.ensures
    list c.args.height c.args.template o.ensures.step is t view
