use Rattle.iso_engine.proofs.Collected.{list_given}
use Rattle.iso_engine.proofs.findall.give_list.Goals as goal

pub returns-clause-stands : goal.returns-clause-stands
returns-clause-stands c t view =
    let o = c.in_ok-outcome in
    list_given c.args.search.now c.give_list.new.self c.args.rest o.outcome c.in_ok-doing.doing c.requires.rest o.ensures.after.inside c.in_ok-doing.ensures
    c.args.list c.args.found o.ensures.step t view
