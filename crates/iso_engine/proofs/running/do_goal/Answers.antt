use Rattle.iso_engine.proofs.Arms.{when_none}
use Rattle.iso_engine.proofs.LeftOver.{left_done}
use Rattle.iso_engine.proofs.running.do_goal.Goals as goal

pub returns-in-None-clause-done : goal.returns-in-None-clause-done
returns-in-None-clause-done c =
    let same = (when_none _ _ c.in_ok-taken.ensures.others c.in-None.is).0 in
    left_done c.args.search.now c.take_up.new.search c.args.goal c.args.cut c.args.rest c.left_over.result same c.left_over.ensures
