use Rattle.iso_search.specs.Live.{task_atoms}
use Rattle.term_store.proofs.Gathering.{gathers_last, gathers_next, gathers_none}
use Rattle.iso_search.proofs.live.list_frames.Goals as goal

pub loop-frame-init : goal.loop-frame-init
loop-frame-init c = gathers_none c.args.live.now

pub loop-frame-preserved : goal.loop-frame-preserved
loop-frame-preserved c =
    gathers_next (λ f. task_atoms f.task) c.args.frames.now c.loop-frame.frame-index _ c.args.live.now c.loop-frame.live c.list_task.new.live c.loop-frame-test.true c.loop-frame.invariant
    c.in_ok-list_task.ensures

pub returns : goal.returns
returns c = gathers_last (λ f. task_atoms f.task) c.args.frames.now c.loop-frame.frame-index c.args.live.now c.loop-frame.live c.loop-frame-test.false c.loop-frame.invariant
