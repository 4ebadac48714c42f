use Rattle.pl_sched.proofs.statuses.counted_term.Goals as goal

pub loop-preserved : goal.loop-preserved
loop-preserved g c = λ a x h. c.interned.ensures.holds a x (c.loop.invariant a x h)
