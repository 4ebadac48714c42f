use Rattle.std.specs.Prelude.{sum_by, vec_capacity}
use Rattle.gen_core.specs.Visible.{counted}
use Rattle.gen_core.proofs.Dropping.{Dropping}
use Rattle.gen_core.proofs.reclaiming.reclaim.Given as goal

abbrev pub invariant-loop-dated : goal.invariant-loop-dated
invariant-loop-dated g l = Dropping l.fn.floor l.dropped.items l.initial.d l.d (vec_capacity l.dropped)

abbrev pub decreases-loop-dated : goal.decreases-loop-dated
decreases-loop-dated g l = sum_by counted l.d
