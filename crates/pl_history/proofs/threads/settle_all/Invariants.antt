use Rattle.std.proofs.Common.{◌≡◌}
use Rattle.pl_history.proofs.threads.settle_all.Given as goal

abbrev pub invariant-loop-worker : goal.invariant-loop-worker
invariant-loop-worker g l =
    (goal.iterator-loop-worker g).can_next l.worker-iterator
    × (goal.iterator-loop-worker g).is_finite l.worker-iterator
    × (l.hub.table ≡ g.K.Naming.table)
