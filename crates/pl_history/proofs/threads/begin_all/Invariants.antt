use Rattle.std.proofs.Common.{◌≡◌, ◌+◌, ◌≤◌, ◌<◌, ℕ, [], true, false, All, length}
use Rattle.pl_model.specs.History.{has_begun}
use Rattle.pl_history.specs.Fronts.{new_front, own_engine, own_runs, own_updates}
use Rattle.pl_history.proofs.threads.begin_all.Given as goal

abbrev pub invariant-loop-engine : goal.invariant-loop-engine
invariant-loop-engine g l =
    (l.hub.table ≡ g.K.Naming.table)
    × (l.hub.lives ≡ [])
    × (l.first.table ≡ g.K.Naming.table)
    × (own_engine l.first.lives ≡ 1)
    × (own_runs l.first.lives ≡ true)
    × (length (own_updates l.first.lives) + 2 ≡ l.engine)
    × All (λ f. f ≡ new_front g.K.Naming.table) l.fronts.items
    × ((e : ℕ) → l.engine ≤ e → has_begun l.hub.seen e ≡ false)
    × (length l.hub.seen < l.engine)
