use Rattle.std.proofs.Common.{◌≡◌, ℕ, ◌-◌, ◌<◌, ◌≤◌, false}
use Rattle.gen_core.specs.ClauseIndex.{holds}
use Rattle.gen_core.specs.Visible.{is_choice}
use Rattle.gen_core.proofs.clause_index.ClauseIndex.next_tried.Given as goal

abbrev pub invariant-loop-item : goal.invariant-loop-item
invariant-loop-item g l =
    (l.fn.from ≤ l.from)
    × ((q : ℕ) → l.fn.from ≤ q → q < l.from
    → holds l.self.clauses (is_choice g.C.Key.Ord.cmp g.C.Kept.any g.C.Kept.key_of l.g l.first) q ≡ false)

abbrev pub decreases-loop-item : goal.decreases-loop-item
decreases-loop-item g l = 18446744073709551616 - l.from
