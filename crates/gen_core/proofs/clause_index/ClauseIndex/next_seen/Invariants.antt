use Rattle.std.proofs.Common.{◌≡◌, ℕ, ◌-◌, ◌<◌, ◌≤◌, false}
use Rattle.gen_core.specs.ClauseIndex.{holds}
use Rattle.gen_core.specs.Visible.{is_visible}
use Rattle.gen_core.proofs.clause_index.ClauseIndex.next_seen.Given as goal

abbrev pub invariant-loop-number : goal.invariant-loop-number
invariant-loop-number g l =
    (l.fn.from ≤ l.from)
    × ((q : ℕ) → l.fn.from ≤ q → q < l.from → holds l.self.clauses (is_visible l.g) q ≡ false)

abbrev pub decreases-loop-number : goal.decreases-loop-number
decreases-loop-number g l = 18446744073709551616 - l.from
