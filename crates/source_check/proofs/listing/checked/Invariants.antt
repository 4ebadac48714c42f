use Rattle.std.proofs.Common.{◌≡◌, ◌≤◌, ◌+◌, ◌-◌, length}
use Rattle.source_check.specs.Checkers.{Comes, counted}
use Rattle.source_check.proofs.listing.checked.Given as goal

abbrev pub invariant-loop : goal.invariant-loop
invariant-loop l =
    Comes l.name l.bytes (l.end - l.counter) l.checker × (counted l.checker ≤ l.counter + 1) × (l.end ≡ length l.bytes + 1)
