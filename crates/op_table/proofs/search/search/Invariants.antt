use Rattle.std.proofs.Common.{◌-◌, ◌≤◌, length}
use Rattle.op_table.specs.Entries.{entries_of}
use Rattle.op_table.specs.Searching.{AllBefore, AllBehind}
use Rattle.op_table.proofs.search.search.Given as goal

abbrev pub invariant-loop-low : goal.invariant-loop-low
invariant-loop-low l =
    (l.low ≤ l.high)
    × (l.high ≤ length l.operators)
    × AllBefore (l.name, l.place) (entries_of l.operators) l.low
    × AllBehind (l.name, l.place) (entries_of l.operators) l.high

abbrev pub decreases-loop-low : goal.decreases-loop-low
decreases-loop-low l = l.high - l.low
