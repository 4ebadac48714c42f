use Rattle.std.proofs.Common.{◌≤◌, length}
use Rattle.term_store.specs.Blocks.{IsClosed, Tiles}
use Rattle.term_store.proofs.block.range_at.Given as goal

abbrev pub invariant-loop-range : goal.invariant-loop-range
invariant-loop-range l =
    record {
      low : l.range.low ≤ l.k;
      few : l.range.variables ≤ l.count;
      own : l.own.variables ≤ l.range.variables;
      tiles : Tiles l.count l.heads l.args.items 0 l.before.items l.range.low;
      closed : IsClosed l.heads l.args.items l.range l.range.low l.k;
    }

abbrev pub decreases-loop-range : goal.decreases-loop-range
decreases-loop-range l = length l.before.items
