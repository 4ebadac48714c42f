use Rattle.std.proofs.Common.{◌≡◌, length}
use Rattle.term_store.specs.Blocks.{AreRanges, Tiles}
use Rattle.term_store.proofs.block.ranges_of.Given as goal

abbrev pub invariant-loop-k : goal.invariant-loop-k
invariant-loop-k l =
    record {
      long : length l.all.items ≡ l.k;
      ranges : AreRanges l.count l.heads l.args.items l.k l.all.items;
      tiles : Tiles l.count l.heads l.args.items 0 l.before.items l.k;
    }
