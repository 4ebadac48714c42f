use Rattle.std.proofs.Common.{◌+◌, ◌∷◌, [], length-append, ap, length, sym, subst, arith}
use Rattle.term_store.specs.Blocks.{Tiles}
use Rattle.term_store.proofs.Ranging.{ranges_more}
use Rattle.term_store.proofs.block.ranges_of.Goals as goal

pub loop-k-preserved : goal.loop-k-preserved
loop-k-preserved c =
    let hs = c.args.heads.now in
    let ws = c.args.args.now.items in
    let n = c.args.count in
    let inv = c.loop-k.invariant in
    let range = c.range_at-range.result in
    let long = inv.long in
    record {
      long = omega (arith, ap length c.in_ok-push-2.ensures.items, length-append c.loop-k.all.items (range ∷ []));
      ranges =
          ranges_more hs ws n c.loop-k.k c.loop-k.all.items c.push-in-loop-k.new.self.items range inv.long inv.ranges c.range_at-range.ensures.range
          c.in_ok-push-2.ensures.items;
      tiles = subst (λ rs. Tiles n hs ws 0 rs (c.loop-k.k + 1)) (sym c.in_ok-push.ensures.items) c.range_at-range.ensures.tiles;
    }
