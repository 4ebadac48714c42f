use Rattle.std.proofs.Common.{◌≡◌, ℕ, suc, ◌+◌, sym, subst, arith}
use Rattle.term_store.specs.Blocks.{IsClosed, Tiles}
use Rattle.term_store.proofs.Ranging.{Last, closed_joined, closed_wider, range_closed, tiles_last, tiles_more}
use Rattle.term_store.proofs.block.range_at.Goals as goal

pub loop-range-preserved : goal.loop-range-preserved
loop-range-preserved c =
    let hs = c.args.heads.now in
    let ws = c.args.args.now.items in
    let n = c.args.count in
    let inv = c.loop-range.invariant in
    let range = c.loop-range.range in
    let last = c.in-Some.last in
    let rest = c.pop.new.self.items in
    let r = c.joined-range.result in
    let j = c.joined-range.ensures in
    let t : Last hs ws n rest last 0 range.low =
    tiles_last hs ws n rest last 0 range.low (subst (λ rs. Tiles n hs ws 0 rs range.low) c.in-Some.ensures.items inv.tiles) in
    let low = j.low in
    let within = t.within in
    let below = inv.low in
    let own = inv.own in
    let second = j.second in
    record {
      low = omega arith;
      few = j.few n t.few inv.few;
      own = omega arith;
      tiles = subst (λ m. Tiles n hs ws 0 rest m) (sym low) t.before;
      closed =
          closed_joined hs ws r r.low range.low c.args.k
          (closed_wider hs ws last r r.low range.low (omega arith) j.first (subst (λ m. IsClosed hs ws last m range.low) (sym low) t.closed))
          (closed_wider hs ws range r range.low c.args.k (omega arith) second inv.closed);
    }

suc_plus : (k : ℕ) → suc k ≡ k + 1
suc_plus k = omega arith

pub returns-clause-tiles : goal.returns-clause-tiles
returns-clause-tiles c =
    let hs = c.args.heads.now in
    let ws = c.args.args.now.items in
    let n = c.args.count in
    let inv = c.loop-range.invariant in
    let range = c.loop-range.range in
    let below = inv.low in
    let parts = c.own_range-own.ensures.parts in
    tiles_more hs ws n c.loop-range.before.items range 0 (c.args.k + 1) inv.tiles inv.few (omega arith)
    (subst (λ m. IsClosed hs ws range range.low m) (suc_plus c.args.k)
    (range_closed hs ws n c.own_range-own.result range c.args.k inv.low inv.few c.loop-range-test.false inv.own inv.closed parts).closed)
