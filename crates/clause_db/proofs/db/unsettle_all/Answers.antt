use Rattle.std.proofs.Common.{◌∙◌, arith}
use Rattle.std.specs.Prelude.{◌==◌, slice_index_or}
use Rattle.clause_db.proofs.Homes.{elsewhere, gone_more}
use Rattle.clause_db.proofs.Searched.{any_earlier, any_parts}
use Rattle.clause_db.proofs.db.unsettle_all.Goals as goal

pub loop-i-preserved : goal.loop-i-preserved
loop-i-preserved c = (
  λ k m.
      let parts = any_parts (λ q. q == k) c.args.places.now c.loop-i.i (omega (arith, c.loop-i-test.true)) 0 m in
      c.unsettle.ensures.2 k (elsewhere _ k parts.1) ∙ c.loop-i.invariant.0 k parts.0,
  λ k m.
      gone_more c.loop-i.homes c.unsettle.new.homes (slice_index_or c.args.places.now c.loop-i.i 0) k c.unsettle.ensures.1 c.unsettle.ensures.2
      (λ miss. c.loop-i.invariant.1 k (any_earlier (λ q. q == k) c.args.places.now c.loop-i.i (omega (arith, c.loop-i-test.true)) 0 miss m)),
)
