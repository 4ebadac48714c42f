use Rattle.builtin_arithmetic.proofs.Powers.{stepped, too_large, zero_power, whole}
use Rattle.builtin_arithmetic.proofs.power.natural_power.Goals as goal

pub returns-then-base-eq0 : goal.returns-then-base-eq0
returns-then-base-eq0 c = rw c.if-base-eq0.true (zero_power c.args.exponent c.from.result c.from.ensures)

pub returns-in_err-power : goal.returns-in_err-power
returns-in_err-power c =
    rw c.from_residual.ensures
    (too_large c.args.base c.args.exponent c.loop-bit.bit c.loop-bit.power c.if-base-eq0.false c.loop-bit-test.true c.loop-bit.invariant.0 c.in_err-power.ensures)

pub loop-bit-preserved : goal.loop-bit-preserved
loop-bit-preserved c = (
  stepped c.args.base c.args.exponent c.loop-bit.bit c.loop-bit.power c.in_ok-power.power c.loop-bit-test.true c.loop-bit.invariant.0 c.in_ok-power.ensures.1,
  rw c.in_ok-power.ensures.1 c.in_ok-power.ensures.0,
)

pub returns : goal.returns
returns c =
    let h = whole c.args.base c.args.exponent c.loop-bit.bit c.loop-bit.power c.loop-bit-test.false c.loop-bit.invariant.0 in
    (rw (← h) c.loop-bit.invariant.1, h)
