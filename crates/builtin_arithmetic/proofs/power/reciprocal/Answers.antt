use Rattle.builtin_arithmetic.proofs.Powers.{reciprocal_even, reciprocal_odd}
use Rattle.builtin_arithmetic.proofs.power.reciprocal.Goals as goal

pub returns-then-unsigned_abs-eq0 : goal.returns-then-unsigned_abs-eq0
returns-then-unsigned_abs-eq0 c =
    reciprocal_even c.args.base c.args.exponent c.unsigned_abs.result c.ranges.base c.ranges.exponent c.if-base-eqminus1.true
    c.unsigned_abs.ensures.value c.if-unsigned_abs-eq0.true

pub returns-else-unsigned_abs-eq0 : goal.returns-else-unsigned_abs-eq0
returns-else-unsigned_abs-eq0 c =
    reciprocal_odd c.args.base c.args.exponent c.unsigned_abs.result c.ranges.base c.ranges.exponent c.if-base-eqminus1.true
    c.unsigned_abs.ensures.value c.if-unsigned_abs-eq0.false
