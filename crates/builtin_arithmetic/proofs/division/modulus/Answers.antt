use Rattle.std.proofs.Common.{ap, of_z, w64}
use Rattle.builtin_arithmetic.proofs.Divisions.{raised, kept}
use Rattle.builtin_arithmetic.proofs.division.modulus.Goals as goal

pub returns-then-turns : goal.returns-then-turns
returns-then-turns c =
    raised c.args.x c.args.y c.wrapping_rem-rest.result c.turns.result c.ranges.x c.ranges.y (λ e. c.if-y-eq0.false (ap (of_z w64) e))
    c.wrapping_rem-rest.ensures c.turns.ensures c.if-turns.true

pub returns-else-turns : goal.returns-else-turns
returns-else-turns c =
    kept c.args.x c.args.y c.wrapping_rem-rest.result c.turns.result c.ranges.x c.ranges.y (λ e. c.if-y-eq0.false (ap (of_z w64) e))
    c.wrapping_rem-rest.ensures c.turns.ensures c.if-turns.false
