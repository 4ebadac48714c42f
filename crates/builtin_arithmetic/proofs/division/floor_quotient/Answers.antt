use Rattle.std.proofs.Common.{ap, of_z, w64}
use Rattle.builtin_arithmetic.proofs.Divisions.{down, straight}
use Rattle.builtin_arithmetic.proofs.division.floor_quotient.Goals as goal

pub returns-then-turns : goal.returns-then-turns
returns-then-turns c =
    down c.args.x c.args.y c.in-Some.q c.wrapping_rem.result c.turns.result c.ranges.x c.ranges.y (λ e. c.if-y-eq0.false (ap (of_z w64) e))
    c.in-Some.ensures.0.1 c.in-Some.ensures.1 c.wrapping_rem.ensures c.turns.ensures c.if-turns.true

pub returns-else-turns : goal.returns-else-turns
returns-else-turns c =
    straight c.args.x c.args.y c.in-Some.q c.wrapping_rem.result c.turns.result c.ranges.x c.ranges.y (λ e. c.if-y-eq0.false (ap (of_z w64) e))
    c.in-Some.ensures.0.1 c.in-Some.ensures.1 c.wrapping_rem.ensures c.turns.ensures c.if-turns.false
