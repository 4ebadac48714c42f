use Rattle.std.proofs.Common.{◌≡◌, ◌/◌, ◌^◌, ◌<◌}
use Rattle.builtin_arithmetic.proofs.power.natural_power.Given as goal

abbrev pub invariant-loop-bit : goal.invariant-loop-bit
invariant-loop-bit l = (l.power ≡ l.base ^ (l.exponent / 2 ^ l.bit)) × (l.power < 2 ^ 64)
