use Rattle.std.proofs.Common.{◌≡◌, drop}
use Rattle.builtin_arithmetic.specs.NodeValues.{values_of}
use Rattle.builtin_arithmetic.proofs.expressions.eval.Given as goal

abbrev pub invariant-loop-i : goal.invariant-loop-i
invariant-loop-i l = l.values ≡ values_of (drop l.i l.nodes)
