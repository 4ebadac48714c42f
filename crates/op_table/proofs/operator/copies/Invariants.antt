use Rattle.std.proofs.Common.{◌≡◌, take}
use Rattle.op_table.proofs.operator.copies.Given as goal

abbrev pub invariant-loop-operator : goal.invariant-loop-operator
invariant-loop-operator l = l.all.items ≡ take l.operator-index l.operators
