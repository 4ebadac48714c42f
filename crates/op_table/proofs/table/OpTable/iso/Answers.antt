use Rattle.op_table.proofs.Opening.{opening_in_order, opening_is_table}
use Rattle.op_table.proofs.table.OpTable.iso.Goals as goal

pub invariant_of-result : goal.invariant_of-result
invariant_of-result c = opening_in_order c.in_ok-operators.operators.items c.in_ok-operators.ensures

pub returns : goal.returns
returns c = opening_is_table c.in_ok-operators.operators.items c.in_ok-operators.ensures
