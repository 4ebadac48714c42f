use Rattle.std.proofs.Common.{sym, ap, ◌∙◌}
use Rattle.std.specs.FinMap.{entries-from_sorted}
use Rattle.pl_model.specs.OperatorTable.{key_order, operators, is_placed}
use Rattle.op_table.specs.Entries.{entries_of}
use Rattle.op_table.proofs.EntriesRead.{sorted_from_order, placed}
use Rattle.op_table.proofs.table.OpTable.operators.Goals as goal

pub returns-clause-placed : goal.returns-clause-placed
returns-clause-placed c =
    ap is_placed (sym c.self.view_is) ∙ placed c.self.inside.operators.items c.self.invariant

pub returns-clause-entries : goal.returns-clause-entries
returns-clause-entries c =
    ap entries_of c.as_slice.ensures.value
    ∙ sym (entries-from_sorted key_order (entries_of c.self.inside.operators.items) (sorted_from_order c.self.inside.operators.items c.self.invariant))
    ∙ ap operators c.self.view_is
