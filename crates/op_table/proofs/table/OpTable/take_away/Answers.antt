use Rattle.std.proofs.Common.{List, sym, ap, subst, ◌∙◌}
use Rattle.std.specs.FinMap as finite
use Rattle.pl_model.specs.OperatorTable.{OperatorTable}
use Rattle.op_table.specs.declared.operator.Operator.{Operator}
use Rattle.op_table.specs.Entries.{entries_of, table_of, InOrder}
use Rattle.op_table.specs.Searching.{Found, Gap}
use Rattle.op_table.proofs.Changes.{removed_in_order, removed_table, nothing_removed}
use Rattle.op_table.proofs.table.OpTable.take_away.Goals as goal

pub invariant_of-self : goal.invariant_of-self
invariant_of-self c =
    let found = subst (λ (os : List Operator). Found (c.args.name.now, c.args.place) (entries_of os) c.in-Ok.i) c.as_slice.ensures.value c.in-Ok.ensures in
    subst InOrder (sym c.remove.ensures.items) (removed_in_order c.self.inside.operators.items c.self.invariant (c.args.name.now, c.args.place) c.in-Ok.i found c.remove.result c.remove.ensures.value)

pub returns-in-Ok : goal.returns-in-Ok
returns-in-Ok c =
    let found = subst (λ (os : List Operator). Found (c.args.name.now, c.args.place) (entries_of os) c.in-Ok.i) c.as_slice.ensures.value c.in-Ok.ensures in
    ap table_of c.remove.ensures.items
    ∙ removed_table c.self.inside.operators.items c.self.invariant (c.args.name.now, c.args.place) c.in-Ok.i found c.remove.result c.remove.ensures.value
    ∙ ap (λ (t : OperatorTable). finite.remove t (c.args.name.now, c.args.place)) c.self.view_is

pub returns-in-Err : goal.returns-in-Err
returns-in-Err c =
    let gap = subst (λ (os : List Operator). Gap (c.args.name.now, c.args.place) (entries_of os) c.in-Err.field-0) c.as_slice.ensures.value c.in-Err.ensures in
    sym c.self.view_is
    ∙ nothing_removed c.self.inside.operators.items c.self.invariant (c.args.name.now, c.args.place) c.in-Err.field-0 gap
    ∙ ap (λ (t : OperatorTable). finite.remove t (c.args.name.now, c.args.place)) c.self.view_is
