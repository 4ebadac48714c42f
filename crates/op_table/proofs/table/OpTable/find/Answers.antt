use Rattle.std.proofs.Common.{sym, List, ap, subst, ◌∙◌}
use Rattle.pl_model.specs.OperatorTable.{OperatorTable, Key, operator_at}
use Rattle.op_table.specs.declared.operator.Operator.{Operator}
use Rattle.op_table.specs.Entries.{entries_of}
use Rattle.op_table.specs.Searching.{Found, Gap}
use Rattle.op_table.proofs.Changes.{looked_up, not_found, same_key}
use Rattle.op_table.proofs.table.OpTable.find.Goals as goal

pub returns-in-Ok-clause-entry : goal.returns-in-Ok-clause-entry
returns-in-Ok-clause-entry c =
    looked_up
    c.self.inside.operators.items
    c.self.invariant
    (c.args.name.now, c.args.place)
    c.in-Ok.i
    (subst (λ (os : List Operator). Found (c.args.name.now, c.args.place) (entries_of os) c.in-Ok.i) c.as_slice.ensures.value c.in-Ok.ensures)
    c.index-operator.result.now
    c.index-operator.ensures
    ∙ ap (λ (t : OperatorTable). operator_at t c.args.name.now c.args.place) c.self.view_is

pub returns-in-Err-clause-entry : goal.returns-in-Err-clause-entry
returns-in-Err-clause-entry c =
    not_found
    c.self.inside.operators.items
    c.self.invariant
    (c.args.name.now, c.args.place)
    c.in-Err.field-0
    (subst (λ (os : List Operator). Gap (c.args.name.now, c.args.place) (entries_of os) c.in-Err.field-0) c.as_slice.ensures.value c.in-Err.ensures)
    ∙ ap (λ (t : OperatorTable). operator_at t c.args.name.now c.args.place) c.self.view_is

pub returns-in-Ok-clause-kind : goal.returns-in-Ok-clause-kind
returns-in-Ok-clause-kind c =
    ap (λ (k : Key). k.1) (sym (same_key
    c.self.inside.operators.items
    c.self.invariant
    (c.args.name.now, c.args.place)
    c.in-Ok.i
    (subst (λ (os : List Operator). Found (c.args.name.now, c.args.place) (entries_of os) c.in-Ok.i) c.as_slice.ensures.value c.in-Ok.ensures)
    c.index-operator.result.now
    c.index-operator.ensures))
