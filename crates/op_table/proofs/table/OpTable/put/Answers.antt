use Rattle.std.proofs.Common.{None, Result, Ok, Err, OnErr, List, ◌≡◌, ℕ, sym, ap, subst, ◌∙◌}
use Rattle.std.specs.FinMap as finite
use Rattle.pl_term.specs.Tree.{Chars}
use Rattle.pl_model.specs.declared.operators.Kind.{Kind}
use Rattle.pl_model.specs.declared.operators.Place.{Place}
use Rattle.pl_model.specs.OperatorTable.{OperatorTable, Key, place_of, operator_at}
use Rattle.op_table.specs.declared.operator.Operator.{Operator}
use Rattle.op_table.specs.Entries.{entries_of, entry_of, table_of, InOrder}
use Rattle.op_table.specs.Searching.{Found, Gap}
use Rattle.op_table.proofs.Changes.{not_found, same_key, edited_in_order, edited_table, inserted_in_order, inserted_table}
use Rattle.op_table.proofs.table.OpTable.put.Goals as goal

-- the entry of an operator with this name, at the place of its kind
entry_is : (name f : Chars) (place : Place) (p : ℕ) (k : Kind)
    → name ≡ f
    → place ≡ place_of k
    → entry_of (record { name = name; priority = p; kind = k }) ≡ ((f, place), (p, k))
entry_is name f place p k same here = λ i. ((same i, sym here i), (p, k))

on_err : {A E : Type 0} (r : Result A E) (P : Type 0) → P → OnErr r P
on_err (Ok x) P p = tt
on_err (Err e) P p = p

pub invariant_of-self : goal.invariant_of-self
invariant_of-self c =
    let found = subst (λ (os : List Operator). Found (c.args.name.now, c.place_of.result) (entries_of os) c.in-Ok.i) c.as_slice.ensures.value c.in-Ok.ensures in
    let same = ap (λ (x : Key). x.0) (same_key c.self.inside.operators.items c.self.invariant (c.args.name.now, c.place_of.result) c.in-Ok.i found c.index_mut-operator.result.now c.index_mut-operator.ensures.value) in
    edited_in_order c.self.inside.operators.items c.self.invariant (c.args.name.now, c.place_of.result) c.in-Ok.i found c.index_mut-operator.result.now c.index_mut-operator.ensures.value
    (record { name = c.index_mut-operator.result.now.name; priority = c.args.pri; kind = c.args.kind })
    (c.args.pri, c.args.kind)
    (entry_is c.index_mut-operator.result.now.name c.args.name.now c.place_of.result c.args.pri c.args.kind (sym same) c.place_of.ensures)

pub returns-in-Ok-clause-ok : goal.returns-in-Ok-clause-ok
returns-in-Ok-clause-ok c =
    let found = subst (λ (os : List Operator). Found (c.args.name.now, c.place_of.result) (entries_of os) c.in-Ok.i) c.as_slice.ensures.value c.in-Ok.ensures in
    let same = ap (λ (x : Key). x.0) (same_key c.self.inside.operators.items c.self.invariant (c.args.name.now, c.place_of.result) c.in-Ok.i found c.index_mut-operator.result.now c.index_mut-operator.ensures.value) in
    edited_table c.self.inside.operators.items c.self.invariant (c.args.name.now, c.place_of.result) c.in-Ok.i found c.index_mut-operator.result.now c.index_mut-operator.ensures.value
    (record { name = c.index_mut-operator.result.now.name; priority = c.args.pri; kind = c.args.kind })
    (c.args.pri, c.args.kind)
    (entry_is c.index_mut-operator.result.now.name c.args.name.now c.place_of.result c.args.pri c.args.kind (sym same) c.place_of.ensures)
    ∙ ap (λ (t : OperatorTable). finite.insert t (c.args.name.now, c.place_of.result) (c.args.pri, c.args.kind)) c.self.view_is
    ∙ ap (λ (place : Place). finite.insert c.args.self.now (c.args.name.now, place) (c.args.pri, c.args.kind)) c.place_of.ensures

pub invariant_of-self-in-Continue-branch-2 : goal.invariant_of-self-in-Continue-branch-2
invariant_of-self-in-Continue-branch-2 c =
    let gap = subst (λ (os : List Operator). Gap (c.args.name.now, c.place_of.result) (entries_of os) c.in-Err.i) c.as_slice.ensures.value c.in-Err.ensures in
    subst
    InOrder
    (sym c.in_ok-insert-in-Err.ensures.items)
    (inserted_in_order c.self.inside.operators.items c.self.invariant (c.args.name.now, c.place_of.result) c.in-Err.i gap
    (record { name = c.in_ok-name-in-Err.name; priority = c.args.pri; kind = c.args.kind })
    (c.args.pri, c.args.kind)
    (entry_is c.in_ok-name-in-Err.name c.args.name.now c.place_of.result c.args.pri c.args.kind c.in_ok-name-in-Err.ensures c.place_of.ensures))

pub returns-in_ok-insert-in-Err-clause-ok : goal.returns-in_ok-insert-in-Err-clause-ok
returns-in_ok-insert-in-Err-clause-ok c =
    let gap = subst (λ (os : List Operator). Gap (c.args.name.now, c.place_of.result) (entries_of os) c.in-Err.i) c.as_slice.ensures.value c.in-Err.ensures in
    ap table_of c.in_ok-insert-in-Err.ensures.items
    ∙ inserted_table c.self.inside.operators.items c.self.invariant (c.args.name.now, c.place_of.result) c.in-Err.i gap
    (record { name = c.in_ok-name-in-Err.name; priority = c.args.pri; kind = c.args.kind })
    (c.args.pri, c.args.kind)
    (entry_is c.in_ok-name-in-Err.name c.args.name.now c.place_of.result c.args.pri c.args.kind c.in_ok-name-in-Err.ensures c.place_of.ensures)
    ∙ ap (λ (t : OperatorTable). finite.insert t (c.args.name.now, c.place_of.result) (c.args.pri, c.args.kind)) c.self.view_is
    ∙ ap (λ (place : Place). finite.insert c.args.self.now (c.args.name.now, place) (c.args.pri, c.args.kind)) c.place_of.ensures

pub returns-in_err-name-in-Err-clause-absent : goal.returns-in_err-name-in-Err-clause-absent
returns-in_err-name-in-Err-clause-absent c =
    let gap = subst (λ (os : List Operator). Gap (c.args.name.now, c.place_of.result) (entries_of os) c.in-Err.i) c.as_slice.ensures.value c.in-Err.ensures in
    on_err c.from_residual.result (operator_at c.args.self.now c.args.name.now (place_of c.args.kind) ≡ None) (
    sym (
    not_found c.self.inside.operators.items c.self.invariant (c.args.name.now, c.place_of.result) c.in-Err.i gap
    ∙ ap (λ (t : OperatorTable). operator_at t c.args.name.now c.place_of.result) c.self.view_is
    ∙ ap (operator_at c.args.self.now c.args.name.now) c.place_of.ensures
    )
    )

pub returns-in_err-insert-in-Err-clause-absent : goal.returns-in_err-insert-in-Err-clause-absent
returns-in_err-insert-in-Err-clause-absent c =
    let gap = subst (λ (os : List Operator). Gap (c.args.name.now, c.place_of.result) (entries_of os) c.in-Err.i) c.as_slice.ensures.value c.in-Err.ensures in
    on_err c.from_residual-in_err-insert-in-Err.result (operator_at c.args.self.now c.args.name.now (place_of c.args.kind) ≡ None) (
    sym (
    not_found c.self.inside.operators.items c.self.invariant (c.args.name.now, c.place_of.result) c.in-Err.i gap
    ∙ ap (λ (t : OperatorTable). operator_at t c.args.name.now c.place_of.result) c.self.view_is
    ∙ ap (operator_at c.args.self.now c.args.name.now) c.place_of.ensures
    )
    )
