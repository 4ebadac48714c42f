use Rattle.iso_engine.proofs.LeftOver.{kind_own, left_call, left_collect, left_row, left_state, other_once, own_left}
use Rattle.iso_engine.proofs.running.left_over.Goals as goal

pub builtin_at-requires-clause-other : goal.builtin_at-requires-clause-other
builtin_at-requires-clause-other c =
    other_once c.args.store.now c.args.goal c.args.procedure c.args.kind c.is_other.result c.requires.procedure c.requires.stands c.is_other.ensures c.requires.viewed
    c.if-is_other.true

pub returns-in-Row : goal.returns-in-Row
returns-in-Row c =
    let b = c.builtin_at in
    left_row c.args.store.now c.args.goal c.args.procedure c.args.kind c.is_other.result c.requires.procedure c.requires.stands c.is_other.ensures b.result
    c.in-Row.row c.if-is_other.true b.ensures c.in-Row.is

pub returns-in-State : goal.returns-in-State
returns-in-State c =
    let b = c.builtin_at in
    left_state c.args.store.now c.args.goal c.args.procedure c.args.kind c.is_other.result c.requires.procedure c.requires.stands c.is_other.ensures b.result
    c.in-State.state c.if-is_other.true b.ensures c.in-State.is

pub returns-in-Collect : goal.returns-in-Collect
returns-in-Collect c =
    let b = c.builtin_at in
    left_collect c.args.store.now c.args.goal c.args.procedure c.args.kind c.is_other.result c.requires.procedure c.requires.stands c.is_other.ensures b.result
    c.in-Collect.collection b.ensures c.in-Collect.is

pub returns-in-No : goal.returns-in-No
returns-in-No c =
    let b = c.builtin_at in
    left_call c.args.store.now c.args.goal c.args.procedure c.args.kind c.is_other.result c.requires.procedure c.requires.stands c.is_other.ensures b.result
    c.requires.holds c.requires.callable c.if-is_other.true b.ensures c.in-No.is

pub own_step-requires : goal.own_step-requires
own_step-requires c =
    kind_own c.args.kind c.is_other.result c.is_write.result c.requires.left c.is_other.ensures c.if-is_other.false c.is_write.ensures c.if-is_write.false

pub returns-else-is_write : goal.returns-else-is_write
returns-else-is_write c =
    own_left c.args.store.now c.args.goal c.args.kind c.own_step.result c.requires.holds c.requires.inside c.requires.stands c.requires.viewed c.own_step.ensures
