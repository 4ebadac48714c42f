use Rattle.std.proofs.Common.{refl}
use Rattle.std.specs.Arc.{arc_value}
use Rattle.pl_term.specs.Tree.{Tree}
use Rattle.pl_consult.specs.declared.stage.Stage.TheVariants.{Items}
use Rattle.pl_consult.proofs.StepLaws.{stayed, stay_after, taken_after, item_moved, item_failed}
use Rattle.pl_consult.specs.declared.consult.Taken.TheVariants.{Passed}
use Rattle.pl_consult.proofs.NarrowLaws.{narrows_same, taken_narrows}
use Rattle.pl_consult.proofs.taking.take_item.Goals as goal

pub returns-in-Err-clause-moved : goal.returns-in-Err-clause-moved
returns-in-Err-clause-moved g c =
    stayed _ c.args.consult.now Items _ _ _ c.next_by.result c.next_by.ensures.stays c.in-Err.ensures.looks refl

pub returns-in-Ok-take-clause-moved : goal.returns-in-Ok-take-clause-moved
returns-in-Ok-take-clause-moved g c =
    rw c.stage_of.ensures
    (item_moved (λ (u : Tree). u) c.args.consult.now c.take.new.self c.args.at c.in-Ok.field-0.operators c.in-Ok.field-0.quotes c.in-Ok-take.taken _ _ _ _ c.requires.place c.in-Ok.ensures.looks
    (rw c.deref.ensures at c.in-Ok-take.ensures.took))

pub returns-in-Err-take-clause-moved : goal.returns-in-Err-take-clause-moved
returns-in-Err-take-clause-moved g c =
    item_failed (λ (u : Tree). u) c.args.consult.now c.take.new.self c.args.at (arc_value c.in-Ok.field-0.operators) c.in-Ok.field-0.quotes Items _ _ c.args.text.now.items c.args.text.now.items c.requires.place c.in-Ok.ensures.looks

pub returns-in-Err-clause-stage : goal.returns-in-Err-clause-stage
returns-in-Err-clause-stage g c = stay_after c.next_by.result Items c.next_by.ensures.stays refl

pub returns-in-Ok-take-clause-stage : goal.returns-in-Ok-take-clause-stage
returns-in-Ok-take-clause-stage g c = rw c.stage_of.ensures (taken_after c.in-Ok-take.taken c.in-Ok.field-0.operators)

pub returns-in-Err-clause-narrows : goal.returns-in-Err-clause-narrows
returns-in-Err-clause-narrows g c word = narrows_same word c.args.consult.now Items

pub returns-in-Ok-take-clause-narrows : goal.returns-in-Ok-take-clause-narrows
returns-in-Ok-take-clause-narrows g c word =
    rw c.stage_of.ensures
    (taken_narrows word c.args.consult.now c.take.new.self c.args.at c.in-Ok.field-0.operators c.in-Ok.field-0.quotes c.in-Ok-take.taken
    c.in-Ok-take.ensures.text (rw c.deref.ensures at c.in-Ok-take.ensures.item) (rw c.deref.ensures at c.in-Ok-take.ensures.later))

pub returns-in-Err-take-clause-narrows : goal.returns-in-Err-take-clause-narrows
returns-in-Err-take-clause-narrows g c word =
    taken_narrows word c.args.consult.now c.take.new.self c.args.at c.in-Ok.field-0.operators c.in-Ok.field-0.quotes Passed c.in-Err-take.ensures.text tt
    (rw c.deref.ensures at c.in-Err-take.ensures.later)
