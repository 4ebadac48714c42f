use Rattle.pl_consult.specs.declared.stage.Stage.TheVariants.{Items}
use Rattle.pl_consult.proofs.StepLaws.{initial_moved, initial_failed, initial_after}
use Rattle.pl_consult.proofs.NarrowLaws.{next_narrows, lost_narrows}
use Rattle.pl_consult.proofs.gives.next_initialization.Goals as goal

pub returns-in-Ok-clause-moved : goal.returns-in-Ok-clause-moved
returns-in-Ok-clause-moved c term t out =
    rw c.stage_for.ensures (initial_moved term c.args.consult.now c.next_goal.new.self c.in-Ok.next t out c.requires c.in-Ok.ensures.gives)

pub returns-in-Err-clause-moved : goal.returns-in-Err-clause-moved
returns-in-Err-clause-moved c term t out = initial_failed term c.args.consult.now c.next_goal.new.self Items t out

pub returns-in-Ok-clause-stage : goal.returns-in-Ok-clause-stage
returns-in-Ok-clause-stage c = rw c.stage_for.ensures (initial_after c.in-Ok.next)

pub returns-in-Ok-clause-narrows : goal.returns-in-Ok-clause-narrows
returns-in-Ok-clause-narrows c word =
    rw c.stage_for.ensures
    (next_narrows word c.args.consult.now c.next_goal.new.self c.in-Ok.next c.in-Ok.ensures.text c.in-Ok.ensures.goal c.in-Ok.ensures.later)

pub returns-in-Err-clause-narrows : goal.returns-in-Err-clause-narrows
returns-in-Err-clause-narrows c word = lost_narrows word c.args.consult.now c.next_goal.new.self c.in-Err.ensures.text c.in-Err.ensures.later
