use Rattle.std.proofs.Common.{refl, ◌∙◌}
use Rattle.term_store.specs.NumberedNames.{term_by}
use Rattle.world_api.specs.Texts.{text_of}
use Rattle.pl_consult.specs.declared.stage.Stage.TheVariants.{Goal}
use Rattle.pl_consult.proofs.StepLaws.{given_goal, stayed, stay_after}
use Rattle.pl_consult.specs.declared.stage.Stage.TheVariants.{AtGoal}
use Rattle.pl_consult.proofs.NarrowLaws.{narrows_bare, narrows_same}
use Rattle.pl_consult.proofs.gives.give_numbered_goal.Goals as goal

pub returns-in-Ok-clause-moved : goal.returns-in-Ok-clause-moved
returns-in-Ok-clause-moved g c file t out =
    given_goal (term_by (text_of (g.A.Atoms.held c.interned.new.atoms))) file c.args.goal c.in-Ok.kept t out (c.in-Ok.ensures.term ∙ c.requires)

pub returns-in-Err-clause-moved : goal.returns-in-Err-clause-moved
returns-in-Err-clause-moved g c file t out =
    stayed (term_by (text_of (g.A.Atoms.held c.interned.new.atoms))) file (Goal c.args.goal) t t out c.stopped.result c.stopped.ensures.stays refl refl

pub returns-in-Err-clause-stage : goal.returns-in-Err-clause-stage
returns-in-Err-clause-stage g c = stay_after c.stopped.result (Goal c.args.goal) c.stopped.ensures.stays refl

pub returns-in-Ok-clause-narrows : goal.returns-in-Ok-clause-narrows
returns-in-Ok-clause-narrows g c word file = narrows_bare word file (Goal c.args.goal) AtGoal refl refl refl

pub returns-in-Err-clause-narrows : goal.returns-in-Err-clause-narrows
returns-in-Err-clause-narrows g c word file = narrows_same word file (Goal c.args.goal)
