use Rattle.std.proofs.Common.{refl, ◌∙◌}
use Rattle.term_store.specs.NumberedNames.{term_by}
use Rattle.world_api.specs.Texts.{text_of}
use Rattle.pl_consult.specs.declared.stage.Stage.TheVariants.{Directive}
use Rattle.pl_consult.proofs.StepLaws.{given, stayed, stay_after}
use Rattle.pl_consult.specs.declared.stage.Stage.TheVariants.{AtDirective}
use Rattle.pl_consult.proofs.NarrowLaws.{narrows_bare, narrows_same}
use Rattle.pl_consult.proofs.gives.give.Goals as goal

pub returns-in-Ok-clause-moved : goal.returns-in-Ok-clause-moved
returns-in-Ok-clause-moved g c file t out =
    given (term_by (text_of (g.A.Atoms.held c.interned.new.atoms))) file c.args.goal c.in-Ok.kept c.args.place t out (c.in-Ok.ensures.term ∙ c.requires)

pub returns-in-Err-clause-moved : goal.returns-in-Err-clause-moved
returns-in-Err-clause-moved g c file t out =
    stayed (term_by (text_of (g.A.Atoms.held c.interned.new.atoms))) file (Directive c.args.goal c.args.place) t t out c.stopped.result c.stopped.ensures.stays refl refl

pub returns-in-Err-clause-stage : goal.returns-in-Err-clause-stage
returns-in-Err-clause-stage g c = stay_after c.stopped.result (Directive c.args.goal c.args.place) c.stopped.ensures.stays refl

pub returns-in-Ok-clause-narrows : goal.returns-in-Ok-clause-narrows
returns-in-Ok-clause-narrows g c word file = narrows_bare word file (Directive c.args.goal c.args.place) (AtDirective c.args.place) refl refl refl

pub returns-in-Err-clause-narrows : goal.returns-in-Err-clause-narrows
returns-in-Err-clause-narrows g c word file = narrows_same word file (Directive c.args.goal c.args.place)
