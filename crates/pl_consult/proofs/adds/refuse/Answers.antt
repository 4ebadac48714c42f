use Rattle.term_store.specs.NumberedNames.{term_by}
use Rattle.world_api.specs.Texts.{text_of}
use Rattle.pl_consult.specs.declared.stage.Stage.TheVariants.{Items}
use Rattle.pl_consult.proofs.AddLaws.{refuse_goes, refuse_failed}
use Rattle.std.proofs.Common.{refl}
use Rattle.pl_consult.specs.declared.stage.Stage.TheVariants.{Clause}
use Rattle.pl_consult.proofs.NarrowLaws.{narrows_bare}
use Rattle.pl_consult.proofs.adds.refuse.Goals as goal

pub returns-in-Ok-refuse-clause-moved : goal.returns-in-Ok-refuse-clause-moved
returns-in-Ok-refuse-clause-moved g c term clause kept t u renamed l =
    refuse_goes term c.args.consult.now clause kept (term_by (text_of (g.A.Atoms.held c.args.atoms.now)) c.args.error.now) c.args.place c.args.operators.now t u
    c.args.text.now.items c.refuse.new.out.items renamed l
    (rw (c.in-Ok.ensures.term, c.deref.ensures) at c.in-Ok-refuse.ensures)

pub returns-in-Err-refuse-clause-moved : goal.returns-in-Err-refuse-clause-moved
returns-in-Err-refuse-clause-moved g c term clause kept t u renamed l =
    refuse_failed term c.args.consult.now clause kept (term_by (text_of (g.A.Atoms.held c.args.atoms.now)) c.args.error.now) c.args.place c.args.operators.now t u
    c.args.text.now.items c.refuse.new.out.items Items renamed l

pub returns-in-Err-clause-moved : goal.returns-in-Err-clause-moved
returns-in-Err-clause-moved g c term clause kept t u renamed l =
    refuse_failed term c.args.consult.now clause kept (term_by (text_of (g.A.Atoms.held c.args.atoms.now)) c.args.error.now) c.args.place c.args.operators.now t u
    c.args.text.now.items c.args.text.now.items Items renamed l

pub returns-in-Ok-refuse-clause-narrows : goal.returns-in-Ok-refuse-clause-narrows
returns-in-Ok-refuse-clause-narrows g c word t =
    narrows_bare word c.args.consult.now (Clause t c.args.place c.args.operators.now) Items refl refl refl

pub returns-in-Err-refuse-clause-narrows : goal.returns-in-Err-refuse-clause-narrows
returns-in-Err-refuse-clause-narrows g c word t =
    narrows_bare word c.args.consult.now (Clause t c.args.place c.args.operators.now) Items refl refl refl

pub returns-in-Err-clause-narrows : goal.returns-in-Err-clause-narrows
returns-in-Err-clause-narrows g c word t =
    narrows_bare word c.args.consult.now (Clause t c.args.place c.args.operators.now) Items refl refl refl
