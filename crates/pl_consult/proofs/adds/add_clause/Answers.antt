use Rattle.std.proofs.Common.{refl}
use Rattle.term_store.specs.NumberedNames.{term_by}
use Rattle.world_api.specs.Texts.{text_of}
use Rattle.pl_consult.specs.declared.stage.Stage.TheVariants.{Clause}
use Rattle.pl_consult.proofs.StepLaws.{stayed, stay_after}
use Rattle.pl_consult.proofs.NarrowLaws.{narrows_same, added_asked, given_asked}
use Rattle.pl_consult.proofs.adds.add_clause.Goals as goal

pub go_on-requires : goal.go_on-requires
go_on-requires g c = c.in-Ok-add.ensures.named

pub returns-in-Ok-add-clause-moved : goal.returns-in-Ok-add-clause-moved
returns-in-Ok-add-clause-moved g c =
    c.go_on.ensures.moved (term_by (text_of (g.W.A.Atoms.held c.go_on.new.atoms))) c.args.clause (term_by (text_of (g.W.A.Atoms.held c.interned.new.atoms)) c.in-Ok.kept)
    (g.W.World.told c.args.world.now) (g.W.World.told c.add.new.world) c.in-Ok.ensures.term c.in-Ok-add.ensures.adds

pub returns-in-Err-add-clause-moved : goal.returns-in-Err-add-clause-moved
returns-in-Err-add-clause-moved g c =
    stayed (term_by (text_of (g.W.A.Atoms.held c.add.new.atoms))) c.args.consult.now (Clause c.args.clause c.args.place c.args.operators) _ _ _ c.next_by.result
    c.next_by.ensures.stays c.in-Err-add.ensures.adds refl

pub returns-in-Err-clause-moved : goal.returns-in-Err-clause-moved
returns-in-Err-clause-moved g c =
    stayed (term_by (text_of (g.W.A.Atoms.held c.interned.new.atoms))) c.args.consult.now (Clause c.args.clause c.args.place c.args.operators) _ _ _ c.stopped.result
    c.stopped.ensures.stays refl refl

pub returns-in-Ok-add-clause-stage : goal.returns-in-Ok-add-clause-stage
returns-in-Ok-add-clause-stage g c = c.go_on.ensures.stage

pub returns-in-Err-add-clause-stage : goal.returns-in-Err-add-clause-stage
returns-in-Err-add-clause-stage g c = stay_after c.next_by.result (Clause c.args.clause c.args.place c.args.operators) c.next_by.ensures.stays refl

pub returns-in-Err-clause-stage : goal.returns-in-Err-clause-stage
returns-in-Err-clause-stage g c = stay_after c.stopped.result (Clause c.args.clause c.args.place c.args.operators) c.stopped.ensures.stays refl

pub returns-in-Ok-add-clause-asked : goal.returns-in-Ok-add-clause-asked
returns-in-Ok-add-clause-asked g c word =
    added_asked word c.args.consult.now c.args.clause (term_by (text_of (g.W.A.Atoms.held c.interned.new.atoms)) c.in-Ok.kept) c.args.place c.args.operators
    (g.W.World.told c.args.world.now) (g.W.A.Atoms.asked c.args.atoms.now) (g.W.A.Atoms.asked c.interned.new.atoms) (g.W.A.Atoms.asked c.go_on.new.atoms)
    c.in-Ok.ensures.term c.in-Ok.ensures.asked (rw c.go_on.ensures.asked c.in-Ok-add.ensures.asked)

pub returns-in-Err-add-clause-asked : goal.returns-in-Err-add-clause-asked
returns-in-Err-add-clause-asked g c word =
    added_asked word c.args.consult.now c.args.clause (term_by (text_of (g.W.A.Atoms.held c.interned.new.atoms)) c.in-Ok.kept) c.args.place c.args.operators
    (g.W.World.told c.args.world.now) (g.W.A.Atoms.asked c.args.atoms.now) (g.W.A.Atoms.asked c.interned.new.atoms) (g.W.A.Atoms.asked c.add.new.atoms)
    c.in-Ok.ensures.term c.in-Ok.ensures.asked c.in-Err-add.ensures.asked

pub returns-in-Err-clause-asked : goal.returns-in-Err-clause-asked
returns-in-Err-clause-asked g c word =
    given_asked word c.args.consult.now (Clause c.args.clause c.args.place c.args.operators) c.args.clause (g.W.World.told c.args.world.now)
    (g.W.A.Atoms.asked c.args.atoms.now) (g.W.A.Atoms.asked c.interned.new.atoms) refl c.in-Err.ensures.asked

pub returns-in-Ok-add-clause-narrows : goal.returns-in-Ok-add-clause-narrows
returns-in-Ok-add-clause-narrows g c word = c.go_on.ensures.narrows word c.args.clause

pub returns-in-Err-add-clause-narrows : goal.returns-in-Err-add-clause-narrows
returns-in-Err-add-clause-narrows g c word = narrows_same word c.args.consult.now (Clause c.args.clause c.args.place c.args.operators)

pub returns-in-Err-clause-narrows : goal.returns-in-Err-clause-narrows
returns-in-Err-clause-narrows g c word = narrows_same word c.args.consult.now (Clause c.args.clause c.args.place c.args.operators)
