use Rattle.std.proofs.Common.{IsSome, suc, arith, refl, sym, subst}
use Rattle.std.proofs.lemmas.List.{drop_all}
use Rattle.term_store.specs.NumberedNames.{names_of, term_by}
use Rattle.world_api.specs.Texts.{text_of}
use Rattle.world_api.proofs.Gaining.{gains_nothing}
use Rattle.script_api.proofs.LaterLaws.{later_same}
use Rattle.pl_consult.specs.declared.stage.Stage.{Stage}
use Rattle.pl_consult.specs.declared.stage.Stage.TheVariants.{Starts}
use Rattle.pl_consult.specs.declared.stage.Step.{Step}
use Rattle.pl_consult.specs.declared.stage.Step.TheVariants.{Goes}
use Rattle.pl_consult.specs.FileScripts.{FileMoved}
use Rattle.pl_consult.specs.ItemTexts.{MayIntern, Narrows}
use Rattle.pl_consult.proofs.NarrowLaws.{begun_narrows, narrows_same, start_asked, started_narrows}
use Rattle.pl_consult.proofs.StartLaws.{begun_after, begun_moved, goal_at, start_after, start_names, start_stays, started_after, started_goes}
use Rattle.pl_consult.proofs.file_script.FileScript.start_next.Goals as goal

pub returns-then-at-len-clause-moved : goal.returns-then-at-len-clause-moved
returns-then-at-len-clause-moved g c name out =
    begun_moved _ name c.args.self.now c.args.operators c.args.first c.args.goals c.args.at out c.begun.result.0 c.begun.result.1 (g.W.World.told c.args.world.now)
    (drop_all c.args.at c.args.goals.items (omega arith)) c.begun.ensures

pub returns-then-at-len-clause-stage : goal.returns-then-at-len-clause-stage
returns-then-at-len-clause-stage g c = begun_after c.args.first c.begun.result.0 c.begun.result.1 c.begun.ensures

pub returns-then-at-len-clause-told : goal.returns-then-at-len-clause-told
returns-then-at-len-clause-told g c = later_same (g.W.World.told c.args.world.now) (g.W.World.told c.args.world.now) refl

pub returns-then-at-len-clause-asked : goal.returns-then-at-len-clause-asked
returns-then-at-len-clause-asked g c =
    gains_nothing (MayIntern c.args.self.now.consult c.args.self.now.words.items (Starts c.args.operators c.args.first c.args.goals c.args.at) (g.W.World.told c.args.world.now))
    (g.W.A.Atoms.asked c.args.atoms.now) (g.W.A.Atoms.asked c.args.atoms.now) refl

pub returns-then-at-len-clause-narrows : goal.returns-then-at-len-clause-narrows
returns-then-at-len-clause-narrows g c =
    begun_narrows c.args.self.now.words.items c.args.self.now.consult c.args.operators c.args.first c.args.goals c.args.at c.begun.result.0 c.begun.result.1 c.begun.ensures

pub returns-in-Ok-None-clause-moved : goal.returns-in-Ok-None-clause-moved
returns-in-Ok-None-clause-moved g c name out =
    subst
    (λ (p : Step).
    FileMoved (term_by (text_of (g.W.A.Atoms.held c.start_goal.new.atoms))) name c.args.self.now (Starts c.args.operators c.args.first c.args.goals c.args.at) (g.W.World.told c.args.world.now) out p c.args.self.now
    c.started.result.0 (g.W.World.told c.start_goal.new.world) out)
    (sym c.started.ensures.goes)
    (subst
    (λ (k : Stage).
    FileMoved (term_by (text_of (g.W.A.Atoms.held c.start_goal.new.atoms))) name c.args.self.now (Starts c.args.operators c.args.first c.args.goals c.args.at) (g.W.World.told c.args.world.now) out Goes c.args.self.now k
    (g.W.World.told c.start_goal.new.world) out)
    (sym c.started.ensures.stage)
    (started_goes (term_by (text_of (g.W.A.Atoms.held c.start_goal.new.atoms))) name c.args.self.now c.args.operators c.args.first c.args.goals c.args.at out c.index.result.now.0 c.index.result.now.1
    (g.W.World.told c.args.world.now) (g.W.World.told c.start_goal.new.world) (goal_at c.args.goals.items c.args.at c.index.result.now (omega arith) c.index.ensures) (rw c.in-Ok-None.field-0-is at c.in-Ok-None.ensures.starts)))

pub returns-in-Ok-None-clause-stage : goal.returns-in-Ok-None-clause-stage
returns-in-Ok-None-clause-stage g c =
    started_after c.args.operators c.args.first c.args.goals (suc c.args.at) c.started.result.0 c.started.result.1 c.started.ensures.stage c.started.ensures.goes

pub returns-in-Ok-None-clause-narrows : goal.returns-in-Ok-None-clause-narrows
returns-in-Ok-None-clause-narrows g c =
    subst (λ (k : Stage). Narrows c.args.self.now.words.items c.args.self.now.consult (Starts c.args.operators c.args.first c.args.goals c.args.at) c.args.self.now.consult k)
    (sym c.started.ensures.stage)
    (started_narrows c.args.self.now.words.items c.args.self.now.consult c.args.self.now.consult c.args.operators c.args.first c.args.goals c.args.at
    (suc c.args.at) refl)

pub returns-in-Ok-Some-clause-moved : goal.returns-in-Ok-Some-clause-moved
returns-in-Ok-Some-clause-moved g c name out =
    c.refuse.ensures.moved c.index.result.now.1 name (term_by (text_of (g.W.A.Atoms.held c.start_goal.new.atoms))) (g.W.World.told c.args.world.now) (g.W.World.told c.start_goal.new.world) out
    (goal_at c.args.goals.items c.args.at c.index.result.now (omega arith) c.index.ensures) (rw c.in-Ok-Some.field-0-is at c.in-Ok-Some.ensures.starts)

pub returns-in-Err-clause-moved : goal.returns-in-Err-clause-moved
returns-in-Err-clause-moved g c name out =
    start_stays _ name c.args.self.now c.args.operators c.args.first c.args.goals c.args.at c.index.result.now.0 c.index.result.now.1 c.in-Err.next
    (g.W.World.told c.args.world.now) (g.W.World.told c.start_goal.new.world) out (goal_at c.args.goals.items c.args.at c.index.result.now (omega arith) c.index.ensures) c.in-Err.ensures.starts

pub returns-in-Err-clause-stage : goal.returns-in-Err-clause-stage
returns-in-Err-clause-stage g c =
    start_after c.index.result.now.0 c.index.result.now.1 c.in-Err.next (g.W.World.told c.args.world.now) (g.W.World.told c.start_goal.new.world)
    (Starts c.args.operators c.args.first c.args.goals c.args.at) c.in-Err.ensures.starts refl

pub returns-in-Err-clause-named : goal.returns-in-Err-clause-named
returns-in-Err-clause-named g c =
    start_names (λ a. IsSome (g.W.A.Atoms.held c.start_goal.new.atoms a)) names_of c.index.result.now.0 c.index.result.now.1 c.in-Err.next
    (g.W.World.told c.args.world.now) (g.W.World.told c.start_goal.new.world) c.in-Err.ensures.starts

pub returns-in-Err-clause-narrows : goal.returns-in-Err-clause-narrows
returns-in-Err-clause-narrows g c =
    narrows_same c.args.self.now.words.items c.args.self.now.consult (Starts c.args.operators c.args.first c.args.goals c.args.at)

pub returns-in-Ok-None-clause-asked : goal.returns-in-Ok-None-clause-asked
returns-in-Ok-None-clause-asked g c =
    start_asked c.args.self.now.words.items c.args.self.now.consult c.args.operators c.args.first c.args.goals c.args.at c.index.result.now.0
    c.index.result.now.1 (g.W.World.told c.args.world.now) (g.W.A.Atoms.asked c.args.atoms.now) (g.W.A.Atoms.asked c.start_goal.new.atoms)
    (goal_at c.args.goals.items c.args.at c.index.result.now (omega arith) c.index.ensures) c.start_goal.ensures.asked

pub returns-in-Ok-Some-clause-asked : goal.returns-in-Ok-Some-clause-asked
returns-in-Ok-Some-clause-asked g c =
    start_asked c.args.self.now.words.items c.args.self.now.consult c.args.operators c.args.first c.args.goals c.args.at c.index.result.now.0
    c.index.result.now.1 (g.W.World.told c.args.world.now) (g.W.A.Atoms.asked c.args.atoms.now) (g.W.A.Atoms.asked c.start_goal.new.atoms)
    (goal_at c.args.goals.items c.args.at c.index.result.now (omega arith) c.index.ensures) c.start_goal.ensures.asked

pub returns-in-Err-clause-asked : goal.returns-in-Err-clause-asked
returns-in-Err-clause-asked g c =
    start_asked c.args.self.now.words.items c.args.self.now.consult c.args.operators c.args.first c.args.goals c.args.at c.index.result.now.0
    c.index.result.now.1 (g.W.World.told c.args.world.now) (g.W.A.Atoms.asked c.args.atoms.now) (g.W.A.Atoms.asked c.start_goal.new.atoms)
    (goal_at c.args.goals.items c.args.at c.index.result.now (omega arith) c.index.ensures) c.start_goal.ensures.asked
