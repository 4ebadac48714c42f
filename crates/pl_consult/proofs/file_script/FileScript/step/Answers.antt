use Rattle.std.proofs.Common.{refl, ap, sym, subst}
use Rattle.world_api.specs.Gains.{Gains}
use Rattle.pl_consult.specs.ItemTexts.{MayIntern, Narrows, stage_texts}
use Rattle.pl_consult.proofs.NarrowLaws.{given_asked}
use Rattle.term_store.specs.NumberedNames.{term_by}
use Rattle.world_api.specs.Texts.{text_of}
use Rattle.pl_consult.specs.declared.stage.Stage.{Stage}
use Rattle.pl_consult.specs.declared.stage.Stage.TheVariants.{Directive, Goal}
use Rattle.pl_consult.specs.FileScripts.{FileMoved}
use Rattle.pl_consult.proofs.FileLaws.{file_moved}
use Rattle.pl_consult.proofs.file_script.FileScript.step.Goals as goal

pub returns-in-Directive-clause-moved : goal.returns-in-Directive-clause-moved
returns-in-Directive-clause-moved g c name =
    subst
    (λ (k : Stage).
    FileMoved (term_by (text_of (g.W.A.Atoms.held c.give_directive.new.atoms))) name c.args.self.now k (g.W.World.told c.args.world.now) c.args.text.now.items
    c.give_directive.result.1 c.args.self.now c.give_directive.result.0 (g.W.World.told c.args.world.now) c.args.text.now.items)
    (sym c.in-Directive.is)
    (file_moved (term_by (text_of (g.W.A.Atoms.held c.give_directive.new.atoms))) name c.args.self.now c.args.self.now (Directive c.in-Directive.goal c.in-Directive.place) c.give_directive.result.0
    (g.W.World.told c.args.world.now) (g.W.World.told c.args.world.now) c.args.text.now.items c.args.text.now.items c.give_directive.result.1 refl refl refl
    (c.give_directive.ensures.moved c.args.self.now.consult (g.W.World.told c.args.world.now) c.args.text.now.items))

pub returns-in-Goal-clause-moved : goal.returns-in-Goal-clause-moved
returns-in-Goal-clause-moved g c name =
    subst
    (λ (k : Stage).
    FileMoved (term_by (text_of (g.W.A.Atoms.held c.give_goal.new.atoms))) name c.args.self.now k (g.W.World.told c.args.world.now) c.args.text.now.items
    c.give_goal.result.1 c.args.self.now c.give_goal.result.0 (g.W.World.told c.args.world.now) c.args.text.now.items)
    (sym c.in-Goal.is)
    (file_moved (term_by (text_of (g.W.A.Atoms.held c.give_goal.new.atoms))) name c.args.self.now c.args.self.now (Goal c.in-Goal.goal) c.give_goal.result.0
    (g.W.World.told c.args.world.now) (g.W.World.told c.args.world.now) c.args.text.now.items c.args.text.now.items c.give_goal.result.1 refl refl refl
    (c.give_goal.ensures.moved c.args.self.now.consult (g.W.World.told c.args.world.now) c.args.text.now.items))

pub returns-in-Directive-clause-asked : goal.returns-in-Directive-clause-asked
returns-in-Directive-clause-asked g c =
    given_asked c.args.self.now.words.items c.args.self.now.consult c.args.stage c.in-Directive.goal (g.W.World.told c.args.world.now)
    (g.W.A.Atoms.asked c.args.atoms.now) (g.W.A.Atoms.asked c.give_directive.new.atoms) (ap stage_texts c.in-Directive.is) c.give_directive.ensures.asked

pub returns-in-Goal-clause-asked : goal.returns-in-Goal-clause-asked
returns-in-Goal-clause-asked g c =
    given_asked c.args.self.now.words.items c.args.self.now.consult c.args.stage c.in-Goal.goal (g.W.World.told c.args.world.now)
    (g.W.A.Atoms.asked c.args.atoms.now) (g.W.A.Atoms.asked c.give_goal.new.atoms) (ap stage_texts c.in-Goal.is) c.give_goal.ensures.asked

pub returns-in-Items-clause-moved : goal.returns-in-Items-clause-moved
returns-in-Items-clause-moved g c name =
    subst
    (λ (k : Stage).
    FileMoved (term_by (text_of (g.W.A.Atoms.held c.take_next.new.atoms))) name c.args.self.now k (g.W.World.told c.args.world.now) c.args.text.now.items
    c.take_next.result.1 c.take_next.new.self c.take_next.result.0 (g.W.World.told c.take_next.new.world) c.take_next.new.text.items)
    (sym c.in-Items.is)
    (c.take_next.ensures.moved name)

pub returns-in-Words-clause-moved : goal.returns-in-Words-clause-moved
returns-in-Words-clause-moved g c name =
    subst
    (λ (k : Stage).
    FileMoved (term_by (text_of (g.W.A.Atoms.held c.read_words.new.atoms))) name c.args.self.now k (g.W.World.told c.args.world.now) c.args.text.now.items
    c.read_words.result.1 c.read_words.new.self c.read_words.result.0 (g.W.World.told c.read_words.new.world) c.args.text.now.items)
    (sym c.in-Words.is)
    (c.read_words.ensures.moved name c.args.text.now.items)

pub returns-in-Starts-clause-moved : goal.returns-in-Starts-clause-moved
returns-in-Starts-clause-moved g c name =
    subst
    (λ (k : Stage).
    FileMoved (term_by (text_of (g.W.A.Atoms.held c.start_next.new.atoms))) name c.args.self.now k (g.W.World.told c.args.world.now) c.args.text.now.items
    c.start_next.result.1 c.start_next.new.self c.start_next.result.0 (g.W.World.told c.start_next.new.world) c.args.text.now.items)
    (sym c.in-Starts.is)
    (c.start_next.ensures.moved name c.args.text.now.items)

pub returns-in-Starts-clause-asked : goal.returns-in-Starts-clause-asked
returns-in-Starts-clause-asked g c =
    subst
    (λ (k : Stage).
    Gains (MayIntern c.args.self.now.consult c.args.self.now.words.items k (g.W.World.told c.args.world.now)) (g.W.A.Atoms.asked c.args.atoms.now)
    (g.W.A.Atoms.asked c.start_next.new.atoms))
    (sym c.in-Starts.is)
    c.start_next.ensures.asked

pub returns-in-Starts-clause-narrows : goal.returns-in-Starts-clause-narrows
returns-in-Starts-clause-narrows g c =
    subst
    (λ (k : Stage). Narrows c.args.self.now.words.items c.args.self.now.consult k c.start_next.new.self.consult c.start_next.result.0)
    (sym c.in-Starts.is)
    c.start_next.ensures.narrows
