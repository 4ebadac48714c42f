use Rattle.std.proofs.Common.{ap, suc, sym, subst}
use Rattle.std.specs.Arc.{arc_value}
use Rattle.pl_consult.specs.declared.stage.Stage.{Stage}
use Rattle.pl_consult.specs.declared.stage.Stage.TheVariants.{Starts}
use Rattle.pl_consult.specs.declared.stage.Step.{Step}
use Rattle.pl_consult.specs.declared.stage.Step.TheVariants.{Goes}
use Rattle.pl_consult.specs.FileScripts.{FileMoved}
use Rattle.pl_consult.specs.GoalWords.{read_of}
use Rattle.pl_consult.specs.ItemTexts.{Narrows}
use Rattle.pl_consult.proofs.NarrowLaws.{started_narrows}
use Rattle.pl_consult.proofs.StartLaws.{asked_failed, refused_goes, refused_kept, started_after, started_quiet}
use Rattle.pl_consult.proofs.file_script.FileScript.refuse.Goals as goal

pub returns-in-Ok-clause-moved : goal.returns-in-Ok-clause-moved
returns-in-Ok-clause-moved c g name term t u out at l =
    let k = c.in-Ok.ensures.refused in
    subst (λ (p : Step). FileMoved term name c.args.self.now (Starts c.args.operators c.args.first c.args.goals c.args.at) t out p c.keep.new.self c.started.result.0 u out)
    (sym c.started.ensures.goes)
    (subst
    (λ (s : Stage). FileMoved term name c.args.self.now (Starts c.args.operators c.args.first c.args.goals c.args.at) t out Goes c.keep.new.self s u out)
    (sym c.started.ensures.stage)
    (refused_goes term name c.args.self.now c.args.operators c.args.first c.args.goals c.args.at out c.args.number g l.0 c.keep.new.self k.goal t u at l.1
    (refused_kept c.args.number l.0 c.args.ball (arc_value c.args.operators) k.goal k.is l.2) c.keep.ensures.file c.keep.ensures.words
    (ap read_of c.keep.ensures.read) k.put))

pub returns-in-Err-clause-moved : goal.returns-in-Err-clause-moved
returns-in-Err-clause-moved c g name term t u out at l =
    asked_failed term name c.args.self.now c.args.operators c.args.first c.args.goals c.args.at out c.args.number g _ c.keep.new.self
    (Starts c.args.operators c.args.first c.args.goals c.args.at) t u at l.1

pub returns-in-Ok-clause-stage : goal.returns-in-Ok-clause-stage
returns-in-Ok-clause-stage c =
    started_after c.args.operators c.args.first c.args.goals (suc c.args.at) c.started.result.0 c.started.result.1 c.started.ensures.stage c.started.ensures.goes

pub returns-in-Ok-clause-quiet : goal.returns-in-Ok-clause-quiet
returns-in-Ok-clause-quiet c = started_quiet c.started.result.1 c.started.ensures.goes

pub returns-in-Ok-clause-narrows : goal.returns-in-Ok-clause-narrows
returns-in-Ok-clause-narrows c =
    subst (λ (k : Stage). Narrows c.args.self.now.words.items c.args.self.now.consult (Starts c.args.operators c.args.first c.args.goals c.args.at) c.keep.new.self.consult k)
    (sym c.started.ensures.stage)
    (started_narrows c.args.self.now.words.items c.args.self.now.consult c.keep.new.self.consult c.args.operators c.args.first c.args.goals c.args.at
    (suc c.args.at) c.keep.ensures.file)

pub returns-in-Err-clause-narrows : goal.returns-in-Err-clause-narrows
returns-in-Err-clause-narrows c =
    started_narrows c.args.self.now.words.items c.args.self.now.consult c.keep.new.self.consult c.args.operators c.args.first c.args.goals c.args.at c.args.at
    c.keep.ensures.file
