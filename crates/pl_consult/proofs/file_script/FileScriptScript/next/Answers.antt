use Rattle.std.proofs.Common.{refl, ap, sym, ◌∙◌, subst, append-nil, IsSome}
use Rattle.std.proofs.lemmas.List.Elements.{All-nil}
use Rattle.std.specs.Option.{option_map}
use Rattle.term_store.specs.NumberedNames.{term_by}
use Rattle.world_api.specs.Texts.{text_of}
use Rattle.pl_consult.specs.declared.stage.Stage.{Stage}
use Rattle.pl_consult.specs.declared.stage.Step.TheVariants.{Gives}
use Rattle.pl_consult.specs.Steps.{can_step}
use Rattle.pl_consult.specs.FileScripts.{FileRan, is_over, part_in}
use Rattle.world_api.specs.Gains.{Gains}
use Rattle.world_api.proofs.Gaining.{gains_nothing}
use Rattle.script_api.proofs.LaterLaws.{later_same}
use Rattle.pl_consult.specs.declared.stage.Stage.TheVariants.{Lost, Over}
use Rattle.pl_consult.specs.ItemTexts.{MayIntern, clause_at, goals_at, stage_texts}
use Rattle.pl_consult.proofs.NarrowLaws.{from_bare, narrows_bare, narrows_then, no_goal_at, no_goal_in, own_requests, own_texts, left_requests, left_texts}
use Rattle.pl_consult.proofs.GivenLaws.{given_open, given_behind, given_end, given_lost, lost_last}
use Rattle.pl_consult.proofs.file_script.FileScriptScript.next.Goals as goal

pub returns-then-can_step-clause-given : goal.returns-then-can_step-clause-given
returns-then-can_step-clause-given g c =
    let s = c.args.self.now in
    let t = g.W.World.told c.args.world.now in
    let u = g.W.World.told c.go_on.new.world in
    let text = text_of (g.W.A.Atoms.held c.go_on.new.atoms) in
    given_open (text_of (g.W.A.Atoms.held c.args.atoms.now)) text s c.go_on.new.self (option_map (λ b. b.now) c.args.ended) t u c.args.moves.now c.go_on.new.moves
    c.args.text.now.items c.go_on.new.text.items c.go_on.result
    (ap can_step (sym c.replace-stage.ensures.value) ∙ sym c.can_step.ensures ∙ c.if-can_step.true)
    c.go_on.ensures.faults
    (subst
    (λ (k : Stage).
    FileRan (term_by text) s.consult.name s k t c.args.moves.now c.args.text.now.items (Gives c.go_on.result) c.go_on.new.self c.go_on.new.self.stage u
    c.go_on.new.moves c.go_on.new.text.items)
    c.replace-stage.ensures.value
    (c.go_on.ensures.moved s.consult.name))
    c.go_on.ensures.given

pub returns-in-Ok-clause-given : goal.returns-in-Ok-clause-given
returns-in-Ok-clause-given g c =
    let s = c.args.self.now in
    let d = c.go_on-in-Ok in
    let t = g.W.World.told c.args.world.now in
    let u = g.W.World.told d.new.world in
    let text = text_of (g.W.A.Atoms.held d.new.atoms) in
    given_behind (text_of (g.W.A.Atoms.held c.args.atoms.now)) text s d.new.self (option_map (λ b. b.now) c.args.ended) c.in-Ok.ensures.report.0 c.in-AtDirective.place t u
    c.args.moves.now c.to_report.new.moves d.new.moves c.args.text.now.items d.new.text.items d.result
    (sym c.replace-stage.ensures.value ∙ c.in-AtDirective.is)
    c.in-Ok.ensures.report.1
    c.in-Ok.ensures.counted
    d.ensures.faults
    (subst
    (λ (k : Stage).
    FileRan (term_by text) s.consult.name s k t c.to_report.new.moves c.args.text.now.items (Gives d.result) d.new.self d.new.self.stage u d.new.moves
    d.new.text.items)
    c.in-Ok.ensures.report.2
    (d.ensures.moved s.consult.name))
    d.ensures.given

pub returns-in-AtDirective-clause-given : goal.returns-in-AtDirective-clause-given
returns-in-AtDirective-clause-given g c =
    given_lost (text_of (g.W.A.Atoms.held c.args.atoms.now)) (text_of (g.W.A.Atoms.held c.args.atoms.now)) c.args.self.now _ (option_map (λ b. b.now) c.args.ended)
    (g.W.World.told c.args.world.now) c.args.moves.now c.to_report.new.moves c.args.text.now.items c.replace-stage.ensures.after

pub returns-in-Ok-count-clause-given : goal.returns-in-Ok-count-clause-given
returns-in-Ok-count-clause-given g c =
    given_end (text_of (g.W.A.Atoms.held c.args.atoms.now)) (text_of (g.W.A.Atoms.held c.args.atoms.now)) c.args.self.now _ (option_map (λ b. b.now) c.args.ended)
    (g.W.World.told c.args.world.now) c.args.moves.now c.count.new.moves c.args.text.now.items (sym c.replace-stage.ensures.value ∙ c.in-AtGoal.is) refl
    c.in-Ok-count.ensures

pub returns-in-AtGoal-clause-given : goal.returns-in-AtGoal-clause-given
returns-in-AtGoal-clause-given g c =
    given_lost (text_of (g.W.A.Atoms.held c.args.atoms.now)) (text_of (g.W.A.Atoms.held c.args.atoms.now)) c.args.self.now _ (option_map (λ b. b.now) c.args.ended)
    (g.W.World.told c.args.world.now) c.args.moves.now c.count.new.moves c.args.text.now.items c.replace-stage.ensures.after

pub returns : goal.returns
returns g c =
    record {
      given =
          given_lost (text_of (g.W.A.Atoms.held c.args.atoms.now)) (text_of (g.W.A.Atoms.held c.args.atoms.now)) c.args.self.now _
          (option_map (λ b. b.now) c.args.ended) (g.W.World.told c.args.world.now) c.args.moves.now c.args.moves.now c.args.text.now.items c.replace-stage.ensures.after;
      over = ap is_over c.replace-stage.ensures.after;
      at_hand = tt;
      last = lost_last (part_in c.args.self.now);
      named = refl;
      held = All-nil (λ a. IsSome (g.W.A.Atoms.held c.args.atoms.now a));
      runs = c.requires.runs;
      holds = λ a t h. h;
      refusals = sym (append-nil (g.W.A.Atoms.refusals c.args.atoms.now));
      told = later_same (g.W.World.told c.args.world.now) (g.W.World.told c.args.world.now) refl;
      asked = gains_nothing _ (g.W.A.Atoms.asked c.args.atoms.now) (g.W.A.Atoms.asked c.args.atoms.now) refl;
      texts =
          left_texts c.args.self.now.words.items c.args.self.now.consult c.args.self.now.stage c.replace-stage.new.dest Lost c.replace-stage.ensures.after refl refl refl;
      asks =
          left_requests c.args.self.now.words.items c.args.self.now.consult c.args.self.now.stage c.replace-stage.new.dest Lost c.replace-stage.ensures.after refl refl refl;
      words = λ e job cs. refl;
      variables = λ e. refl;
      word = refl;
    }

pub returns-then-can_step-clause-asked : goal.returns-then-can_step-clause-asked
returns-then-can_step-clause-asked g c =
    let s = c.args.self.now in
    subst
    (λ (k : Stage).
    Gains (MayIntern s.consult s.words.items k (g.W.World.told c.args.world.now)) (g.W.A.Atoms.asked c.args.atoms.now) (g.W.A.Atoms.asked c.go_on.new.atoms))
    c.replace-stage.ensures.value
    c.go_on.ensures.asked

pub returns-then-can_step-clause-texts : goal.returns-then-can_step-clause-texts
returns-then-can_step-clause-texts g c =
    own_texts c.args.self.now c.go_on.new.self _ c.replace-stage.ensures.value c.go_on.ensures.words c.go_on.ensures.narrows

pub returns-then-can_step-clause-asks : goal.returns-then-can_step-clause-asks
returns-then-can_step-clause-asks g c = own_requests c.args.self.now c.go_on.new.self _ c.replace-stage.ensures.value c.go_on.ensures.words c.go_on.ensures.narrows

pub returns-then-can_step-clause-words : goal.returns-then-can_step-clause-words
returns-then-can_step-clause-words g c is =
    absurd
    (no_goal_at c.args.self.now.consult.place c.args.self.now.stage
    (ap can_step (sym c.replace-stage.ensures.value) ∙ sym c.can_step.ensures ∙ c.if-can_step.true)
    is)

pub returns-in-Ok-clause-asked : goal.returns-in-Ok-clause-asked
returns-in-Ok-clause-asked g c =
    let s = c.args.self.now in
    from_bare s.words.items s.consult s.stage c.in-Ok.stage (g.W.World.told c.args.world.now) (g.W.A.Atoms.asked c.args.atoms.now)
    (g.W.A.Atoms.asked c.go_on-in-Ok.new.atoms) (ap stage_texts c.in-Ok.ensures.report.2) (ap clause_at c.in-Ok.ensures.report.2) (ap goals_at c.in-Ok.ensures.report.2) c.go_on-in-Ok.ensures.asked

pub returns-in-Ok-clause-texts : goal.returns-in-Ok-clause-texts
returns-in-Ok-clause-texts g c =
    let s = c.args.self.now in
    let d = c.go_on-in-Ok in
    own_texts s d.new.self s.stage refl d.ensures.words
    (narrows_then s.words.items s.consult s.consult d.new.self.consult s.stage c.in-Ok.stage d.new.self.stage
    (narrows_bare s.words.items s.consult s.stage c.in-Ok.stage (ap stage_texts c.in-Ok.ensures.report.2) (ap clause_at c.in-Ok.ensures.report.2) (ap goals_at c.in-Ok.ensures.report.2)) d.ensures.narrows)

pub returns-in-Ok-clause-asks : goal.returns-in-Ok-clause-asks
returns-in-Ok-clause-asks g c =
    let s = c.args.self.now in
    let d = c.go_on-in-Ok in
    own_requests s d.new.self s.stage refl d.ensures.words
    (narrows_then s.words.items s.consult s.consult d.new.self.consult s.stage c.in-Ok.stage d.new.self.stage
    (narrows_bare s.words.items s.consult s.stage c.in-Ok.stage (ap stage_texts c.in-Ok.ensures.report.2) (ap clause_at c.in-Ok.ensures.report.2) (ap goals_at c.in-Ok.ensures.report.2)) d.ensures.narrows)

pub returns-in-Ok-clause-words : goal.returns-in-Ok-clause-words
returns-in-Ok-clause-words g c is =
    absurd
    (no_goal_in c.args.self.now.consult.place c.args.self.now.stage c.in-AtDirective.place (sym c.replace-stage.ensures.value ∙ c.in-AtDirective.is) is)

pub returns-in-AtDirective-clause-texts : goal.returns-in-AtDirective-clause-texts
returns-in-AtDirective-clause-texts g c =
    left_texts c.args.self.now.words.items c.args.self.now.consult c.args.self.now.stage c.replace-stage.new.dest Lost c.replace-stage.ensures.after refl refl refl

pub returns-in-AtDirective-clause-asks : goal.returns-in-AtDirective-clause-asks
returns-in-AtDirective-clause-asks g c =
    left_requests c.args.self.now.words.items c.args.self.now.consult c.args.self.now.stage c.replace-stage.new.dest Lost c.replace-stage.ensures.after refl refl refl

pub returns-in-Ok-count-clause-texts : goal.returns-in-Ok-count-clause-texts
returns-in-Ok-count-clause-texts g c = left_texts c.args.self.now.words.items c.args.self.now.consult c.args.self.now.stage Over Over refl refl refl refl

pub returns-in-Ok-count-clause-asks : goal.returns-in-Ok-count-clause-asks
returns-in-Ok-count-clause-asks g c = left_requests c.args.self.now.words.items c.args.self.now.consult c.args.self.now.stage Over Over refl refl refl refl

pub returns-in-AtGoal-clause-texts : goal.returns-in-AtGoal-clause-texts
returns-in-AtGoal-clause-texts g c =
    left_texts c.args.self.now.words.items c.args.self.now.consult c.args.self.now.stage c.replace-stage.new.dest Lost c.replace-stage.ensures.after refl refl refl

pub returns-in-AtGoal-clause-asks : goal.returns-in-AtGoal-clause-asks
returns-in-AtGoal-clause-asks g c =
    left_requests c.args.self.now.words.items c.args.self.now.consult c.args.self.now.stage c.replace-stage.new.dest Lost c.replace-stage.ensures.after refl refl refl

pub returns-then-can_step-clause-variables : goal.returns-then-can_step-clause-variables
returns-then-can_step-clause-variables g c is =
    absurd
    (no_goal_at c.args.self.now.consult.place c.args.self.now.stage
    (ap can_step (sym c.replace-stage.ensures.value) ∙ sym c.can_step.ensures ∙ c.if-can_step.true)
    is)

pub returns-in-Ok-clause-variables : goal.returns-in-Ok-clause-variables
returns-in-Ok-clause-variables g c is =
    absurd
    (no_goal_in c.args.self.now.consult.place c.args.self.now.stage c.in-AtDirective.place (sym c.replace-stage.ensures.value ∙ c.in-AtDirective.is) is)
