use Rattle.std.proofs.Common.{◌≡◌, ℕ, Bool, Option, Some, None, sym, ap, subst, ◌∙◌}
use Rattle.std.specs.Prelude.{if◌then◌else◌}
use Rattle.atom_words.specs.Seats.{seen}
use Rattle.atom_table.specs.Naming.{names}
use Rattle.pl_model.specs.Threads.{goal_alias}
use Rattle.script_api.specs.Starts.{StartsWith}
use Rattle.iso_engine.specs.Standing.{staying}
use Rattle.engine_run.specs.declared.runner.Lines.TheVariants.{Solutions, Texts}
use Rattle.engine_run.specs.declared.runner.Runner.{Runner}
use Rattle.pl_sched.specs.Written.{word_on}
use Rattle.pl_sched.proofs.BeginLaws.{IsFresh, home_begun}
use Rattle.pl_sched.proofs.WritingLaws.{begins, on_board}
use Rattle.pl_sched.proofs.beginning.begun.Goals as goal

pub new-requires-clause-home : goal.new-requires-clause-home
new-requires-clause-home g c =
    let parts = c.into_parts-number.result in
    let made = c.new-engine in
    let terms = c.args.ground.now.terms in
    let fresh : IsFresh g.S.Script.execution g.S.Script.part g.S.Script.plays g.S.Script.kept g.S.Script.name g.S.Script.variables g.S.Script.over g.S.Script.names g.K.Command.program terms parts.number parts.goal made.result =
    record {
      starts = subst (λ s. StartsWith g.S.Script.execution g.S.Script.part g.S.Script.plays g.S.Script.over g.S.Script.kept g.S.Script.names parts.goal s) (sym made.ensures.script) c.in-Some.ensures.starts;
      stage = made.ensures.stage;
      budgets = made.ensures.budgets;
      wanted = made.ensures.wanted ∙ (c.wanted_by.ensures ∙ ap (λ (b : Bool). if b then terms.solutions else 1) c.is_of_command-of_command.ensures);
      stays = ap staying made.ensures.stays ∙ (c.stays_as.ensures ∙ ap (λ (b : Bool). if b then Some (goal_alias parts.number) else None) c.is_of_command-of_command.ensures);
      text = ap (λ t. t.items) made.ensures.text ∙ c.new-text.ensures.items;
      output = made.ensures.output;
      moves = made.ensures.moves;
    } in
    home_begun g.S.Script.execution g.S.Script.part g.S.Script.plays g.S.Script.kept g.S.Script.name g.S.Script.variables g.S.Script.over g.S.Script.names g.K.Command.program g.K.Naming.history g.K.Naming.goals parts.number parts.goal
    (names (seen parts.atoms.seat)) parts.front c.into_parts-number.ensures.new terms c.args.ground.now.terms_are made.result fresh

pub new-requires-clause-writes : goal.new-requires-clause-writes
new-requires-clause-writes g c =
    let parts = c.into_parts-number.result in
    let made = c.new-engine in
    let terms = c.args.ground.now.terms in
    let of_command = ap (λ (b : Bool). if b then Solutions else Texts) c.is_of_command-of_command.ensures in
    begins g.K.Command.program g.K.Command.file g.K.Command.board parts.number terms.goals made.result.lines (g.S.Script.name made.result.script) (g.S.Script.word made.result.script) c.into_parts-number.ensures.new.above c.args.ground.now.terms_are.goals
    (made.ensures.lines ∙ (c.lines_of.ensures ∙ of_command))
    (ap g.S.Script.word made.ensures.script
    ∙ (c.in-Some.ensures.word
    ∙ (ap (λ (o : Option ℕ). word_on (g.P.Starts.board c.args.ground.now.goals.now) o) c.goal_number.ensures
    ∙ (on_board (g.P.Starts.board c.args.ground.now.goals.now) parts.number c.is_of_command-of_command.result
    ∙ (ap (λ (n : ℕ). if c.is_of_command-of_command.result then Some (n, parts.number) else None) c.requires.board
    ∙ ap (λ (b : Bool). if b then Some (g.K.Command.board, parts.number) else None) c.is_of_command-of_command.ensures)))))
