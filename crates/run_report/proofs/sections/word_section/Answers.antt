use Rattle.std.proofs.Common.{◌≡◌, Some, sym, ◌∙◌, ap, subst}
use Rattle.std.specs.Prelude.{IfOk}
use Rattle.run_model.specs.Execution.{Word, goal_word}
use Rattle.run_model.specs.Report.{with_goal_line, word_section}
use Rattle.pl_consult.specs.GoalWords.{refusals_of, word_of}
use Rattle.run_report.specs.Sections.{IsPart}
use Rattle.run_report.proofs.sections.word_section.Goals as goal

pub returns-in-Goal : goal.returns-in-Goal
returns-in-Goal c p told finals ws i kept is at =
    let same : word_of c.args.word.now ≡ goal_word c.in-Goal.goal c.in-Goal.names.items = ap word_of c.in-Goal.is in
    subst
    (λ (v : Word). IfOk c.engine_section.result (λ s. IsPart s (with_goal_line c.args.goal.now (word_section p told finals (refusals_of c.args.refused.now) c.args.number v))))
    (sym same)
    (c.engine_section.ensures p told finals ws c.in-Goal.goal c.in-Goal.names.items i kept is (at ∙ ap Some same))
