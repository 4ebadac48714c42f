use Rattle.std.proofs.Common.{sym, ◌∙◌, ap, codes}
use Rattle.std.proofs.lemmas.Result.{IfOk-weaker}
use Rattle.clap.specs.Words.{found_of}
use Rattle.clap.proofs.WalkLemmas.{raw_values-rows}
use Rattle.command_line.specs.CommandLine.{words_by}
use Rattle.command_line.proofs.CommandLemmas.{texts_given}
use Rattle.command_line.proofs.command.goals_given.Goals as goal

pub returns-in-None : goal.returns-in-None
returns-in-None c = c.new.ensures.items ∙ ap words_by (c.in-None.ensures ∙ raw_values-rows (found_of c.args.given.now) (codes "GOAL"))

pub returns-in-Some : goal.returns-in-Some
returns-in-Some c =
    IfOk-weaker c.texts_of.result _ _
    (λ v h. h ∙ sym (texts_given c.in-Some.words.now) ∙ ap words_by (c.in-Some.ensures ∙ raw_values-rows (found_of c.args.given.now) (codes "GOAL")))
    c.texts_of.ensures
