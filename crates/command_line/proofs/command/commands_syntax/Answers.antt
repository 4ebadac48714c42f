use Rattle.std.proofs.Common.{◌∙◌, ap, ap₂}
use Rattle.std.proofs.lemmas.Result.{IfOk-weaker}
use Rattle.clap.specs.Words.{App, with_subcommand}
use Rattle.command_line.proofs.command.commands_syntax.Goals as goal

pub returns : goal.returns
returns c =
    IfOk-weaker c.subcommand-3.result _ _
    (λ r h.
    h.shape c.in_ok-load.ensures.local
    ∙ ap₂ with_subcommand
    (c.in_ok-with_check.ensures.shape c.in_ok-check.ensures.local
    ∙ ap₂ with_subcommand
    (c.in_ok-with_run.ensures.shape c.in_ok-run.ensures.local
    ∙ ap₂ with_subcommand c.new.ensures.app (ap (λ (a : App). a.top) c.in_ok-run.ensures.app))
    (ap (λ (a : App). a.top) c.in_ok-check.ensures.app))
    (ap (λ (a : App). a.top) c.in_ok-load.ensures.app))
    c.subcommand-3.ensures
