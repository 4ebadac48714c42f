use Rattle.std.proofs.Common.{sym, ap, ◌∙◌}
use Rattle.run_model.specs.Lawful.{Program}
use Rattle.command_line.specs.Commands.{told_command}
use Rattle.toplevel.specs.RunOutcomes.{program_read}
use Rattle.toplevel.proofs.engines.run_over.Goals as goal

pub terms_for-terms-requires : goal.terms_for-terms-requires
terms_for-terms-requires g c = c.requires.program ∙ ap (program_read (told_command c.args.command.now)) (sym (ap (λ (p : Program). p.bytes) c.requires.program))
