use Rattle.command_line.specs.Commands.{told_command}
use Rattle.load_source.specs.LoadSource.{load_source}
use Rattle.toplevel.proofs.ObeyedLaws.{load_so}
use Rattle.toplevel.proofs.load.run_load.Goals as goal

pub returns-in-Ok-clause-promised : goal.returns-in-Ok-clause-promised
returns-in-Ok-clause-promised g c =
    load_so
    _
    (told_command c.in-Ok.command)
    c.in-Ok.files
    (load_source c.args.seed c.args.size)
    _
    _
    c.run_command.result
    c.run_command.result.end
    c.in-Ok.ensures.command
    c.in-Ok.ensures.source
    c.run_command.ensures.promised
