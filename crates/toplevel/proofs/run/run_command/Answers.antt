use Rattle.command_line.specs.Commands.{told_command}
use Rattle.toplevel.proofs.RunLemmas.{promised_more, unread}
use Rattle.toplevel.proofs.run.run_command.Goals as goal

pub returns-in-Err-Failed-clause-promised : goal.returns-in-Err-Failed-clause-promised
returns-in-Err-Failed-clause-promised g c =
    unread
    _
    _
    (told_command c.args.command.now)
    _
    _
    _
    c.write_unread.result
    c.write_unread.result.end
    (c.in-Err-Failed.ensures.failed c.in-Err-Failed.field-0-is)
    c.write_unread.ensures.given_up

pub returns-in-Ok-clause-promised : goal.returns-in-Ok-clause-promised
returns-in-Ok-clause-promised g c =
    promised_more
    _
    _
    (told_command c.args.command.now)
    _
    _
    _
    c.write_transcript.result
    c.write_transcript.result.end
    (c.write_transcript.ensures.promised
    (told_command c.args.command.now)
    _
    c.in-Ok.ensures.ready.0
    c.in-Ok.ensures.ready.1.0
    c.in-Ok.ensures.ready.1.1)
