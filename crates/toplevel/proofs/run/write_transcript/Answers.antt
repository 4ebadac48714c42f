use Rattle.std.proofs.Common.{refl}
use Rattle.toplevel.proofs.RunLemmas.{told, untold}
use Rattle.toplevel.proofs.run.write_transcript.Goals as goal

pub returns-in-Ok-clause-promised : goal.returns-in-Ok-clause-promised
returns-in-Ok-clause-promised g c command file bytes read r =
    told
    _
    command
    file
    _
    _
    _
    c.args.ready
    bytes
    _
    read
    r
    c.deref.ensures.value
    c.in-Ok.ensures.whole
    refl
    refl
    refl

pub returns-clause-promised : goal.returns-clause-promised
returns-clause-promised g c command file bytes read r =
    (c.in-Err.ensures.failed, untold command file _ _ _ c.args.ready bytes _ read r c.deref.ensures.value c.in-Err.ensures.part refl refl)
