use Rattle.std.proofs.Common.{◌∙◌}
use Rattle.toplevel.proofs.RunLemmas.{file_bytes}
use Rattle.toplevel.proofs.run.prepare.Goals as goal

pub returns-clause-ready : goal.returns-clause-ready
returns-clause-ready g c =
    let b = file_bytes _ c.in_ok-bytes.bytes c.in_ok-bytes.ensures.within c.in_ok-bytes.ensures.bytes in
    (b.bytes, (b.are_read, c.in_ok-ready.ensures b.bytes (c.into_vec.ensures ∙ b.first)))
