use Rattle.std.proofs.lemmas.Str.{is_utf8-from_IsUtf8}
use Rattle.atom_api.proofs.text_buf.TextBuf.put.Goals as goal

pub invariant_of-self : goal.invariant_of-self
invariant_of-self c =
    (c.requires, rw (← c.as_bytes.ensures.value, c.copy_to.ensures) (is_utf8-from_IsUtf8 _ c.as_bytes.ensures.utf8))
