use Rattle.std.proofs.Common.{sym}
use Rattle.std.proofs.lemmas.Str.{encodes-chars, IsUtf8-string_bytes}
use Rattle.pl_term.proofs.text.TextAsStr.as_str.Goals as goal

pub returns : goal.returns
returns c =
    rw (c.as_str.ensures.value, ← c.self.view_is) (sym (encodes-chars _ (IsUtf8-string_bytes c.self.inside.utf8)))
