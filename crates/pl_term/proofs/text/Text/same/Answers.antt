use Rattle.std.specs.String.{string_bytes}
use Rattle.std.proofs.lemmas.Str.{IsUtf8-string_bytes}
use Rattle.pl_term.proofs.Texts.{same_chars}
use Rattle.pl_term.proofs.text.Text.same.Goals as goal

pub returns : goal.returns
returns c =
    rw (← c.self.view_is, ← c.other.view_is, c.eq.ensures, c.as_str.ensures.value, c.as_str-2.ensures.value)
    (same_chars
    (string_bytes c.self.inside.utf8)
    (string_bytes c.other.inside.utf8)
    (IsUtf8-string_bytes c.self.inside.utf8)
    (IsUtf8-string_bytes c.other.inside.utf8))
