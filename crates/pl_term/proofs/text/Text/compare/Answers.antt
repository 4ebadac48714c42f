use Rattle.std.specs.String.{string_bytes}
use Rattle.std.proofs.lemmas.Str.{IsUtf8-string_bytes}
use Rattle.pl_term.proofs.TextOrder.{bytes_order}
use Rattle.pl_term.proofs.text.Text.compare.Goals as goal

pub returns : goal.returns
returns c =
    rw (← c.self.view_is, ← c.other.view_is, c.cmp.ensures, c.as_str.ensures.value, c.as_str-2.ensures.value)
    (bytes_order
    (string_bytes c.self.inside.utf8)
    (string_bytes c.other.inside.utf8)
    (IsUtf8-string_bytes c.self.inside.utf8)
    (IsUtf8-string_bytes c.other.inside.utf8))
