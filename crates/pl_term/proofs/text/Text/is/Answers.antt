use Rattle.std.specs.String.{string_bytes}
use Rattle.std.proofs.lemmas.Str.{IsUtf8-string_bytes}
use Rattle.pl_term.proofs.Texts.{same_chars}
use Rattle.pl_term.proofs.text.Text.is.Goals as goal

pub returns : goal.returns
returns c =
    rw (← c.self.view_is, c.eq.ensures, c.as_str.ensures.value)
    (same_chars (string_bytes c.self.inside.utf8) c.args.s.now (IsUtf8-string_bytes c.self.inside.utf8) c.utf8.s)
