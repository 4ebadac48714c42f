use Rattle.std.proofs.lemmas.Str.{scalars-chars, IsUtf8-string_bytes}
use Rattle.pl_term.proofs.text.Text.scalars.Goals as goal

pub returns : goal.returns
returns c = rw (← c.self.view_is) (scalars-chars _ (IsUtf8-string_bytes c.self.inside.utf8))
