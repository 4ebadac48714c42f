use Rattle.std.proofs.Common.{length, sym, ap, ◌∙◌}
use Rattle.std.proofs.lemmas.Str.{encodes-chars, IsUtf8-string_bytes}
use Rattle.pl_term.specs.Texts.{size}
use Rattle.pl_term.proofs.text.Text.size.Goals as goal

pub returns : goal.returns
returns c =
    ap length c.as_str.ensures.value
    ∙ ap length (sym (encodes-chars _ (IsUtf8-string_bytes c.self.inside.utf8)))
    ∙ ap size c.self.view_is
