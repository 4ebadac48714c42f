use Rattle.std.proofs.Common.{◌≡◌, ◌∷◌, ◌++◌, [], sym, ap, append-nil, string_bytes, ◌∙◌}
use Rattle.std.specs.Prelude.{encode_utf8}
use Rattle.std.specs.Str.{chars}
use Rattle.std.proofs.lemmas.Str.{IsUtf8-encode, IsUtf8-string_bytes, chars-append, chars-nil, chars_past_char}
use Rattle.builtin_atom.proofs.characters.push.Goals as goal

pub returns : goal.returns
returns c =
    let x = c.args.c in
    let old = string_bytes c.args.text.now in
    let one : chars (encode_utf8 x) ≡ x ∷ [] =
    chars_past_char (encode_utf8 x) [] x (IsUtf8-encode x c.ranges.c.0) (sym (append-nil (encode_utf8 x))) ∙ ap (λ cs. x ∷ cs) chars-nil in
    ap chars c.in_ok-push.ensures.bytes ∙ chars-append old (encode_utf8 x) (IsUtf8-string_bytes c.args.text.now) ∙ ap (λ cs. chars old ++ cs) one
