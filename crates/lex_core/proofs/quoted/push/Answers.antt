use Rattle.std.proofs.Common.{◌∙◌, ap, string_bytes}
use Rattle.std.specs.Str.{chars}
use Rattle.std.proofs.lemmas.Str.{IsUtf8-string_bytes}
use Rattle.lex_core.proofs.LexQuoted.{chars-push}
use Rattle.lex_core.proofs.quoted.push.Goals as goal

pub returns : goal.returns
returns c =
    ap chars c.in_ok-push.ensures.bytes
    ∙ chars-push (string_bytes c.args.text.now) c.args.c (IsUtf8-string_bytes c.args.text.now) c.ranges.c.0
