use Rattle.std.proofs.Common.{string_bytes, ap, ◌∙◌}
use Rattle.std.specs.Str.{chars}
use Rattle.builtin_atom.proofs.TextLaws.{one_is, one_short}
use Rattle.builtin_atom.proofs.texts.one_character.Goals as goal

pub returns-clause-text : goal.returns-clause-text
returns-clause-text c =
    c.in_ok-text.ensures
    ∙ ap chars c.as_str.ensures.value
    ∙ one_is (string_bytes c.new-s.result) (string_bytes c.push.new.self) c.args.c c.new-s.ensures.bytes c.in_ok-push.ensures.bytes c.ranges.c.0

pub returns-clause-short : goal.returns-clause-short
returns-clause-short c = one_short c.args.c c.in_ok-text.text (returns-clause-text c)
