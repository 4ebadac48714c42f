use Rattle.std.proofs.Common.{sym}
use Rattle.std.specs.Str.{chars}
use Rattle.std.proofs.lemmas.Str.{encodes-chars}
use Rattle.term_writer.proofs.Texts.{first_given}
use Rattle.builtin_atom.proofs.texts.first.Goals as goal

pub returns : goal.returns
returns c =
    first_given (chars c.args.text.now) c.args.text.now c.chars.result _ _ (sym (encodes-chars c.args.text.now c.utf8.text)) c.chars.ensures.rest c.next.ensures.steps
