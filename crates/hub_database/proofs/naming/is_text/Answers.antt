use Rattle.std.proofs.Common.{sym, ◌∙◌}
use Rattle.std.proofs.lemmas.Str.{chars_from_encodes}
use Rattle.hub_database.proofs.naming.is_text.Goals as goal

pub returns : goal.returns
returns c = λ yes. c.is.ensures.0 yes ∙ sym (chars_from_encodes c.args.buf.now c.as_str.result.now c.as_str.utf8 (sym c.as_str.ensures))
