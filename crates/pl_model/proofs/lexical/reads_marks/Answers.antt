use Rattle.std.proofs.Common.{refl}
use Rattle.std.specs.Str.{chars, is_utf8}
use Rattle.pl_model.specs.LexicalTokens.{token_at}
use Rattle.pl_model.proofs.lexical.reads_marks.Goals as goal

pub returns : goal.returns
unfolding token_at chars is_utf8
returns c = record { functional = refl; opening = refl; bar = refl; comment = refl; unclosed = refl; nothing = refl; closes = refl; last = refl; inside = refl; two = refl }
