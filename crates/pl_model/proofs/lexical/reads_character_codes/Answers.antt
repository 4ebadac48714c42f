use Rattle.std.proofs.Common.{refl}
use Rattle.std.specs.Str.{chars, is_utf8}
use Rattle.pl_model.specs.LexicalTokens.{token_at}
use Rattle.pl_model.proofs.lexical.reads_character_codes.Goals as goal

pub returns : goal.returns
unfolding token_at chars is_utf8
returns c = record { letter = refl; quote = refl; control = refl; coded = refl; last = refl; lone = refl; newline = refl; bad = refl }
