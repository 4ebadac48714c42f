use Rattle.std.proofs.Common.{refl}
use Rattle.std.specs.Str.{chars, is_utf8}
use Rattle.pl_model.specs.LexicalTokens.{token_at}
use Rattle.pl_model.proofs.lexical.reads_quoted_texts.Goals as goal

pub returns : goal.returns
unfolding token_at chars is_utf8
returns c = record { doubled = refl; coded = refl; continued = refl; newline = refl; empty = refl; double = refl; back = refl }
