use Rattle.std.proofs.Common.{refl}
use Rattle.std.specs.Str.{chars, is_utf8}
use Rattle.pl_model.specs.LexicalTokens.{token_at}
use Rattle.pl_model.proofs.lexical.refuses_quoted_texts.Goals as goal

pub returns : goal.returns
unfolding token_at chars is_utf8
returns c = record { unclosed = refl; before = refl; escape = refl; surrogate = refl; passed = refl; byte = refl; first = refl }
