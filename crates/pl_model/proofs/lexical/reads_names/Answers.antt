use Rattle.std.proofs.Common.{refl}
use Rattle.std.specs.Str.{chars, is_utf8}
use Rattle.pl_model.specs.LexicalTokens.{token_at}
use Rattle.pl_model.proofs.lexical.reads_names.Goals as goal

pub returns : goal.returns
unfolding token_at chars is_utf8
returns c = record { name = refl; variable = refl; symbols = refl; solo = refl; lone = refl; byte = refl }
