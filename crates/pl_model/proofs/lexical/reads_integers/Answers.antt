use Rattle.std.proofs.Common.{refl}
use Rattle.std.specs.Str.{chars, is_utf8}
use Rattle.pl_model.specs.LexicalTokens.{token_at}
use Rattle.pl_model.proofs.lexical.reads_integers.Goals as goal

pub returns : goal.returns
unfolding token_at chars is_utf8
returns c = record { decimal = refl; hexadecimal = refl; octal = refl; binary = refl; none = refl; largest = refl; large = refl; float = refl }
