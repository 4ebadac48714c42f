use Rattle.std.proofs.Common.{refl}
use Rattle.std.specs.Str.{chars}
use Rattle.pl_model.specs.LexicalTokens.{token_at}
use Rattle.pl_model.specs.TermGrammar.{item_by, term, operations, items}
use Rattle.pl_model.proofs.grammar.reads_open_brackets.Goals as goal

pub returns : goal.returns
unfolding item_by term operations items token_at chars lib.Utf8.encode
returns c = record { quote = refl; token = refl }
