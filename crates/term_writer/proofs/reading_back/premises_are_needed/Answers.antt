use Rattle.std.proofs.Common.{refl}
use Rattle.std.specs.Str.{chars}
use Rattle.std.specs.Fmt.{digits}
use Rattle.pl_model.specs.LexicalTokens.{token_at}
use Rattle.pl_model.specs.TermGrammar.{item_by, term, operations, items}
use Rattle.pl_model.specs.TermWriting.{text_of, pieces}
use Rattle.term_writer.proofs.reading_back.premises_are_needed.Goals as goal

pub returns : goal.returns
unfolding item_by term operations items token_at chars lib.Utf8.encode text_of pieces digits
returns c = record { long = refl; longest = refl; large = refl; brackets = refl }
