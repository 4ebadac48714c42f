use Rattle.pl_model.proofs.LexicalSpans.{token_next}
use Rattle.pl_model.proofs.lexical.tokens_cover_the_text.Goals as goal

pub returns : goal.returns
returns c = token_next
