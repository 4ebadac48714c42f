use Rattle.pl_model.proofs.LexicalWritten.{code-reads}
use Rattle.pl_model.proofs.lexical.character_codes_are_read.Goals as goal

pub returns : goal.returns
returns c = code-reads
