use Rattle.pl_model.proofs.LexicalReads.{end-reads}
use Rattle.pl_model.proofs.lexical.end_tokens_are_read.Goals as goal

pub returns : goal.returns
returns c = end-reads
