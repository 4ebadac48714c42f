use Rattle.pl_model.proofs.LexicalReads.{integer-reads}
use Rattle.pl_model.proofs.lexical.integers_are_read.Goals as goal

pub returns : goal.returns
returns c = integer-reads
