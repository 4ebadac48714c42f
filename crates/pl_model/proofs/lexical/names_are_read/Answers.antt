use Rattle.pl_model.proofs.LexicalReads.{name-reads}
use Rattle.pl_model.proofs.lexical.names_are_read.Goals as goal

pub returns : goal.returns
returns c = name-reads
