use Rattle.pl_model.proofs.LexicalWritten.{written-reads}
use Rattle.pl_model.proofs.lexical.quoted_names_are_read.Goals as goal

pub returns : goal.returns
returns c = written-reads
