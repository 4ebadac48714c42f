use Rattle.pl_model.proofs.LexicalReads.{variable-reads}
use Rattle.pl_model.proofs.lexical.variables_are_read.Goals as goal

pub returns : goal.returns
returns c = variable-reads
