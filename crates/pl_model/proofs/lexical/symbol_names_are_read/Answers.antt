use Rattle.pl_model.proofs.LexicalReads.{symbol_name-reads}
use Rattle.pl_model.proofs.lexical.symbol_names_are_read.Goals as goal

pub returns : goal.returns
returns c = symbol_name-reads
