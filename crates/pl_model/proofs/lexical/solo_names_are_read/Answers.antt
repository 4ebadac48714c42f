use Rattle.pl_model.proofs.LexicalReads.{solo-reads}
use Rattle.pl_model.proofs.lexical.solo_names_are_read.Goals as goal

pub returns : goal.returns
returns c = solo-reads
