use Rattle.std.proofs.Common.{refl}
use Rattle.pl_model.proofs.LexicalReads.{close-reads, open_list-reads, close_list-reads, open_curly-reads, close_curly-reads, bar-reads, comma-reads}
use Rattle.pl_model.proofs.lexical.punctuation_is_read.Goals as goal

pub returns : goal.returns
returns c = record { functional = λ rest. refl; opening = λ rest. refl; close = close-reads; open_list = open_list-reads; close_list = close_list-reads; open_curly = open_curly-reads; close_curly = close_curly-reads; bar = bar-reads; comma = comma-reads }
