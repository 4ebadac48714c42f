use Rattle.pl_model.proofs.LexicalWritten.{doubled_single, doubled_double, doubled_back}
use Rattle.pl_model.proofs.lexical.texts_in_quotes_are_read.Goals as goal

pub returns : goal.returns
returns c = record { single = doubled_single; double = doubled_double; back = doubled_back }
