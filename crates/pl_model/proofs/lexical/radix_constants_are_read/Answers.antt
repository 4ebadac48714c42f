use Rattle.pl_model.proofs.LexicalReads.{hexadecimal-reads, octal-reads, binary-reads}
use Rattle.pl_model.proofs.lexical.radix_constants_are_read.Goals as goal

pub returns : goal.returns
returns c = record { hexadecimal = hexadecimal-reads; octal = octal-reads; binary = binary-reads }
