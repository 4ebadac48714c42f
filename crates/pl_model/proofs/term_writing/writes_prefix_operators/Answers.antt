use Rattle.std.proofs.Common.{refl}
use Rattle.std.specs.Fmt.{digits}
use Rattle.pl_model.specs.TermWriting.{text_of, pieces}
use Rattle.pl_model.proofs.term_writing.writes_prefix_operators.Goals as goal

pub returns : goal.returns
unfolding text_of pieces digits
returns c = record { number = refl; negative = refl; name = refl; twice = refl; operand = refl; operation = refl }
