use Rattle.std.proofs.Common.{sym, ◌∙◌, arith}
use Rattle.lex_core.proofs.NumberLaws.{large_from_zero}
use Rattle.lex_core.proofs.number_texts.from_zero.Goals as goal

pub returns-else-n : goal.returns-else-n
returns-else-n c o e = large_from_zero o c.in-Some.n (sym c.in-Some.is ∙ e) (omega arith)
