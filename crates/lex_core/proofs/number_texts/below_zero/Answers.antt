use Rattle.std.proofs.Common.{sym, ◌∙◌, arith}
use Rattle.lex_core.proofs.NumberLaws.{large_below_zero}
use Rattle.lex_core.proofs.number_texts.below_zero.Goals as goal

pub returns-else-n-2 : goal.returns-else-n-2
returns-else-n-2 c o e = large_below_zero o c.in-Some.n (sym c.in-Some.is ∙ e) (omega arith)
