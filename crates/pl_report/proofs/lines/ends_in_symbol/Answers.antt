use Rattle.std.proofs.Common.{◌∙◌}
use Rattle.pl_report.proofs.Endings.{symbol_got, symbol_none}
use Rattle.pl_report.proofs.lines.ends_in_symbol.Goals as goal

pub returns-in-Some : goal.returns-in-Some
returns-in-Some c = c.is_symbol_byte.ensures ∙ symbol_got c.args.bytes.now c.in-Some.b c.in-Some.ensures

pub returns-in-None : goal.returns-in-None
returns-in-None c = symbol_none c.args.bytes.now c.in-None.ensures
