-- How a term is written under operators.
use Rattle.pl_term.specs.Tree.{Chars, Tree}
use Rattle.pl_model.specs.OperatorTable.{OperatorTable}
use Rattle.pl_model.specs.TermWriting.{write, writeq}
use Rattle.world_builtins.specs.declared.styles.Style.{Style}
use Rattle.world_builtins.specs.declared.styles.Style.TheVariants.{Bare, Quoted}

abbrev pub text_by : Style → Tree → OperatorTable → Chars
text_by Bare t ops = write ops 1200 t
text_by Quoted t ops = writeq ops 1200 t
