-- Operators (ISO 6.3.4): each has a name, a priority and a specifier. The table of a program is that of `OperatorTable`.
use Rattle.std.specs.Prelude.{ℕ}
use Rattle.pl_term.specs.Tree.{Chars}

-- ISO 6.3.4, table 4. An x stands for an argument of lower priority, a y for one of at most the operator's own.
pub data Specifier : Type 0 where
  xfx : Specifier
  xfy : Specifier
  yfx : Specifier
  fx : Specifier
  fy : Specifier
  xf : Specifier
  yf : Specifier

pub record Operator : Type 0 where
  pub name : Chars
  pub priority : ℕ
  pub specifier : Specifier
