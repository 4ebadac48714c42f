-- Manners, operators and the forms of compound terms, as the writer's code has them.
use Rattle.std.specs.Prelude.{Option, Some, None}
use Rattle.std.specs.Borrow.{Bor}
use Rattle.pl_model.specs.OperatorTable.{OperatorTable, operator_at}
use Rattle.pl_model.specs.TermGrammar.{Lookup}
use Rattle.pl_model.specs.TermWriting.{Manner, Form, list, curly_brackets, infix_operation, prefix_operation, postfix_operation, functional, no_operators}
use Rattle.pl_model.specs.Writing.{Place, alone, operand, left_operand}
use Rattle.term_writer.specs.declared.operators.Style.{Style}
use Rattle.term_writer.specs.declared.operators.Shape.{Shape}
use Rattle.term_writer.specs.declared.operators.Shape.TheVariants.{List, Curly, Infix, Prefix, Postfix, Functional}
use Rattle.term_writer.specs.declared.operators.Position.{Position}
use Rattle.term_writer.specs.declared.operators.Position.TheVariants.{Alone, Operand, LeftOperand}

abbrev pub manner_of : Style → Manner
manner_of s = record { quotes = s.quotes; curly = s.curly }

abbrev pub lookup_of : Option (Bor OperatorTable) → Lookup
lookup_of None = no_operators
lookup_of (Some t) = operator_at t.now

abbrev pub shape_view : Form → Shape
shape_view list = List
shape_view curly_brackets = Curly
shape_view (infix_operation e) = Infix e.0 e.1
shape_view (prefix_operation e) = Prefix e.0 e.1
shape_view (postfix_operation e) = Postfix e.0 e.1
shape_view functional = Functional

abbrev pub place_of : Position → Place
place_of Alone = alone
place_of Operand = operand
place_of (LeftOperand p) = left_operand p
