-- How the operator ahead goes on with a left part.
use Rattle.std.specs.Prelude.{ℕ, Bool, true, false, Option, Some, None, ◌&&◌, nat_le, if◌then◌else◌, codes}
use Rattle.pl_term.specs.Tree.{Chars}
use Rattle.pl_model.specs.declared.lexical.Mark.{Mark}
use Rattle.pl_model.specs.declared.lexical.Mark.TheVariants.{Open, OpenCt, OpenList, OpenCurly, Comma}
use Rattle.pl_model.specs.declared.lexical.TokenKind.TheVariants.{Name, Quoted, Punctuation}
use Rattle.pl_model.specs.declared.lexical.Lexeme.{Lexeme}
use Rattle.pl_model.specs.declared.lexical.Lexeme.TheVariants.{Token}
use Rattle.pl_model.specs.declared.operators.Place.TheVariants.{Infix as InfixPlace, Postfix as PostfixPlace}
use Rattle.pl_model.specs.OperatorTable.{Entry}
use Rattle.pl_model.specs.TermGrammar.{Lookup, left_argument, right_argument}
use Rattle.prolog_reader.specs.declared.operations.Joining.{Joining}
use Rattle.prolog_reader.specs.declared.operations.Operation.{Operation}
use Rattle.prolog_reader.specs.declared.operations.Operation.TheVariants.{Infix, Postfix, Ends}

abbrev pub is_fitting : ℕ → ℕ → Entry → Bool
is_fitting max priority e = nat_le e.0 max && nat_le priority (left_argument e)

abbrev pub operation_by : ℕ → ℕ → Option Entry → Option Entry → Operation
operation_by max priority (Some e) o = if is_fitting max priority e then Infix e.0 (right_argument e) else Ends
operation_by max priority None (Some e) = if is_fitting max priority e then Postfix e.0 else Ends
operation_by max priority None None = Ends

-- The operation of the operator with a name after a left part of a priority, in a term of at most another.
abbrev pub operation_of : Lookup → Chars → ℕ → ℕ → Operation
operation_of ops f max priority = operation_by max priority (ops f InfixPlace) (ops f PostfixPlace)

abbrev pub joining_named : Chars → ℕ → Operation → Option Joining
joining_named f end Ends = None
joining_named f end o = Some (record { name = f; operation = o; end = end })

abbrev pub joining_ahead : Lookup → Lexeme → ℕ → ℕ → Option Joining
joining_ahead ops (Token (Name f) start end) max priority = joining_named f end (operation_of ops f max priority)
joining_ahead ops (Token (Quoted f) start end) max priority = joining_named f end (operation_of ops f max priority)
joining_ahead ops (Token (Punctuation Comma) start end) max priority =
    joining_named (codes ",") end (operation_of ops (codes ",") max priority)
joining_ahead ops l max priority = None

-- A punctuation token that begins no term.
abbrev pub ends_term : Mark → Bool
ends_term Open = false
ends_term OpenCt = false
ends_term OpenList = false
ends_term OpenCurly = false
ends_term mark = true
