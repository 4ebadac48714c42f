-- What stands ahead in the text.
use Rattle.std.specs.Prelude.{ℕ, List, Option, Some, None, Ok, Err, length}
use Rattle.pl_model.specs.declared.syntax.SyntaxFault.{SyntaxFault}
use Rattle.pl_model.specs.declared.syntax.SyntaxKind.TheVariants.{UnexpectedEnd, UnexpectedToken}
use Rattle.pl_model.specs.declared.lexical.TokenKind.TheVariants.{EndToken, Integer}
use Rattle.pl_model.specs.declared.lexical.Lexeme.TheVariants.{Token, End}
use Rattle.pl_model.specs.LexicalTokens.{Lexed}

-- The fault of a token that cannot stand somewhere.
abbrev pub fault_of : List ℕ → Lexed → SyntaxFault
fault_of text (Err f) = f
fault_of text (Ok End) = record { kind = UnexpectedEnd; at = length text }
fault_of text (Ok (Token kind start end)) = record { kind = UnexpectedToken; at = start }

-- The place after an end token.
abbrev pub clause_end : Lexed → Option ℕ
clause_end (Ok (Token EndToken start end)) = Some end
clause_end l = None

-- The value of an integer and the place after it.
abbrev pub integer_ahead : Lexed → Option (ℕ × ℕ)
integer_ahead (Ok (Token (Integer n) start end)) = Some (n, end)
integer_ahead l = None
