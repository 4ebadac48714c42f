-- How the lexer's functions answer what the definition of tokens says.
use Rattle.std.specs.Prelude.{◌≡◌, ℕ, Bool, true, Option, Some, None, Result, Ok, Err, ◌+◌}
use Rattle.pl_model.specs.declared.syntax.SyntaxFault.{SyntaxFault}
use Rattle.pl_model.specs.declared.lexical.Lexeme.{Lexeme}
use Rattle.pl_model.specs.Tokens.{Front, nothing, scalar, broken, Blank, passes, stops, spoils, continues_name, is_symbol}
use Rattle.pl_model.specs.LexicalQuoted.{is_digit, Spelled}
use Rattle.pl_model.specs.LexicalTokens.{Lexed}
use Rattle.lex_core.specs.declared.characters.Run.{Run}
use Rattle.lex_core.specs.declared.characters.Run.TheVariants.{Name, Digits, Symbols, Any}
use Rattle.lex_core.specs.declared.quoted.Spelling.{Spelling}
use Rattle.lex_core.specs.declared.quoted.Spelling.TheVariants.{Whole, Bad}
use Rattle.lex_core.specs.declared.lex_fault.LexFault.{LexFault}
use Rattle.lex_core.specs.declared.lex_fault.LexFault.TheVariants.{Syntax, Memory}

-- The character at the front with its size, or none.
abbrev pub character_of : Front → Option (ℕ × ℕ)
character_of nothing = None
character_of (scalar c k) = Some (c, k)
character_of broken = None

-- The test that the characters of a run pass.
abbrev pub passes_run : Run → ℕ → Bool
passes_run Name c = continues_name c
passes_run (Digits radix) c = is_digit radix c
passes_run Symbols c = is_symbol c
passes_run Any c = true

-- The place after a piece of layout that begins at a place, or none where no layout does, or a fault.
abbrev pub blank_result : ℕ → Blank → Result (Option ℕ) SyntaxFault
blank_result at (passes n) = Ok (Some (at + n))
blank_result at stops = Ok None
blank_result at (spoils kind n) = Err (record { kind = kind; at = at + n })

-- The characters of a quoted text, or its first fault.
abbrev pub spelled_of : Spelling → Spelled
spelled_of (Whole cs) = Ok cs
spelled_of (Bad kind at) = Err (kind, at)

-- The answer is the defined token, end or fault, out of memory aside.
abbrev pub Gives : Result Lexeme LexFault → Lexed → Type 0
Gives (Ok lexeme) lexed = lexed ≡ Ok lexeme
Gives (Err (Syntax fault)) lexed = lexed ≡ Err fault
Gives (Err Memory) lexed = Unit {0}
