-- Terms of one argument, by which directives are known.
use Rattle.std.specs.Prelude.{Bool, false, bytes_eq}
use Rattle.pl_term.specs.Tree.{Chars, Tree, comp, none}

-- The term has this name and one argument.
abbrev pub is_unary : Chars → Tree → Bool
is_unary name (comp f t none) = bytes_eq f name
is_unary name _ = false

abbrev pub IsUnary : Tree → Type 0
IsUnary (comp f t none) = Unit {0}
IsUnary _ = ⊥
