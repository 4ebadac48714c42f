-- Numbers of atoms as texts.
use Rattle.std.specs.Prelude.{◌≡◌, ℕ, ◌^◌, [], ◌∷◌, Option, Some, None}
use Rattle.pl_term.specs.Tree.{Chars}
use Rattle.atom_api.specs.Names.{Names}

-- The text of an atom. A number that is no atom's has something that is no text: its first member is no code point.
abbrev pub or_no_text : ℕ → Option Chars → Chars
or_no_text a None = 2 ^ 32 ∷ a ∷ []
or_no_text a (Some t) = t

abbrev pub text_of : Names → ℕ → Chars
text_of m a = or_no_text a (m a)

-- All that was held is held with its text.
abbrev pub Holds : Names → Names → Type 0
Holds m n = (a : ℕ) (t : Chars) → m a ≡ Some t → n a ≡ Some t
