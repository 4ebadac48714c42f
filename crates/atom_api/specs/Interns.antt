-- The answers of `intern`.
use Rattle.std.specs.Prelude.{◌≡◌, ◌<◌, ◌≤◌, ℕ, List, [], ◌∷◌, ◌++◌, Option, Some}
use Rattle.std.specs.Option.{option_map}
use Rattle.pl_term.specs.Tree.{Chars}
use Rattle.pl_term.specs.Texts.{size}
use Rattle.atom_words.specs.declared.view.Refusal.{Refusal}
use Rattle.atom_words.specs.declared.view.Refusal.TheVariants.{Full as RefusalFull, Again as RefusalAgain, Worn as RefusalWorn}
use Rattle.atom_api.specs.declared.interned.Interned.{Interned}
use Rattle.atom_api.specs.declared.interned.Interned.TheVariants.{Is, Full, Again, TooLong, Worn, Memory}
use Rattle.atom_api.specs.Names.{Names, with_name}

-- Afterwards `a` is held with the text, and all else as before: `a` was held with no other text, and the text by no
-- other atom.
pub record Holds (m : Names) (t : Chars) (a : ℕ) (n : Names) : Type 0 where
  pub fits : size t ≤ 248
  pub now : n ≡ with_name m a t
  pub own : (u : Chars) → m a ≡ Some u → u ≡ t
  pub only : (b : ℕ) → m b ≡ Some t → b ≡ a

-- What an answer on a text says of the atoms held before and after: it is `TooLong` exactly for a text of more than 248
-- bytes, and changes what is held only where it is `Is`.
abbrev pub Interns : Names → Chars → Interned → Names → Type 0
Interns m t (Is a) n = Holds m t a n
Interns m t (Full p) n = (size t ≤ 248) × (n ≡ m)
Interns m t (Again c) n = (size t ≤ 248) × (n ≡ m)
Interns m t (TooLong b) n = (248 < size t) × (b ≡ size t) × (n ≡ m)
Interns m t (Worn w) n = (size t ≤ 248) × (n ≡ m)
Interns m t Memory n = (size t ≤ 248) × (n ≡ m)

-- What an answer appends to the list of refusals.
abbrev pub refused : Interned → List Refusal
refused (Is a) = []
refused (Full p) = RefusalFull p ∷ []
refused (Again c) = RefusalAgain c ∷ []
refused (TooLong b) = []
refused (Worn w) = RefusalWorn w ∷ []
refused Memory = []

-- The texts asked, after an answer on a text: a text that is too long is left out, and out of memory leaves all as
-- before.
abbrev pub asked_with : Interned → Chars → Option (List Chars) → Option (List Chars)
asked_with (Is a) t asked = option_map (λ ts. ts ++ t ∷ []) asked
asked_with (Full p) t asked = option_map (λ ts. ts ++ t ∷ []) asked
asked_with (Again c) t asked = option_map (λ ts. ts ++ t ∷ []) asked
asked_with (TooLong b) t asked = asked
asked_with (Worn w) t asked = option_map (λ ts. ts ++ t ∷ []) asked
asked_with Memory t asked = asked
