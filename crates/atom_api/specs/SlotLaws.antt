-- What follows of a vector of texts with an index.
use Rattle.std.specs.Prelude.{◌≡◌, ◌<◌, ◌≤◌, ◌^◌, ℕ, zero, suc, List, [], ◌∷◌, Option, Some, true, length}
use Rattle.std.proofs.Common.{sym, ◌∙◌, arith}
use Rattle.std.specs.Str.{all_scalars}
use Rattle.std.proofs.lemmas.Option.{same_Some}
use Rattle.pl_term.specs.Tree.{Chars}
use Rattle.pl_term.specs.Texts.{size}
use Rattle.atom_api.specs.Names.{Names}
use Rattle.atom_api.specs.Slots.{names_of, Indexed, Fitting}

-- Texts in two slots are not equal, since the index finds one slot for each text.
pub unlike_by_index : (find : List ℕ → Option ℕ) (m : Names) → Indexed find m → (a b : ℕ) (t : Chars) → m a ≡ Some t → m b ≡ Some t → a ≡ b
unlike_by_index find m r a b t x y = same_Some a b (sym ((r a t).1 x) ∙ (r b t).1 y)

-- Only slots of the vector have texts.
pub names_within : (texts : List (Option Chars)) (a : ℕ) (t : Chars) → names_of texts a ≡ Some t → a < length texts
names_within [] a t e = cc
names_within (o ∷ texts) zero t e = omega arith
names_within (o ∷ texts) (suc a) t e = let inside : a < length texts = names_within texts a t e in omega arith

pub finite_by_slots : (texts : List (Option Chars)) → length texts ≤ 2 ^ 32 → Fitting (names_of texts) → (a : ℕ) (t : Chars) → names_of texts a ≡ Some t
    → (a < 2 ^ 32) × (size t ≤ 248) × (all_scalars t ≡ true)
finite_by_slots texts few fits a t e =
    let inside : a < length texts = names_within texts a t e in
    let both : (size t ≤ 248) × (all_scalars t ≡ true) = fits a t e in (omega arith, both.0, both.1)
