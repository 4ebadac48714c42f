-- The hash of a text, byte by byte.
use Rattle.std.proofs.Common.{◌≡◌, ℕ, List, [], ◌∷◌, ◌++◌, refl}
use Rattle.atom_words.specs.Texts.{fnv_step, fnv}

pub fnv_none : (h : ℕ) → fnv h [] ≡ h
unfolding fnv
fnv_none h = refl

pub fnv_more : (h : ℕ) (xs : List ℕ) (b : ℕ) → fnv h (xs ++ b ∷ []) ≡ fnv_step (fnv h xs) b
unfolding fnv
fnv_more h [] b = refl
fnv_more h (x ∷ xs) b = fnv_more (fnv_step h x) xs b
