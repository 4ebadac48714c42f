-- The oldest of some generations.
use Rattle.std.proofs.Common.{◌≡◌, ◌+◌, ◌<◌, ◌≤◌, ◌⊎◌, inl, inr, ℕ, List, [], ◌∷◌, ◌++◌, Some, flat_map, get_or, length, min, take, sym, ap, subst, ◌∙◌, arith, append-nil}
use Rattle.std.specs.List.{All}
use Rattle.std.proofs.lemmas.Bool.{cases_lt}
use Rattle.std.proofs.lemmas.List.{take_more}
use Rattle.std.proofs.lemmas.List.Concat.{flat_map-append}
use Rattle.std.proofs.lemmas.List.Elements.{All-append, All-weaker, Contains-append_left, Contains-append_right}
use Rattle.iso_search.specs.Live.{IsLeast}

pub least_both : (g h : ℕ) (gs hs : List ℕ) → IsLeast (Some g) gs → IsLeast (Some h) hs → IsLeast (Some (min g h)) (gs ++ hs)
least_both g h gs hs first second = go (cases_lt g h)
  where
    go : (g < h) ⊎ (h ≤ g) → IsLeast (Some (min g h)) (gs ++ hs)
    go (inl lt) =
        let e : min g h ≡ g = omega (arith, lt) in
        subst (λ m. IsLeast (Some m) (gs ++ hs)) (sym e)
        (Contains-append_left gs hs g first.0, All-append (λ x. g ≤ x) gs hs first.1 (All-weaker (λ x. h ≤ x) (λ x. g ≤ x) (λ x le. omega (arith, lt, le)) hs second.1))
    go (inr le) =
        let e : min g h ≡ h = omega (arith, le) in
        subst (λ m. IsLeast (Some m) (gs ++ hs)) (sym e)
        (Contains-append_right gs hs h second.0, All-append (λ x. h ≤ x) gs hs (All-weaker (λ x. g ≤ x) (λ x. h ≤ x) (λ x lt. omega (arith, le, lt)) gs first.1) second.1)

-- The generations of one more.
pub more_of : {X : Type 0} (f : X → List ℕ) (xs : List X) (i : ℕ) (d : X) → i < length xs
    → flat_map f (take (i + 1) xs) ≡ flat_map f (take i xs) ++ f (get_or xs i d)
more_of f xs i d lt =
    ap (flat_map f) (take_more xs i d lt) ∙ flat_map-append f (take i xs) (get_or xs i d ∷ [])
    ∙ ap (λ l. flat_map f (take i xs) ++ l) (append-nil (f (get_or xs i d)))
