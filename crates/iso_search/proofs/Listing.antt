-- Lists of places and what is read there.
use Rattle.std.proofs.Common.{◌≡◌, List, [], ◌∷◌, ◌++◌, map, reverse, refl, ap₂}
use Rattle.std.specs.List.{All}
use Rattle.std.proofs.lemmas.List.{reverse-append}
use Rattle.std.proofs.lemmas.List.Elements.{All-nil, All-head, All-tail, All-same, All-push}

module _ {X : Type 0} (P : X → Type 0) where
  pub All-reverse : (xs : List X) → All P xs → All P (reverse xs)
  All-reverse [] h = All-nil P
  All-reverse (x ∷ xs) h =
      All-same P (reverse (x ∷ xs)) (reverse xs ++ x ∷ []) (reverse-append (x ∷ []) xs)
      (All-push P (reverse xs) x (All-reverse xs (All-tail P x xs h)) (All-head P x xs h))

  pub map-agree : {Y : Type 0} (f g : X → Y) → ((x : X) → P x → f x ≡ g x) → (xs : List X) → All P xs → map f xs ≡ map g xs
  map-agree f g e [] h = refl
  map-agree f g e (x ∷ xs) h = ap₂ (λ y ys. y ∷ ys) (e x (All-head P x xs h)) (map-agree f g e xs (All-tail P x xs h))
