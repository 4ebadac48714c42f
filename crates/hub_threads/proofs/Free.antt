-- Numbers and places that nothing held has.
use Rattle.std.proofs.Common.{◌≡◌, ℕ, List, [], ◌∷◌, ◌++◌, map, find, Option, Some, None, Bool, true, false, refl, ap, sym, ◌∙◌}
use Rattle.std.specs.Prelude.{◌==◌, ◌||◌, not, is_none, is_some, IsTrue}
use Rattle.std.specs.List.{list_any}
use Rattle.pl_model.specs.Threads.{Queue}
use Rattle.hub_threads.specs.Distinct.{has_number}
use Rattle.hub_threads.specs.Held.{message_places, places}
use Rattle.hub_threads.specs.Located.{Locates}
use Rattle.hub_threads.proofs.Searched.{none_any, some_any}

module _ {X : Type 0} (key : X → ℕ) (n : ℕ) where
  pub any_number : (xs : List X) → list_any (λ x. key x == n) xs ≡ has_number n (map key xs)
  any_number [] = refl
  any_number (x ∷ xs) = ap (λ b. (key x == n) || b) (any_number xs)

  -- A search finds nothing exactly where the number is not there.
  pub found_none : (xs : List X) (r : Option ℕ)
      → Locates (find (λ x. key x == n) xs) xs r
      → is_none r ≡ not (has_number n (map key xs))
  found_none xs None e = sym (ap not (sym (any_number xs) ∙ none_any (λ x. key x == n) xs e))
  found_none xs (Some i) at = sym (ap not (sym (any_number xs) ∙ some_any (λ x. key x == n) xs at.item at.found_is))

  pub found_some : (xs : List X) (r : Option ℕ)
      → Locates (find (λ x. key x == n) xs) xs r
      → is_some r ≡ has_number n (map key xs)
  found_some xs None e = sym (sym (any_number xs) ∙ none_any (λ x. key x == n) xs e)
  found_some xs (Some i) at = sym (sym (any_number xs) ∙ some_any (λ x. key x == n) xs at.item at.found_is)

module _ {X : Type 0} (key : X → ℕ) (n : ℕ) where
  pub held_by : (xs ys : List X) (r : Option ℕ) (b : Bool)
      → Locates (find (λ x. key x == n) xs) xs r
      → b ≡ is_some r
      → xs ≡ ys
      → b ≡ has_number n (map key ys)
  held_by xs ys r b at is e = is ∙ found_some key n xs r at ∙ ap (λ l. has_number n (map key l)) e

-- A test that says whether a number is new

pub is_held : {P : Type 0} (h : Bool) → h ≡ true → (P → h ≡ false) → (IsTrue false → P) × (P → IsTrue false)
is_held h e f = (λ q. absurd (cc), λ p. sym (f p) ∙ e)

pub is_free : {P : Type 0} (b h : Bool) → h ≡ not b → (h ≡ false → P) → (P → h ≡ false) → (IsTrue b → P) × (P → IsTrue b)
is_free true h e f k = (λ q. f e, λ p. refl)
is_free false h e f k = (λ q. absurd (cc), λ p. sym (k p) ∙ e)

or_turned : (a b c : Bool) → (a || (b || c)) ≡ ((a || b) || c)
or_turned true b c = refl
or_turned false b c = refl

has_split : (n : ℕ) (xs ys : List ℕ) → has_number n (xs ++ ys) ≡ (has_number n xs || has_number n ys)
has_split n [] ys = refl
has_split n (x ∷ xs) ys = ap (λ b. (x == n) || b) (has_split n xs ys) ∙ or_turned (x == n) (has_number n xs) (has_number n ys)

module _ {M : Type 0} (k : ℕ) where
  pub any_place : (qs : List (Queue M)) → list_any (λ q. has_number k (message_places q.messages)) qs ≡ has_number k (places qs)
  any_place [] = refl
  any_place (q ∷ qs) =
      ap (λ b. has_number k (message_places q.messages) || b) (any_place qs)
      ∙ sym (has_split k (message_places q.messages) (places qs))
