-- The member that was found is taken out of a list, or another one is put in its place.
use Rattle.std.proofs.Common.{◌≡◌, ◌<◌, ℕ, List, ◌∷◌, ◌++◌, map, filter, find, length, Option, Some, ap, sym, subst, ◌∙◌, eqb-true}
use Rattle.std.specs.Prelude.{if◌then◌else◌, ◌==◌, not, remove, slice_index_or, slice_set}
use Rattle.std.proofs.lemmas.List.{map-append}
use Rattle.hub_threads.specs.Distinct.{Distinct}
use Rattle.hub_threads.specs.Located.{IsAt}
use Rattle.hub_threads.proofs.Numbers.{one_out, one_changed, distinct_without}
use Rattle.hub_threads.proofs.Searched.{at_within, at_item, at_removed, at_set, found_hits}

pub located_within : {X : Type 0} (o : Option X) (xs : List X) (i : ℕ) → IsAt o xs i → i < length xs
located_within o xs i at =
    subst (λ l. i < length l) (sym at.whole)
    (subst (λ j. j < length (at.before ++ at.item ∷ at.after)) at.index (at_within at.before at.item at.after))

pub located_item : {X : Type 0} (o : Option X) (xs : List X) (i : ℕ) (d : X) → (at : IsAt o xs i) → slice_index_or xs i d ≡ at.item
located_item o xs i d at =
    ap (λ l. slice_index_or l i d) at.whole
    ∙ ap (λ j. slice_index_or (at.before ++ at.item ∷ at.after) j d) (sym at.index)
    ∙ at_item at.before at.item at.after d

pub located_removed : {X : Type 0} (o : Option X) (xs : List X) (i : ℕ) → (at : IsAt o xs i) → remove xs i ≡ at.before ++ at.after
located_removed o xs i at =
    ap (λ l. remove l i) at.whole
    ∙ ap (λ j. remove (at.before ++ at.item ∷ at.after) j) (sym at.index)
    ∙ at_removed at.before at.item at.after

pub located_set : {X : Type 0} (o : Option X) (xs : List X) (i : ℕ) (z : X) → (at : IsAt o xs i) → slice_set xs i z ≡ at.before ++ z ∷ at.after
located_set o xs i z at =
    ap (λ l. slice_set l i z) at.whole
    ∙ ap (λ j. slice_set (at.before ++ at.item ∷ at.after) j z) (sym at.index)
    ∙ at_set at.before at.item z at.after

-- Members by their numbers. `key` is a member's number.
module _ {X : Type 0} (key : X → ℕ) where
  parts : (xs : List X) (before : List X) (x : X) (after : List X)
      → xs ≡ before ++ x ∷ after
      → Distinct (map key xs)
      → Distinct (map key before ++ key x ∷ map key after)
  parts xs before x after whole d =
      subst Distinct (map-append key before (x ∷ after)) (subst (λ l. Distinct (map key l)) whole d)

  pub item_out : (o : Option X) (xs : List X) (i : ℕ) (at : IsAt o xs i)
      → Distinct (map key xs)
      → remove xs i ≡ filter (λ x. not (key x == key at.item)) xs
  item_out o xs i at d =
      located_removed o xs i at
      ∙ sym (one_out key at.before at.item at.after (parts xs at.before at.item at.after at.whole d))
      ∙ ap (λ l. filter (λ x. not (key x == key at.item)) l) (sym at.whole)

  pub item_changed : (f : X → X) (z : X) (o : Option X) (xs : List X) (i : ℕ) (at : IsAt o xs i)
      → z ≡ f at.item
      → Distinct (map key xs)
      → slice_set xs i z ≡ map (λ x. if key x == key at.item then f x else x) xs
  item_changed f z o xs i at is d =
      located_set o xs i z at
      ∙ ap (λ y. at.before ++ y ∷ at.after) is
      ∙ sym (one_changed key f at.before at.item at.after (parts xs at.before at.item at.after at.whole d))
      ∙ ap (λ l. map (λ x. if key x == key at.item then f x else x) l) (sym at.whole)

  pub item_distinct : (o : Option X) (xs : List X) (i : ℕ)
      → IsAt o xs i
      → Distinct (map key xs)
      → Distinct (map key (remove xs i))
  item_distinct o xs i at d =
      subst (λ l. Distinct (map key l)) (sym (located_removed o xs i at))
      (subst Distinct (sym (map-append key at.before at.after))
      (distinct_without (key at.item) (map key at.before) (map key at.after) (parts xs at.before at.item at.after at.whole d)))

  pub item_same : (z : X) (o : Option X) (xs : List X) (i : ℕ) (at : IsAt o xs i)
      → key z ≡ key at.item
      → map key (slice_set xs i z) ≡ map key xs
  item_same z o xs i at is =
      ap (map key) (located_set o xs i z at)
      ∙ map-append key at.before (z ∷ at.after)
      ∙ ap (λ m. map key at.before ++ m ∷ map key at.after) is
      ∙ sym (map-append key at.before (at.item ∷ at.after))
      ∙ ap (map key) (sym at.whole)

  -- A member that was found by its number has it.
  pub key_is : (n : ℕ) (xs : List X) (x : X) → find (λ y. key y == n) xs ≡ Some x → key x ≡ n
  key_is n xs x e = eqb-true (key x) n (found_hits (λ y. key y == n) xs x e)

  pub located_out : (n : ℕ) (xs : List X) (i : ℕ)
      → IsAt (find (λ y. key y == n) xs) xs i
      → Distinct (map key xs)
      → remove xs i ≡ filter (λ x. not (key x == n)) xs
  located_out n xs i at d =
      item_out (find (λ y. key y == n) xs) xs i at d ∙ ap (λ m. filter (λ x. not (key x == m)) xs) (key_is n xs at.item at.found_is)

  pub located_changed : (n : ℕ) (f : X → X) (z : X) (xs : List X) (i : ℕ) (at : IsAt (find (λ y. key y == n) xs) xs i)
      → z ≡ f at.item
      → Distinct (map key xs)
      → slice_set xs i z ≡ map (λ x. if key x == n then f x else x) xs
  located_changed n f z xs i at is d =
      item_changed f z (find (λ y. key y == n) xs) xs i at is d
      ∙ ap (λ m. map (λ x. if key x == m then f x else x) xs) (key_is n xs at.item at.found_is)
