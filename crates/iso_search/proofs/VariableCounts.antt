-- A term of a store has no more variables than the store.
use Rattle.std.proofs.Common.{◌≡◌, ℕ, ◌<◌, ◌≤◌, ◌==◌, ◌||◌, not, Bool, true, false, cond, eqb, List, [], ◌∷◌, length, refl, sym, ap, ◌∙◌, inl, inr, ◌⊎◌, nat_le, arith}
use Rattle.std.specs.List.{AllByRecursion, IsDistinct, list_any}
use Rattle.std.proofs.lemmas.Bool.{false≢true}
use Rattle.std.proofs.lemmas.Bool.Decides.{leb_tells}
use Rattle.std.proofs.lemmas.List.Elements.{All-get_or}
use Rattle.std.proofs.lemmas.Map.Keys.{IsDistinct-cons, IsDistinct-from_apart, IsDistinct-head, IsDistinct-tail}
use Rattle.std.proofs.lemmas.Map.Steps.{length-le_from_distinct_below}
use Rattle.pl_term.specs.Variables.{distinct, is_in, occurrences, variables, without}
use Rattle.pl_term.proofs.Distinct.{is_in-distinct}
use Rattle.term_store.specs.declared.words.Place.{Place}
use Rattle.term_store.specs.Contents.{Contents, Holds, IsAbove, term_at}
use Rattle.term_store.specs.Fit.{Fit}
use Rattle.term_store.proofs.Apartness.{absent_meaning}

all_without : (P : ℕ → Type 0) (x : ℕ) (ys : List ℕ) → AllByRecursion P ys → AllByRecursion P (without x ys)
all_without P x [] h = h
all_without P x (y ∷ ys) h =
    elim (x == y) as (λ b. AllByRecursion P (cond (not b) (y ∷ without x ys) (without x ys))) [
      | true ↦ all_without P x ys h.1
      | false ↦ (h.0, all_without P x ys h.1)
    ]

others_without : (x : ℕ) (ys : List ℕ) → AllByRecursion (λ y. eqb x y ≡ false) (without x ys)
others_without x [] = tt
others_without x (y ∷ ys) = go (x == y) refl (others_without x ys)
  where
    go : (b : Bool) → (x == y) ≡ b → AllByRecursion (λ z. eqb x z ≡ false) (without x ys)
        → AllByRecursion (λ z. eqb x z ≡ false) (cond (not b) (y ∷ without x ys) (without x ys))
    go true e rest = rest
    go false e rest = (e, rest)

distinct_without : (x : ℕ) (ys : List ℕ) → IsDistinct eqb ys → IsDistinct eqb (without x ys)
distinct_without x [] h = h
distinct_without x (y ∷ ys) h =
    elim (x == y) as (λ b. IsDistinct eqb (cond (not b) (y ∷ without x ys) (without x ys))) [
      | true ↦ distinct_without x ys (IsDistinct-tail eqb y ys h)
      | false ↦
          IsDistinct-cons eqb y (without x ys) (all_without (λ z. eqb y z ≡ false) x ys (IsDistinct-head eqb y ys h))
          (distinct_without x ys (IsDistinct-tail eqb y ys h))
    ]

is_distinct : (xs : List ℕ) → IsDistinct eqb (distinct xs)
is_distinct [] = IsDistinct-from_apart eqb [] (λ i j d lt within. absurd (omega (arith, within)))
is_distinct (x ∷ xs) =
    IsDistinct-cons eqb x (without x (distinct xs)) (others_without x (distinct xs)) (distinct_without x (distinct xs) (is_distinct xs))

any_is_in : (q : ℕ) (xs : List ℕ) → list_any (eqb q) xs ≡ is_in q xs
any_is_in q [] = refl
any_is_in q (x ∷ xs) = ap (λ b. (q == x) || b) (any_is_in q xs)

pub variables_within : (s : Contents) (p : Place) (n : ℕ) → Fit s.heap → Holds s p → IsAbove n s → length (variables (term_at s p)) ≤ n
variables_within s p n fit held above =
    length-le_from_distinct_below (variables (term_at s p)) n (is_distinct (occurrences (term_at s p)))
    (λ q e. below q (sym (any_is_in q (variables (term_at s p)) ∙ is_in-distinct q (occurrences (term_at s p))) ∙ e))
  where
    below : (q : ℕ) → is_in q (occurrences (term_at s p)) ≡ true → q < n
    below q e =
        go (leb_tells n q)
      where
        go : ((nat_le n q ≡ true) × (n ≤ q)) ⊎ ((nat_le n q ≡ false) × (q < n)) → q < n
        go (inr h) = h.1
        go (inl h) =
            absurd (false≢true (sym (absent_meaning s.heap q fit
            (λ j lt same. let less = All-get_or (λ m. m < n) s.heap.numbers j 0 lt above in omega (arith, same, less, h.1)) p.word held) ∙ e))
