-- Numbers from one to another one: that nothing has one of them, and that something has one.
use Rattle.std.proofs.Common.{◌≡◌, ◌≤◌, ◌<◌, ℕ, zero, suc, length, List, [], ◌∷◌, find, Option, Some, None, Bool, true, false, cond, refl, sym, ap, ap₂, ◌∙◌, arith, eq-eqb}
use Rattle.std.specs.Prelude.{slice_index_or, nat_le, ◌==◌, ◌||◌, ◌&&◌}
use Rattle.std.proofs.lemmas.Bool.{false≢true, le-leb, leb-true, ne_eqb}
use Rattle.pl_term.specs.Variables.{is_in}
use Rattle.pl_model.specs.declared.threads.Thread.{Thread}
use Rattle.hub_threads.specs.Distinct.{has_number}
use Rattle.hub_threads.specs.Goals.{is_within}
use Rattle.hub_threads.specs.Held.{thread_numbers}

-- what stands at an index does not depend on what would stand past the end
pub at_any : (xs : List ℕ) (i d : ℕ) → i < length xs → slice_index_or xs i d ≡ slice_index_or xs i (slice_index_or xs i d)
at_any [] i d lt = absurd (omega (arith, lt))
at_any (x ∷ xs) zero d lt = refl
at_any (x ∷ xs) (suc i) d lt = at_any xs i d (omega (arith, lt))

module _ (first last m : ℕ) (above : first ≤ m) (below : m ≤ last) where
  -- what lies outside is another one
  other : (n : ℕ) → is_within first last n ≡ false → n ≡ m → ⊥
  other n out same =
      false≢true (sym out ∙ ap₂ (λ (a b : Bool). a && b) (le-leb first n (omega (arith, above, same))) (le-leb n last (omega (arith, below, same))))

  none_of : {X : Type 0} (x : X) (b : Bool) (rest : Option X) → cond b (Some x) rest ≡ None → (b ≡ false) × (rest ≡ None)
  none_of x true rest e = absurd (cc)
  none_of x false rest e = (refl, e)

  pub no_thread : {M : Type 0} (ts : List (Thread M)) → find (λ t. is_within first last t.number) ts ≡ None → has_number m (thread_numbers ts) ≡ false
  no_thread [] e = refl
  no_thread (t ∷ ts) e =
      let both = none_of t (is_within first last t.number) (find (λ t. is_within first last t.number) ts) e in
      ap₂ (λ (a b : Bool). a || b) (ne_eqb t.number m (other t.number both.0)) (no_thread ts both.1)

  pub no_number : (ns : List ℕ) → find (is_within first last) ns ≡ None → is_in m ns ≡ false
  no_number [] e = refl
  no_number (n ∷ ns) e =
      let both = none_of n (is_within first last n) (find (is_within first last) ns) e in
      ap₂ (λ (a b : Bool). a || b) (ne_eqb m n (λ same. other n both.0 (sym same))) (no_number ns both.1)

-- Such a number lies between the two
between_by : (a b : Bool) → (a && b) ≡ true → (a ≡ true) × (b ≡ true)
between_by true true e = (refl, refl)
between_by true false e = absurd (false≢true e)
between_by false b e = absurd (false≢true e)

pub between : (first last n : ℕ) → is_within first last n ≡ true → (first ≤ n) × (n ≤ last)
between first last n e =
    let both = between_by (nat_le first n) (nat_le n last) e in
    (leb-true first n both.0, leb-true n last both.1)

-- What stands at an index is one of the list
or_later : (a b : Bool) → b ≡ true → (a || b) ≡ true
or_later true b e = refl
or_later false b e = e

pub one_thread : {M : Type 0} (ts : List (Thread M)) (i : ℕ) (t : Thread M) → i < length ts → t ≡ slice_index_or ts i t → has_number t.number (thread_numbers ts) ≡ true
one_thread [] i t lt is = absurd (omega (arith, lt))
one_thread (s ∷ ts) zero t lt is = ap (λ b. b || has_number t.number (thread_numbers ts)) (eq-eqb s.number t.number (sym (ap (λ t. t.number) is)))
one_thread (s ∷ ts) (suc i) t lt is = or_later (s.number == t.number) (has_number t.number (thread_numbers ts)) (one_thread ts i t (omega (arith, lt)) is)

pub one_number : (ns : List ℕ) (i n : ℕ) → i < length ns → n ≡ slice_index_or ns i n → is_in n ns ≡ true
one_number [] i n lt is = absurd (omega (arith, lt))
one_number (m ∷ ns) zero n lt is = ap (λ b. b || is_in n ns) (eq-eqb n m is)
one_number (m ∷ ns) (suc i) n lt is = or_later (n == m) (is_in n ns) (one_number ns i n (omega (arith, lt)) is)
