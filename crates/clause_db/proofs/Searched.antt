-- A search from the front: what was passed, and what was found.
use Rattle.std.proofs.Common.{◌≡◌, ◌+◌, ◌<◌, ℕ, zero, suc, List, [], ◌∷◌, ◌++◌, find, map, take, length, Option, Some, None, Bool, true, false, cond, ◌||◌, refl, ap, sym, subst, ◌∙◌, arith}
use Rattle.std.specs.Prelude.{slice_index_or, slice_set}
use Rattle.std.specs.List.{list_any}
use Rattle.std.specs.Option.{option_map}
use Rattle.clause_db.specs.Located.{IsAt}

-- None of the first `i` members passes the test.
abbrev pub Passed : {X : Type 0} → (X → Bool) → List X → ℕ → Type 0
Passed test xs i = find test (take i xs) ≡ None

find_more : {X : Type 0} (x : X) (b : Bool) (rest more : Option X) → cond b (Some x) rest ≡ None → (rest ≡ None → more ≡ None) → cond b (Some x) more ≡ None
find_more x true rest more e next = absurd (cc)
find_more x false rest more e next = next e

passed_more : {X : Type 0} (test : X → Bool) (xs : List X) (i : ℕ) (x : X) → i < length xs → x ≡ slice_index_or xs i x → Passed test xs i → test x ≡ false → Passed test xs (suc i)
passed_more test [] i x lt is p miss = absurd (omega (arith, lt))
passed_more test (y ∷ xs) zero x lt is p miss = ap (λ z. cond (test z) (Some z) None) (sym is) ∙ ap (λ b. cond b (Some x) None) miss
passed_more test (y ∷ xs) (suc i) x lt is p miss =
    find_more y (test y) (find test (take i xs)) (find test (take (suc i) xs)) p (λ q. passed_more test xs i x (omega (arith, lt)) is q miss)

pub passed_next : {X : Type 0} (test : X → Bool) (xs : List X) (i : ℕ) (x : X) → i < length xs → x ≡ slice_index_or xs i x → Passed test xs i → test x ≡ false → Passed test xs (i + 1)
passed_next test xs i x lt is p miss =
    let e : suc i ≡ i + 1 = omega arith in subst (λ j. Passed test xs j) e (passed_more test xs i x lt is p miss)

passed_rest : {X : Type 0} (y : X) (b : Bool) (rest : Option X) → cond b (Some y) rest ≡ None → rest ≡ None
passed_rest y true rest e = absurd (cc)
passed_rest y false rest e = e

pub found_at : {X : Type 0} (test : X → Bool) (xs : List X) (i : ℕ) (x : X) → i < length xs → x ≡ slice_index_or xs i x → Passed test xs i → test x ≡ true → IsAt test xs i
found_at test [] i x lt is p hit = absurd (omega (arith, lt))
found_at test (y ∷ xs) zero x lt is p hit = record {
  before = [];
  item = y;
  after = xs;
  whole = refl;
  index = refl;
  missed = refl;
  hits = ap test (sym is) ∙ hit;
}
found_at test (y ∷ xs) (suc i) x lt is p hit =
    let at = found_at test xs i x (omega (arith, lt)) is (passed_rest y (test y) (find test (take i xs)) p) hit
    in record {
      before = y ∷ at.before;
      item = at.item;
      after = at.after;
      whole = ap (λ l. y ∷ l) at.whole;
      index = ap suc at.index;
      missed = find_more y (test y) (find test (take i xs)) (find test at.before) p (λ q. at.missed);
      hits = at.hits;
    }

find_first : {X : Type 0} (y x : X) (b : Bool) (rest more : Option X) → cond b (Some y) rest ≡ None → (rest ≡ None → more ≡ Some x) → cond b (Some y) more ≡ Some x
find_first y x true rest more e next = absurd (cc)
find_first y x false rest more e next = next e

find_parts : {X : Type 0} (test : X → Bool) (before : List X) (x : X) (after : List X) → find test before ≡ None → test x ≡ true → find test (before ++ x ∷ after) ≡ Some x
find_parts test [] x after miss hit = ap (λ b. cond b (Some x) (find test after)) hit
find_parts test (y ∷ before) x after miss hit =
    find_first y x (test y) (find test before) (find test (before ++ x ∷ after)) miss (λ q. find_parts test before x after q hit)

pub find_is : {X : Type 0} (test : X → Bool) (xs : List X) (i : ℕ) (at : IsAt test xs i) → find test xs ≡ Some at.item
find_is test xs i at = ap (find test) at.whole ∙ find_parts test at.before at.item at.after at.missed at.hits

pub find_map : {X Y : Type 0} (f : X → Y) (test : Y → Bool) (xs : List X) → find test (map f xs) ≡ option_map f (find (λ x. test (f x)) xs)
find_map f test [] = refl
find_map f test (x ∷ xs) = go (test (f x)) (find_map f test xs)
  where
    go : (b : Bool) → find test (map f xs) ≡ option_map f (find (λ x. test (f x)) xs) → cond b (Some (f x)) (find test (map f xs)) ≡ option_map f (cond b (Some x) (find (λ x. test (f x)) xs))
    go true ih = refl
    go false ih = ih

at_within : {X : Type 0} (before : List X) (x : X) (after : List X) → length before < length (before ++ x ∷ after)
at_within [] x after = omega arith
at_within (y ∷ before) x after = omega (arith, at_within before x after)

at_item : {X : Type 0} (before : List X) (x : X) (after : List X) (d : X) → slice_index_or (before ++ x ∷ after) (length before) d ≡ x
at_item [] x after d = refl
at_item (y ∷ before) x after d = at_item before x after d

at_set : {X : Type 0} (before : List X) (x z : X) (after : List X) → slice_set (before ++ x ∷ after) (length before) z ≡ before ++ z ∷ after
at_set [] x z after = refl
at_set (y ∷ before) x z after = ap (λ l. y ∷ l) (at_set before x z after)

pub located_within : {X : Type 0} (test : X → Bool) (xs : List X) (i : ℕ) → IsAt test xs i → i < length xs
located_within test xs i at =
    subst (λ l. i < length l) (sym at.whole)
    (subst (λ j. j < length (at.before ++ at.item ∷ at.after)) at.index (at_within at.before at.item at.after))

pub located_item : {X : Type 0} (test : X → Bool) (xs : List X) (i : ℕ) (d : X) (at : IsAt test xs i) → slice_index_or xs i d ≡ at.item
located_item test xs i d at =
    ap (λ l. slice_index_or l i d) at.whole
    ∙ ap (λ j. slice_index_or (at.before ++ at.item ∷ at.after) j d) (sym at.index)
    ∙ at_item at.before at.item at.after d

pub located_set : {X : Type 0} (test : X → Bool) (xs : List X) (i : ℕ) (z : X) (at : IsAt test xs i) → slice_set xs i z ≡ at.before ++ z ∷ at.after
located_set test xs i z at =
    ap (λ l. slice_set l i z) at.whole
    ∙ ap (λ j. slice_set (at.before ++ at.item ∷ at.after) j z) (sym at.index)
    ∙ at_set at.before at.item z at.after

-- Whether one of the members passes the test.
pub any_hit : {X : Type 0} (test : X → Bool) (xs : List X) (i : ℕ) (x : X) → i < length xs → x ≡ slice_index_or xs i x → test x ≡ true → list_any test xs ≡ true
any_hit test [] i x lt is hit = absurd (omega (arith, lt))
any_hit test (y ∷ xs) zero x lt is hit = ap (λ b. b || list_any test xs) (ap test (sym is) ∙ hit)
any_hit test (y ∷ xs) (suc i) x lt is hit = go (test y) (any_hit test xs i x (omega (arith, lt)) is hit)
  where
    go : (b : Bool) → list_any test xs ≡ true → (b || list_any test xs) ≡ true
    go true h = refl
    go false h = h

any_more : {X : Type 0} (test : X → Bool) (xs : List X) (i : ℕ) (x : X) → i < length xs → x ≡ slice_index_or xs i x → list_any test (take i xs) ≡ false → test x ≡ false → list_any test (take (suc i) xs) ≡ false
any_more test [] i x lt is h miss = absurd (omega (arith, lt))
any_more test (y ∷ xs) zero x lt is h miss = ap (λ b. b || false) (ap test (sym is) ∙ miss)
any_more test (y ∷ xs) (suc i) x lt is h miss = go (test y) h (λ m. any_more test xs i x (omega (arith, lt)) is m miss)
  where
    go : (b : Bool) → (b || list_any test (take i xs)) ≡ false → (list_any test (take i xs) ≡ false → list_any test (take (suc i) xs) ≡ false) → (b || list_any test (take (suc i) xs)) ≡ false
    go true m ih = m
    go false m ih = ih m

pub any_next : {X : Type 0} (test : X → Bool) (xs : List X) (i : ℕ) (x : X) → i < length xs → x ≡ slice_index_or xs i x → list_any test (take i xs) ≡ false → test x ≡ false → list_any test (take (i + 1) xs) ≡ false
any_next test xs i x lt is h miss =
    let e : suc i ≡ i + 1 = omega arith in subst (λ j. list_any test (take j xs) ≡ false) e (any_more test xs i x lt is h miss)

parts_more : {X : Type 0} (test : X → Bool) (xs : List X) (i : ℕ) → i < length xs → (d : X) → list_any test (take (suc i) xs) ≡ false → (list_any test (take i xs) ≡ false) × (test (slice_index_or xs i d) ≡ false)
parts_more test [] i lt d h = absurd (omega (arith, lt))
parts_more test (y ∷ xs) zero lt d h = go (test y) refl h
  where
    go : (b : Bool) → test y ≡ b → (b || false) ≡ false → (false ≡ false) × (test y ≡ false)
    go true e m = (refl, e ∙ m)
    go false e m = (refl, e)
parts_more test (y ∷ xs) (suc i) lt d h = go (test y) h (λ m. parts_more test xs i (omega (arith, lt)) d m)
  where
    go : (b : Bool) → (b || list_any test (take (suc i) xs)) ≡ false → (list_any test (take (suc i) xs) ≡ false → (list_any test (take i xs) ≡ false) × (test (slice_index_or xs i d) ≡ false))
        → ((b || list_any test (take i xs)) ≡ false) × (test (slice_index_or xs i d) ≡ false)
    go true m ih = absurd (cc)
    go false m ih = ih m

pub any_parts : {X : Type 0} (test : X → Bool) (xs : List X) (i : ℕ) → i < length xs → (d : X) → list_any test (take (i + 1) xs) ≡ false → (list_any test (take i xs) ≡ false) × (test (slice_index_or xs i d) ≡ false)
any_parts test xs i lt d h =
    let e : i + 1 ≡ suc i = omega arith in parts_more test xs i lt d (subst (λ j. list_any test (take j xs) ≡ false) e h)

earlier_more : {X : Type 0} (test : X → Bool) (xs : List X) (i : ℕ) → i < length xs → (d : X) → test (slice_index_or xs i d) ≡ false → list_any test (take (suc i) xs) ≡ true → list_any test (take i xs) ≡ true
earlier_more test [] i lt d miss m = absurd (omega (arith, lt))
earlier_more test (y ∷ xs) zero lt d miss m = sym (ap (λ b. b || false) miss) ∙ m
earlier_more test (y ∷ xs) (suc i) lt d miss m = go (test y) m (λ n. earlier_more test xs i (omega (arith, lt)) d miss n)
  where
    go : (b : Bool) → (b || list_any test (take (suc i) xs)) ≡ true → (list_any test (take (suc i) xs) ≡ true → list_any test (take i xs) ≡ true) → (b || list_any test (take i xs)) ≡ true
    go true n ih = refl
    go false n ih = ih n

-- The member that passes is an earlier one, where the last one does not.
pub any_earlier : {X : Type 0} (test : X → Bool) (xs : List X) (i : ℕ) → i < length xs → (d : X) → test (slice_index_or xs i d) ≡ false → list_any test (take (i + 1) xs) ≡ true → list_any test (take i xs) ≡ true
any_earlier test xs i lt d miss m =
    let e : i + 1 ≡ suc i = omega arith in earlier_more test xs i lt d miss (subst (λ j. list_any test (take j xs) ≡ true) e m)

none_more : {X : Type 0} (test : X → Bool) (xs : List X) (i : ℕ) → i < length xs → (d : X) → list_any test (take i xs) ≡ false → test (slice_index_or xs i d) ≡ false → list_any test (take (suc i) xs) ≡ false
none_more test [] i lt d h miss = absurd (omega (arith, lt))
none_more test (y ∷ xs) zero lt d h miss = ap (λ b. b || false) miss
none_more test (y ∷ xs) (suc i) lt d h miss = go (test y) h (λ m. none_more test xs i (omega (arith, lt)) d m miss)
  where
    go : (b : Bool) → (b || list_any test (take i xs)) ≡ false → (list_any test (take i xs) ≡ false → list_any test (take (suc i) xs) ≡ false) → (b || list_any test (take (suc i) xs)) ≡ false
    go true m ih = m
    go false m ih = ih m

-- None of the first members passes, and the next one does not.
pub none_next : {X : Type 0} (test : X → Bool) (xs : List X) (i : ℕ) → i < length xs → (d : X) → list_any test (take i xs) ≡ false → test (slice_index_or xs i d) ≡ false → list_any test (take (i + 1) xs) ≡ false
none_next test xs i lt d h miss =
    let e : suc i ≡ i + 1 = omega arith in subst (λ j. list_any test (take j xs) ≡ false) e (none_more test xs i lt d h miss)
