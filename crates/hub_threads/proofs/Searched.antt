-- A search from the front: what was passed, and what was found.
use Rattle.std.proofs.Common.{◌≡◌, ◌<◌, ◌≤◌, ℕ, zero, suc, List, [], ◌∷◌, ◌++◌, find, take, length, Option, Some, None, Bool, true, false, refl, ap, sym, subst, ◌∙◌, arith, eq-eqb}
use Rattle.std.proofs.lemmas.Bool.{ne_eqb}
use Rattle.std.specs.List.{list_any}
use Rattle.std.specs.Prelude.{◌==◌, ◌||◌, if◌then◌else◌, ◌+◌, not, filter, cond, slice_index_or, slice_set, remove}
use Rattle.hub_threads.specs.Located.{IsAt}

-- None of the first `i` members passes the test.
abbrev pub Passed : {X : Type 0} → (X → Bool) → List X → ℕ → Type 0
Passed test xs i = find test (take i xs) ≡ None

pub passed_start : {X : Type 0} (test : X → Bool) (xs : List X) → Passed test xs 0
passed_start test xs = refl

find_more : {X : Type 0} (test : X → Bool) (x : X) (b : Bool) (rest more : Option X)
    → cond b (Some x) rest ≡ None
    → (rest ≡ None → more ≡ None)
    → cond b (Some x) more ≡ None
find_more test x true rest more e next = absurd (cc)
find_more test x false rest more e next = next e

pub passed_more : {X : Type 0} (test : X → Bool) (xs : List X) (i : ℕ) (x : X)
    → i < length xs
    → x ≡ slice_index_or xs i x
    → Passed test xs i
    → test x ≡ false
    → Passed test xs (suc i)
passed_more test [] i x lt is p miss = absurd (omega (arith, lt))
passed_more test (y ∷ xs) zero x lt is p miss = ap (λ z. cond (test z) (Some z) None) (sym is) ∙ ap (λ b. cond b (Some x) None) miss
passed_more test (y ∷ xs) (suc i) x lt is p miss =
    find_more test y (test y) (find test (take i xs)) (find test (take (suc i) xs)) p (λ q. passed_more test xs i x (omega (arith, lt)) is q miss)

pub passed_all : {X : Type 0} (test : X → Bool) (xs : List X) (i : ℕ) → length xs ≤ i → Passed test xs i → find test xs ≡ None
passed_all test [] i le p = refl
passed_all test (y ∷ xs) zero le p = absurd (omega (arith, le))
passed_all test (y ∷ xs) (suc i) le p =
    find_more test y (test y) (find test (take i xs)) (find test xs) p (λ q. passed_all test xs i (omega (arith, le)) q)

find_first : {X : Type 0} (test : X → Bool) (y x : X) (b : Bool) (rest more : Option X)
    → cond b (Some y) rest ≡ None
    → (rest ≡ None → more ≡ Some x)
    → cond b (Some y) more ≡ Some x
find_first test y x true rest more e next = absurd (cc)
find_first test y x false rest more e next = next e

passed_rest : {X : Type 0} (test : X → Bool) (y : X) (b : Bool) (rest : Option X) → cond b (Some y) rest ≡ None → rest ≡ None
passed_rest test y true rest e = absurd (cc)
passed_rest test y false rest e = e

pub found_at : {X : Type 0} (test : X → Bool) (xs : List X) (i : ℕ) (x : X)
    → i < length xs
    → x ≡ slice_index_or xs i x
    → Passed test xs i
    → test x ≡ true
    → IsAt (find test xs) xs i
found_at test [] i x lt is p hit = absurd (omega (arith, lt))
found_at test (y ∷ xs) zero x lt is p hit =
    record {
      before = [];
      item = y;
      after = xs;
      whole = refl;
      index = refl;
      found_is = ap (λ b. cond b (Some y) (find test xs)) (ap test (sym is) ∙ hit);
    }
found_at test (y ∷ xs) (suc i) x lt is p hit =
    let at = found_at test xs i x (omega (arith, lt)) is (passed_rest test y (test y) (find test (take i xs)) p) hit
    in record {
      before = y ∷ at.before;
      item = at.item;
      after = at.after;
      whole = ap (λ l. y ∷ l) at.whole;
      index = ap suc at.index;
      found_is = find_first test y at.item (test y) (find test (take i xs)) (find test xs) p (λ q. at.found_is);
    }

-- What stands at the index of the found member, and the list without it and with another one there.
pub at_within : {X : Type 0} (before : List X) (x : X) (after : List X) → length before < length (before ++ x ∷ after)
at_within [] x after = omega arith
at_within (y ∷ before) x after = omega (arith, at_within before x after)

pub at_item : {X : Type 0} (before : List X) (x : X) (after : List X) (d : X) → slice_index_or (before ++ x ∷ after) (length before) d ≡ x
at_item [] x after d = refl
at_item (y ∷ before) x after d = at_item before x after d

pub at_removed : {X : Type 0} (before : List X) (x : X) (after : List X) → remove (before ++ x ∷ after) (length before) ≡ before ++ after
at_removed [] x after = refl
at_removed (y ∷ before) x after = ap (λ l. y ∷ l) (at_removed before x after)

pub at_set : {X : Type 0} (before : List X) (x z : X) (after : List X) → slice_set (before ++ x ∷ after) (length before) z ≡ before ++ z ∷ after
at_set [] x z after = refl
at_set (y ∷ before) x z after = ap (λ l. y ∷ l) (at_set before x z after)

-- What was found passes the test.
find_hit : {X : Type 0} (test : X → Bool) (y x : X) (b : Bool) (rest : Option X)
    → test y ≡ b
    → cond b (Some y) rest ≡ Some x
    → (rest ≡ Some x → test x ≡ true)
    → test x ≡ true
find_hit test y x true rest is e next = cc
find_hit test y x false rest is e next = next e

pub found_hits : {X : Type 0} (test : X → Bool) (xs : List X) (x : X) → find test xs ≡ Some x → test x ≡ true
found_hits test [] x e = absurd (cc)
found_hits test (y ∷ xs) x e = find_hit test y x (test y) (find test xs) refl e (found_hits test xs x)

pub passed_next : {X : Type 0} (test : X → Bool) (xs : List X) (i : ℕ) (x : X)
    → i < length xs
    → x ≡ slice_index_or xs i x
    → Passed test xs i
    → test x ≡ false
    → Passed test xs (i + 1)
passed_next test xs i x lt is p miss =
    let e : suc i ≡ i + 1 = omega arith in subst (λ j. Passed test xs j) e (passed_more test xs i x lt is p miss)

-- Where nothing passes a test, nothing is filtered out by it.
none_by : {X : Type 0} (x : X) (b : Bool) (rest : Option X) (kept all : List X)
    → cond b (Some x) rest ≡ None
    → (rest ≡ None → kept ≡ all)
    → cond (not b) (x ∷ kept) kept ≡ x ∷ all
none_by x true rest kept all e next = absurd (cc)
none_by x false rest kept all e next = ap (λ l. x ∷ l) (next e)

pub none_out : {X : Type 0} (test : X → Bool) (xs : List X) → find test xs ≡ None → filter (λ x. not (test x)) xs ≡ xs
none_out test [] e = refl
none_out test (x ∷ xs) e = none_by x (test x) (find test xs) (filter (λ x. not (test x)) xs) xs e (none_out test xs)

-- Whether any passes.
any_by : {X : Type 0} (x : X) (b c : Bool) (rest : Option X) → cond b (Some x) rest ≡ None → (rest ≡ None → c ≡ false) → (b || c) ≡ false
any_by x true c rest e next = absurd (cc)
any_by x false c rest e next = next e

pub none_any : {X : Type 0} (test : X → Bool) (xs : List X) → find test xs ≡ None → list_any test xs ≡ false
none_any test [] e = refl
none_any test (x ∷ xs) e = any_by x (test x) (list_any test xs) (find test xs) e (none_any test xs)

any_hit : {X : Type 0} (x y : X) (b c : Bool) (rest : Option X) → cond b (Some x) rest ≡ Some y → (rest ≡ Some y → c ≡ true) → (b || c) ≡ true
any_hit x y true c rest e next = refl
any_hit x y false c rest e next = next e

pub some_any : {X : Type 0} (test : X → Bool) (xs : List X) (y : X) → find test xs ≡ Some y → list_any test xs ≡ true
some_any test [] y e = absurd (cc)
some_any test (x ∷ xs) y e = any_hit x y (test x) (list_any test xs) (find test xs) e (some_any test xs y)

-- How many pass, one by one.
count_one : {X : Type 0} (b : Bool) (x : X) → length (cond b (x ∷ []) []) ≡ 0 + (if b then 1 else 0)
count_one true x = refl
count_one false x = refl

count_more : {X : Type 0} (b : Bool) (y : X) (more less : List X) (k : ℕ)
    → length more ≡ length less + k
    → length (cond b (y ∷ more) more) ≡ length (cond b (y ∷ less) less) + k
count_more true y more less k e = omega (arith, e)
count_more false y more less k e = e

pub count_next : {X : Type 0} (test : X → Bool) (xs : List X) (i : ℕ) (x : X)
    → i < length xs
    → x ≡ slice_index_or xs i x
    → length (filter test (take (suc i) xs)) ≡ length (filter test (take i xs)) + (if test x then 1 else 0)
count_next test [] i x lt is = absurd (omega (arith, lt))
count_next test (y ∷ xs) zero x lt is = ap (λ z. length (cond (test z) (z ∷ []) [])) (sym is) ∙ count_one (test x) x
count_next test (y ∷ xs) (suc i) x lt is = count_more (test y) y (filter test (take (suc i) xs)) (filter test (take i xs)) _ (count_next test xs i x (omega (arith, lt)) is)

-- The search for a number.
module _ {X : Type 0} (key : X → ℕ) (n : ℕ) where
  pub number_found : (xs : List X) (i : ℕ) (x : X)
      → i < length xs
      → x ≡ slice_index_or xs i x
      → Passed (λ y. key y == n) xs i
      → key x ≡ n
      → IsAt (find (λ y. key y == n) xs) xs i
  number_found xs i x lt is p hit = found_at (λ y. key y == n) xs i x lt is p (eq-eqb (key x) n hit)

  pub number_passed : (xs : List X) (i : ℕ) (x : X)
      → i < length xs
      → x ≡ slice_index_or xs i x
      → Passed (λ y. key y == n) xs i
      → (key x ≡ n → ⊥)
      → Passed (λ y. key y == n) xs (i + 1)
  number_passed xs i x lt is p miss = passed_next (λ y. key y == n) xs i x lt is p (ne_eqb (key x) n miss)
