-- Lists of numbers in which none stands twice, and lists whose members have such numbers.
use Rattle.std.proofs.Common.{◌≡◌, ℕ, List, [], ◌∷◌, ◌++◌, map, filter, Bool, true, false, refl, ap, sym, ◌∙◌, arith, eq-eqb, eqb-true}
use Rattle.std.specs.Prelude.{if◌then◌else◌, cond, ◌==◌, ◌||◌, not}
use Rattle.std.specs.List.{list_any}
use Rattle.pl_term.specs.Variables.{is_in}
use Rattle.hub_threads.specs.Distinct.{has_number, Distinct}

-- Either test

pub or_left : (a b : Bool) → (a || b) ≡ false → a ≡ false
or_left true b e = e
or_left false b e = refl

pub or_right : (a b : Bool) → (a || b) ≡ false → b ≡ false
or_right true b e = absurd (cc)
or_right false b e = e

pub or_both : (a b : Bool) → a ≡ false → b ≡ false → (a || b) ≡ false
or_both a b p q = ap (λ x. x || b) p ∙ q

-- The front and the back of a list

pub has_front : (n : ℕ) (xs ys : List ℕ) → has_number n (xs ++ ys) ≡ false → has_number n xs ≡ false
has_front n [] ys e = refl
has_front n (x ∷ xs) ys e =
    or_both (x == n) (has_number n xs) (or_left (x == n) (has_number n (xs ++ ys)) e)
    (has_front n xs ys (or_right (x == n) (has_number n (xs ++ ys)) e))

pub has_back : (n : ℕ) (xs ys : List ℕ) → has_number n (xs ++ ys) ≡ false → has_number n ys ≡ false
has_back n [] ys e = e
has_back n (x ∷ xs) ys e = has_back n xs ys (or_right (x == n) (has_number n (xs ++ ys)) e)

pub has_neither : (n : ℕ) (xs ys : List ℕ) → has_number n xs ≡ false → has_number n ys ≡ false → has_number n (xs ++ ys) ≡ false
has_neither n [] ys p q = q
has_neither n (x ∷ xs) ys p q =
    or_both (x == n) (has_number n (xs ++ ys)) (or_left (x == n) (has_number n xs) p)
    (has_neither n xs ys (or_right (x == n) (has_number n xs) p) q)

pub eq_same : (e : ℕ) → (e == e) ≡ true
eq_same e = eq-eqb e e refl

eq_turned : (a b : ℕ) → (a == b) ≡ false → (b == a) ≡ false
eq_turned a b e = grind (arith)

-- A test from either side
pub eq_sides : (a b : ℕ) (c d : Bool) → (a == b) ≡ c → (b == a) ≡ d → c ≡ d
eq_sides a b true true p q = refl
eq_sides a b false false p q = refl
eq_sides a b true false p q = sym (sym q ∙ ap (λ x. b == x) (eqb-true a b p) ∙ eq_same b)
eq_sides a b false true p q = sym p ∙ ap (λ x. a == x) (eqb-true b a q) ∙ eq_same a

pub any_is_in : (n : ℕ) (xs : List ℕ) → list_any (λ m. m == n) xs ≡ is_in n xs
any_is_in n [] = refl
any_is_in n (x ∷ xs) =
    ap (λ b. b || list_any (λ m. m == n) xs) (eq_sides x n (x == n) (n == x) refl refl) ∙ ap (λ b. (n == x) || b) (any_is_in n xs)

-- One number of a list

pub distinct_behind : (n : ℕ) (xs ys : List ℕ) → Distinct (xs ++ n ∷ ys) → has_number n ys ≡ false
distinct_behind n [] ys d = d.0
distinct_behind n (x ∷ xs) ys d = distinct_behind n xs ys d.1

not_same : (x n : ℕ) (xs ys : List ℕ) → has_number x (xs ++ n ∷ ys) ≡ false → (n == x) ≡ false
not_same x n xs ys e = or_left (n == x) (has_number x ys) (has_back x xs (n ∷ ys) e)

pub distinct_before : (n : ℕ) (xs ys : List ℕ) → Distinct (xs ++ n ∷ ys) → has_number n xs ≡ false
distinct_before n [] ys d = refl
distinct_before n (x ∷ xs) ys d =
    or_both (x == n) (has_number n xs) (eq_turned n x (not_same x n xs ys d.0)) (distinct_before n xs ys d.1)

pub distinct_without : (n : ℕ) (xs ys : List ℕ) → Distinct (xs ++ n ∷ ys) → Distinct (xs ++ ys)
distinct_without n [] ys d = d.1
distinct_without n (x ∷ xs) ys d =
    (has_neither x xs ys (has_front x xs (n ∷ ys) d.0) (or_right (n == x) (has_number x ys) (has_back x xs (n ∷ ys) d.0)), distinct_without n xs ys d.1)

pub distinct_with : (n : ℕ) (xs ys : List ℕ) → Distinct (xs ++ ys) → has_number n (xs ++ ys) ≡ false → Distinct (xs ++ n ∷ ys)
distinct_with n [] ys d e = (e, d)
distinct_with n (x ∷ xs) ys d e =
    let other = eq_turned x n (or_left (x == n) (has_number n (xs ++ ys)) e)
    in let later = or_right (x == n) (has_number n (xs ++ ys)) e
    in (
      has_neither x xs (n ∷ ys) (has_front x xs ys d.0) (or_both (n == x) (has_number x ys) other (has_back x xs ys d.0)),
      distinct_with n xs ys d.1 later,
    )

pub distinct_last : (n : ℕ) (xs : List ℕ) → Distinct xs → has_number n xs ≡ false → Distinct (xs ++ n ∷ [])
distinct_last n [] d e = (refl, tt)
distinct_last n (x ∷ xs) d e = (
  has_neither x xs (n ∷ []) d.0 (or_both (n == x) false (eq_turned x n (or_left (x == n) (has_number n xs) e)) refl),
  distinct_last n xs d.1 (or_right (x == n) (has_number n xs) e),
)

-- A whole part of a list
pub distinct_part : (xs ms ys : List ℕ) → Distinct (xs ++ (ms ++ ys)) → Distinct (xs ++ ys)
distinct_part xs [] ys d = d
distinct_part xs (m ∷ ms) ys d = distinct_part xs ms ys (distinct_without m xs (ms ++ ys) d)

-- Members by their numbers. `key` is a member's number.
module _ {X : Type 0} (key : X → ℕ) where
  pub all_kept : (n : ℕ) (xs : List X) → has_number n (map key xs) ≡ false → filter (λ x. not (key x == n)) xs ≡ xs
  all_kept n [] e = refl
  all_kept n (x ∷ xs) e =
      ap (λ b. cond (not b) (x ∷ filter (λ x. not (key x == n)) xs) (filter (λ x. not (key x == n)) xs)) (or_left (key x == n) (has_number n (map key xs)) e)
      ∙ ap (λ l. x ∷ l) (all_kept n xs (or_right (key x == n) (has_number n (map key xs)) e))

  all_same : (n : ℕ) (f : X → X) (xs : List X) → has_number n (map key xs) ≡ false → map (λ x. if key x == n then f x else x) xs ≡ xs
  all_same n f [] e = refl
  all_same n f (x ∷ xs) e =
      ap (λ b. (if b then f x else x) ∷ map (λ x. if key x == n then f x else x) xs) (or_left (key x == n) (has_number n (map key xs)) e)
      ∙ ap (λ l. x ∷ l) (all_same n f xs (or_right (key x == n) (has_number n (map key xs)) e))

  -- The member with the number is taken out.
  pub one_out : (before : List X) (x : X) (after : List X)
      → Distinct (map key before ++ key x ∷ map key after)
      → filter (λ y. not (key y == key x)) (before ++ x ∷ after) ≡ before ++ after
  one_out [] x after d =
      ap (λ b. cond (not b) (x ∷ filter (λ y. not (key y == key x)) after) (filter (λ y. not (key y == key x)) after)) (eq_same (key x))
      ∙ all_kept (key x) after d.0
  one_out (y ∷ before) x after d =
      ap
      (λ b. cond (not b) (y ∷ filter (λ y. not (key y == key x)) (before ++ x ∷ after)) (filter (λ y. not (key y == key x)) (before ++ x ∷ after)))
      (eq_turned (key x) (key y) (not_same (key y) (key x) (map key before) (map key after) d.0))
      ∙ ap (λ l. y ∷ l) (one_out before x after d.1)

  -- The member with the number is changed.
  pub one_changed : (f : X → X) (before : List X) (x : X) (after : List X)
      → Distinct (map key before ++ key x ∷ map key after)
      → map (λ y. if key y == key x then f y else y) (before ++ x ∷ after) ≡ before ++ f x ∷ after
  one_changed f [] x after d =
      ap (λ b. (if b then f x else x) ∷ map (λ y. if key y == key x then f y else y) after) (eq_same (key x))
      ∙ ap (λ l. f x ∷ l) (all_same (key x) f after d.0)
  one_changed f (y ∷ before) x after d =
      ap
      (λ b. (if b then f y else y) ∷ map (λ y. if key y == key x then f y else y) (before ++ x ∷ after))
      (eq_turned (key x) (key y) (not_same (key y) (key x) (map key before) (map key after) d.0))
      ∙ ap (λ l. y ∷ l) (one_changed f before x after d.1)
