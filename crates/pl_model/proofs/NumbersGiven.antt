-- The count of numbers stands above each number that a thread or a queue got.
use Rattle.std.proofs.Common.{◌≡◌, ◌≤◌, ◌<◌, ℕ, zero, suc, [], ◌∷◌, Option, Some, None, Bool, true, false, refl, arith, ltb-true, ltb-false}
use Rattle.std.specs.Prelude.{if◌then◌else◌, take, nat_lt, IfSome, slice_get}
use Rattle.pl_model.specs.History.{Kind, History, add_first, add_last, erase, abolish, set_dynamic, set_flag, set_op, make_queue, drop_queue, send, start, finish, join}
use Rattle.pl_model.specs.History as entries
use Rattle.pl_model.specs.Threads.{counted}
use Rattle.pl_model.specs.SharedState.{SharedState, change, changes, state_at, opening_state, number_given}

counted_by : (b : Bool) (n count : ℕ) → nat_lt n count ≡ b → (n < (if b then count else suc n)) × (count ≤ (if b then count else suc n))
counted_by true n count e = (ltb-true n count e, omega arith)
counted_by false n count e = let le = ltb-false n count e in (omega arith, omega (arith, le))

counted_above : (n count : ℕ) → (n < counted n count) × (count ≤ counted n count)
counted_above n count = counted_by (nat_lt n count) n count refl

count_changed : (k e : ℕ) (x : Kind) (s : SharedState) → s.count ≤ (change k e x s).count
count_changed k e (add_first q c o) s = omega arith
count_changed k e (add_last q c o) s = omega arith
count_changed k e (erase j) s = omega arith
count_changed k e (abolish q) s = omega arith
count_changed k e (set_dynamic ps) s = omega arith
count_changed k e (set_flag f v) s = omega arith
count_changed k e (set_op os) s = omega arith
count_changed k e (make_queue n a) s = (counted_above n s.count).1
count_changed k e (drop_queue n) s = omega arith
count_changed k e (send n t) s = omega arith
count_changed k e (entries.take j) s = omega arith
count_changed k e (start n t a) s = (counted_above n s.count).1
count_changed k e (finish how steps) s = omega arith
count_changed k e (join n) s = omega arith

count_changes : (xs : History) (k : ℕ) (s : SharedState) → s.count ≤ (changes k xs s).count
count_changes [] k s = omega arith
count_changes (x ∷ xs) k s =
    let one = count_changed k x.engine x.kind s
    in let more = count_changes xs (suc k) (change k x.engine x.kind s)
    in omega (arith, one, more)

-- The number that an update gives is below the count that it leaves.
given_below : (k e : ℕ) (x : Kind) (s : SharedState) → IfSome (number_given x) (λ n. n < (change k e x s).count)
given_below k e (add_first q c o) s = tt
given_below k e (add_last q c o) s = tt
given_below k e (erase j) s = tt
given_below k e (abolish q) s = tt
given_below k e (set_dynamic ps) s = tt
given_below k e (set_flag f v) s = tt
given_below k e (set_op os) s = tt
given_below k e (make_queue n a) s = (counted_above n s.count).0
given_below k e (drop_queue n) s = tt
given_below k e (send n t) s = tt
given_below k e (entries.take j) s = tt
given_below k e (start n t a) s = (counted_above n s.count).0
given_below k e (finish how steps) s = tt
given_below k e (join n) s = tt

below_later : (o : Option ℕ) (c d : ℕ) → c ≤ d → IfSome o (λ n. n < c) → IfSome o (λ n. n < d)
below_later None c d le below = below
below_later (Some n) c d le below = omega (arith, le, below)

given_later : (h : History) (k g i : ℕ) (s : SharedState)
    → i < g
    → IfSome (slice_get h i) (λ x. IfSome (number_given x.kind) (λ n. n < (changes k (take g h) s).count))
given_later [] k g i s lt = tt
given_later (x ∷ h) k zero i s lt = absurd (omega (arith, lt))
given_later (x ∷ h) k (suc g) zero s lt =
    below_later (number_given x.kind) _ _ (count_changes (take g h) (suc k) (change k x.engine x.kind s)) (given_below k x.engine x.kind s)
given_later (x ∷ h) k (suc g) (suc i) s lt = given_later h (suc k) g i (change k x.engine x.kind s) (omega (arith, lt))

pub numbers_given : (goals : ℕ) (h : History) (g i : ℕ)
    → i < g
    → IfSome (slice_get h i) (λ x. IfSome (number_given x.kind) (λ n. n < (state_at goals h g).count))
unfolding state_at
numbers_given goals h g i lt = given_later h zero g i (opening_state goals) lt
