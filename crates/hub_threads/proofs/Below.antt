-- Numbers and places that are counted upwards are new.
use Rattle.std.proofs.Common.{◌≡◌, ◌<◌, ◌≤◌, ℕ, suc, List, [], ◌∷◌, ◌++◌, map, filter, find, Option, Some, None, Bool, true, false, refl, ap, sym, subst, ◌∙◌, arith}
use Rattle.std.specs.Prelude.{if◌then◌else◌, ◌==◌, cond, nat_lt, not}
use Rattle.std.proofs.lemmas.List.{map-append, append-nil}
use Rattle.std.proofs.lemmas.Bool.{ltb-false, ltb-true, ne_eqb, true≢false}
use Rattle.pl_term.specs.Tree.{Chars}
use Rattle.pl_term.specs.Variables.{is_in}
use Rattle.pl_model.specs.declared.threads.Message.{Message}
use Rattle.pl_model.specs.declared.threads.Status.{Status}
use Rattle.pl_model.specs.declared.threads.Thread.{Thread}
use Rattle.pl_model.specs.Threads.{Queue, Threads, counted, is_queue, is_thread, queue_made, queue_dropped, message_sent, message_taken, own_queue, running_thread, with_alias, with_message, without_message, with_end, thread_ended, thread_joined}
use Rattle.hub_threads.specs.Distinct.{has_number}
use Rattle.hub_threads.specs.Held.{Held, IsNew, alias_numbers, is_goal_of, message_places, opening_held, places, started, thread_numbers, without_goal}
use Rattle.hub_threads.specs.Weights.{IsBelow, StaysBelow}
use Rattle.hub_threads.proofs.Numbers.{has_neither, has_front, has_back, or_both, or_left, or_right}
use Rattle.hub_threads.proofs.Changes.{filter_lacks, places_append}
use Rattle.hub_threads.proofs.Searched.{some_any}
use Rattle.hub_threads.proofs.Free.{any_number}

apart : (n m : ℕ) → n < m → (n == m) ≡ false
apart n m lt = ne_eqb n m (λ e. omega (arith, lt, e))

above_by : (n count m : ℕ) (b : Bool) → nat_lt n count ≡ b → (if b then count else suc n) ≤ m → (count ≤ m) × ((n == m) ≡ false)
above_by n count m true is le = (le, apart n m (let lt = ltb-true n count is in omega (arith, lt, le)))
above_by n count m false is le = (let ge = ltb-false n count is in omega (arith, ge, le), apart n m (omega (arith, le)))

above : (n count m : ℕ) → counted n count ≤ m → (count ≤ m) × ((n == m) ≡ false)
above n count m le = above_by n count m (nat_lt n count) refl le

-- LISTS
key_last : {X : Type 0} (key : X → ℕ) (m : ℕ) (xs : List X) (x : X) → has_number m (map key xs) ≡ false → (key x == m) ≡ false → has_number m (map key (xs ++ x ∷ [])) ≡ false
key_last key m xs x e f =
    subst (λ l. has_number m l ≡ false) (sym (map-append key xs (x ∷ [])))
    (has_neither m (map key xs) (key x ∷ []) e (or_both (key x == m) false f refl))

named_last : {M : Type 0} (m n : ℕ) (a : Option Chars) (t : Threads M) → has_number m (alias_numbers t.aliases) ≡ false → (n == m) ≡ false → has_number m (alias_numbers (with_alias n a t)) ≡ false
named_last m n None t e f = e
named_last m n (Some a) t e f = key_last (λ (x : Chars × ℕ). x.1) m t.aliases (a, n) e f

pub same_numbers : {X : Type 0} (key : X → ℕ) (f : X → X) → ((x : X) → key (f x) ≡ key x) → (xs : List X) → map key (map f xs) ≡ map key xs
same_numbers key f e [] = refl
same_numbers key f e (x ∷ xs) = ap (λ n. n ∷ map key (map f xs)) (e x) ∙ ap (λ l. key x ∷ l) (same_numbers key f e xs)

in_last : (m n : ℕ) (xs : List ℕ) → is_in m xs ≡ false → (m == n) ≡ false → is_in m (xs ++ n ∷ []) ≡ false
in_last m n [] e f = or_both (m == n) false f refl
in_last m n (x ∷ xs) e f = or_both (m == x) (is_in m (xs ++ n ∷ [])) (or_left (m == x) (is_in m xs) e) (in_last m n xs (or_right (m == x) (is_in m xs) e) f)

module _ {M : Type 0} where
  sent_number : (n : ℕ) (m : Message M) (q : Queue M) (b : Bool) → (if b then record q { messages = q.messages ++ m ∷ [] } else q).number ≡ q.number
  sent_number n m q true = refl
  sent_number n m q false = refl

  pub ended_number : (how : Status M) (t : Thread M) (b : Bool) → (if b then record t { status = Some how } else t).number ≡ t.number
  ended_number how t true = refl
  ended_number how t false = refl

  -- the places of messages
  sent_lacks_by : (p : ℕ) (m : Message M) (q : Queue M) (b : Bool) → has_number p (message_places q.messages) ≡ false → (m.place == p) ≡ false
      → has_number p (message_places (if b then record q { messages = q.messages ++ m ∷ [] } else q).messages) ≡ false
  sent_lacks_by p m q true e f = key_last (λ (x : Message M). x.place) p q.messages m e f
  sent_lacks_by p m q false e f = e

  sent_lacks : (p n : ℕ) (m : Message M) (qs : List (Queue M)) → has_number p (places qs) ≡ false → (m.place == p) ≡ false → has_number p (places (map (with_message n m) qs)) ≡ false
  sent_lacks p n m [] e f = refl
  sent_lacks p n m (q ∷ qs) e f =
      has_neither p (message_places (with_message n m q).messages) (places (map (with_message n m) qs))
      (sent_lacks_by p m q (is_queue n q) (has_front p (message_places q.messages) (places qs) e) f)
      (sent_lacks p n m qs (has_back p (message_places q.messages) (places qs) e) f)

  taken_lacks : (p k : ℕ) (qs : List (Queue M)) → has_number p (places qs) ≡ false → has_number p (places (map (without_message k) qs)) ≡ false
  taken_lacks p k [] e = refl
  taken_lacks p k (q ∷ qs) e =
      has_neither p (message_places (without_message k q).messages) (places (map (without_message k) qs))
      (filter_lacks (λ (x : Message M). x.place) (λ x. not (x.place == k)) p q.messages (has_front p (message_places q.messages) (places qs) e))
      (taken_lacks p k qs (has_back p (message_places q.messages) (places qs) e))

  without_lacks_by : (p : ℕ) (q : Queue M) (qs rs : List (Queue M)) (b : Bool) → has_number p (message_places q.messages) ≡ false → has_number p (places rs) ≡ false → has_number p (places (cond b (q ∷ rs) rs)) ≡ false
  without_lacks_by p q qs rs true e f = has_neither p (message_places q.messages) (places rs) e f
  without_lacks_by p q qs rs false e f = f

  without_lacks : (p : ℕ) (test : Queue M → Bool) (qs : List (Queue M)) → has_number p (places qs) ≡ false → has_number p (places (filter test qs)) ≡ false
  without_lacks p test [] e = refl
  without_lacks p test (q ∷ qs) e =
      without_lacks_by p q qs (filter test qs) (test q) (has_front p (message_places q.messages) (places qs) e)
      (without_lacks p test qs (has_back p (message_places q.messages) (places qs) e))

  empty_lacks : (p n : ℕ) (own : Bool) (qs : List (Queue M)) → has_number p (places qs) ≡ false → has_number p (places (qs ++ record { number = n; is_own = own; messages = [] } ∷ [])) ≡ false
  empty_lacks p n own qs e = subst (λ l. has_number p l ≡ false) (sym (places_append qs (record { number = n; is_own = own; messages = [] } ∷ []) ∙ append-nil (places qs))) e

  -- a number that is held is below
  below_by : (count n : ℕ) (ts : List (Thread M)) (t : Thread M) (b : Bool) → nat_lt n count ≡ b → find (is_thread n) ts ≡ Some t → ((m : ℕ) → count ≤ m → has_number m (thread_numbers ts) ≡ false) → n < count
  below_by count n ts t true is e lacks = ltb-true n count is
  below_by count n ts t false is e lacks = absurd (true≢false (sym (some_any (is_thread n) ts t e) ∙ any_number (λ (x : Thread M). x.number) n ts ∙ lacks n (ltb-false n count is)))

  held_below : (count n : ℕ) (ts : List (Thread M)) (t : Thread M) → find (is_thread n) ts ≡ Some t → ((m : ℕ) → count ≤ m → has_number m (thread_numbers ts) ≡ false) → n < count
  held_below count n ts t e lacks = below_by count n ts t (nat_lt n count) refl e lacks

  module _ (count g : ℕ) (h : Held M) (b : IsBelow count g h) where
    made_new : (n : ℕ) (a : Option Chars) (m : ℕ) → counted n count ≤ m → IsNew m (record h { state = queue_made n a h.state })
    made_new n a m le =
        let up = above n count m le in
        let new = b.numbers m up.0 in
        record {
          no_queue = key_last (λ (q : Queue M). q.number) m h.state.queues (record { number = n; is_own = false; messages = [] }) new.no_queue up.1;
          no_thread = new.no_thread;
          no_alias = named_last m n a h.state new.no_alias up.1;
          no_goal = new.no_goal;
        }

    started_new : (n : ℕ) (goal : M) (a : Option Chars) (m : ℕ) → counted n count ≤ m → IsNew m (started n goal a h)
    started_new n goal a m le =
        let up = above n count m le in
        let new = b.numbers m up.0 in
        record {
          no_queue = key_last (λ (q : Queue M). q.number) m h.state.queues (own_queue n) new.no_queue up.1;
          no_thread = key_last (λ (t : Thread M). t.number) m h.state.threads (running_thread n) new.no_thread up.1;
          no_alias = named_last m n a h.state new.no_alias up.1;
          no_goal = key_last (λ (x : ℕ × M). x.0) m h.goals (n, goal) new.no_goal up.1;
        }

    dropped_new : (n m : ℕ) → count ≤ m → IsNew m (record h { state = queue_dropped n h.state })
    dropped_new n m le =
        let new = b.numbers m le in
        record {
          no_queue = filter_lacks (λ (q : Queue M). q.number) (λ q. not (is_queue n q)) m h.state.queues new.no_queue;
          no_thread = new.no_thread;
          no_alias = filter_lacks (λ (x : Chars × ℕ). x.1) (λ x. not (x.1 == n)) m h.state.aliases new.no_alias;
          no_goal = new.no_goal;
        }

    sent_new : (n k : ℕ) (x : M) (m : ℕ) → count ≤ m → IsNew m (record h { state = message_sent n k x h.state })
    sent_new n k x m le =
        let new = b.numbers m le in
        let y : Message M = record { place = k; content = x } in
        record {
          no_queue = subst (λ l. has_number m l ≡ false) (sym (same_numbers (λ (q : Queue M). q.number) (with_message n y) (λ q. sent_number n y q (is_queue n q)) h.state.queues)) new.no_queue;
          no_thread = new.no_thread;
          no_alias = new.no_alias;
          no_goal = new.no_goal;
        }

    taken_new : (k m : ℕ) → count ≤ m → IsNew m (record h { state = message_taken k h.state })
    taken_new k m le =
        let new = b.numbers m le in
        record {
          no_queue = subst (λ l. has_number m l ≡ false) (sym (same_numbers (λ (q : Queue M). q.number) (without_message k) (λ q. refl) h.state.queues)) new.no_queue;
          no_thread = new.no_thread;
          no_alias = new.no_alias;
          no_goal = new.no_goal;
        }

    goal_new : (n m : ℕ) → count ≤ m → IsNew m (without_goal n h)
    goal_new n m le =
        let new = b.numbers m le in
        record {
          no_queue = new.no_queue;
          no_thread = new.no_thread;
          no_alias = new.no_alias;
          no_goal = filter_lacks (λ (x : ℕ × M). x.0) (λ x. not (is_goal_of n x)) m h.goals new.no_goal;
        }

    ended_new : (n : ℕ) (how : Status M) (m : ℕ) → count ≤ m → IsNew m (record h { state = thread_ended n how h.state })
    ended_new n how m le =
        let new = b.numbers m le in
        record {
          no_queue = filter_lacks (λ (q : Queue M). q.number) (λ q. not (is_queue n q)) m h.state.queues new.no_queue;
          no_thread = subst (λ l. has_number m l ≡ false) (sym (same_numbers (λ (t : Thread M). t.number) (with_end n how) (λ t. ended_number how t (is_thread n t)) h.state.threads)) new.no_thread;
          no_alias = new.no_alias;
          no_goal = new.no_goal;
        }

    joined_new : (n m : ℕ) → count ≤ m → IsNew m (record h { state = thread_joined n h.state })
    joined_new n m le =
        let new = b.numbers m le in
        record {
          no_queue = new.no_queue;
          no_thread = filter_lacks (λ (t : Thread M). t.number) (λ t. not (is_thread n t)) m h.state.threads new.no_thread;
          no_alias = filter_lacks (λ (x : Chars × ℕ). x.1) (λ x. not (x.1 == n)) m h.state.aliases new.no_alias;
          no_goal = new.no_goal;
        }

    pub stays_below : StaysBelow count g h
    stays_below =
        record {
          made = λ n a. record {
            numbers = made_new n a;
            unjoined = λ m le. b.unjoined m (above n count m le).0;
            places = λ p le. empty_lacks p n false h.state.queues (b.places p le);
          };
          dropped = λ n. record { numbers = dropped_new n; unjoined = b.unjoined; places = λ p le. without_lacks p (λ q. not (is_queue n q)) h.state.queues (b.places p le) };
          sent = λ n x. record {
            numbers = sent_new n g x;
            unjoined = b.unjoined;
            places = λ p le. sent_lacks p n (record { place = g; content = x }) h.state.queues (b.places p (omega (arith, le))) (apart g p (omega (arith, le)));
          };
          taken = λ k. record { numbers = taken_new k; unjoined = b.unjoined; places = λ p le. taken_lacks p k h.state.queues (b.places p le) };
          started = λ n goal a. record {
            numbers = started_new n goal a;
            unjoined = λ m le. b.unjoined m (above n count m le).0;
            places = λ p le. empty_lacks p n true h.state.queues (b.places p le);
          };
          goal = λ n. record { numbers = goal_new n; unjoined = b.unjoined; places = b.places };
          ended = λ n how. record { numbers = ended_new n how; unjoined = b.unjoined; places = λ p le. without_lacks p (λ q. not (is_queue n q)) h.state.queues (b.places p le) };
          joined = λ n t e. record {
            numbers = joined_new n;
            unjoined = λ m le. in_last m n h.state.joined (b.unjoined m le) (ne_eqb m n (λ is. let lt = held_below count n h.state.threads t e (λ k up. (b.numbers k up).no_thread) in omega (arith, lt, is, le)));
            places = b.places;
          };
          later = λ c k le more. record {
            numbers = λ n up. b.numbers n (omega (arith, le, up));
            unjoined = λ n up. b.unjoined n (omega (arith, le, up));
            places = λ p up. b.places p (omega (arith, more, up));
          };
        }

  pub opening_below : IsBelow {M = M} 2 0 opening_held
  opening_below = record {
    numbers = λ n le. let f = apart 1 n (omega (arith, le)) in record { no_queue = or_both (1 == n) false f refl; no_thread = or_both (1 == n) false f refl; no_alias = or_both (1 == n) false f refl; no_goal = refl };
    unjoined = λ n le. refl;
    places = λ p le. refl;
  }
