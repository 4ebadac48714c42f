-- What changes put in and hand out, weighed.
use Rattle.std.proofs.Common.{◌≡◌, ℕ, ◌+◌, List, [], ◌∷◌, ◌++◌, map, filter, find, length, Option, Some, None, Bool, true, false, refl, ap, sym, ◌∙◌, arith}
use Rattle.std.specs.Prelude.{if◌then◌else◌, ◌==◌, cond, not, option_map, remove}
use Rattle.std.specs.List.{sum_by}
use Rattle.std.proofs.lemmas.List.{map-append}
use Rattle.std.proofs.lemmas.List.Sums.{sum_by-append, sum_by-cons}
use Rattle.std.proofs.lemmas.Option.{same_Some}
use Rattle.pl_model.specs.declared.threads.Message.{Message}
use Rattle.pl_model.specs.declared.threads.Status.{Status}
use Rattle.pl_model.specs.declared.threads.Thread.{Thread}
use Rattle.pl_model.specs.Threads.{Queue, first_message, is_queue, queue_numbered, thread_numbered, message_sent, message_taken, without_queue, own_queue, running_thread, thread_ended}
use Rattle.hub_threads.specs.Distinct.{Distinct}
use Rattle.hub_threads.specs.Held.{Held, IsSound, contents, is_goal_of, own_contents, without_goal}
use Rattle.hub_threads.specs.Located.{IsAt}
use Rattle.hub_threads.specs.Weights.{weigh, weigh_queue, weigh_thread, weigh_status, weigh_how, weigh_goal, KeepsAll}
use Rattle.hub_threads.proofs.Located.{located_removed, located_set, located_out, located_changed}
use Rattle.hub_threads.proofs.Searched.{none_out}
use Rattle.hub_threads.proofs.Changes.{taken_state}

-- WHERE A MEMBER WAS FOUND
at_by : {X : Type 0} (test : X → Bool) (y x : X) (b : Bool) (rest : Option X) (xs : List X)
    → test y ≡ b
    → cond b (Some y) rest ≡ Some x
    → cond (test y) (Some y) (find test xs) ≡ Some x
    → rest ≡ find test xs
    → (find test xs ≡ Some x → (before : List X) × ((after : List X) × (xs ≡ before ++ x ∷ after)))
    → (before : List X) × ((after : List X) × (y ∷ xs ≡ before ++ x ∷ after))
at_by test y x true rest xs is e whole same next = ([], (xs, ap (λ z. z ∷ xs) (same_Some y x e)))
at_by test y x false rest xs is e whole same next =
    let s = next (sym same ∙ e) in (y ∷ s.0, (s.1.0, ap (λ l. y ∷ l) s.1.1))

pub split : {X : Type 0} (test : X → Bool) (xs : List X) (x : X) → find test xs ≡ Some x → (before : List X) × ((after : List X) × (xs ≡ before ++ x ∷ after))
split test [] x e = absurd (cc)
split test (y ∷ xs) x e = at_by test y x (test y) (find test xs) xs refl e e refl (split test xs x)

-- SUMS
module _ {X : Type 0} (w : X → ℕ) where
  pub sum_split : (before : List X) (x : X) (after : List X) → sum_by w (before ++ x ∷ after) ≡ w x + sum_by w (before ++ after)
  sum_split before x after =
      let a = sum_by-append w before (x ∷ after) in
      let b = sum_by-append w before after in
      let c = sum_by-cons w x after in omega (arith, a, b, c)

  pub sum_last : (xs : List X) (x : X) → sum_by w (xs ++ x ∷ []) ≡ sum_by w xs + w x
  sum_last xs x = let a = sum_by-append w xs (x ∷ []) in let b = sum_by-cons w x [] in omega (arith, a, b)

  module _ (key : X → ℕ) (n : ℕ) (xs : List X) (x : X) (d : Distinct (map key xs)) (e : find (λ y. key y == n) xs ≡ Some x) where
    out_at : (before after : List X) → xs ≡ before ++ x ∷ after → sum_by w xs ≡ w x + sum_by w (filter (λ y. not (key y == n)) xs)
    out_at before after whole =
        let at : IsAt (find (λ y. key y == n) xs) xs (length before) = record { before = before; item = x; after = after; whole = whole; index = refl; found_is = e } in
        ap (sum_by w) whole
        ∙ sum_split before x after
        ∙ ap (λ l. w x + sum_by w l) (sym (located_removed (find (λ y. key y == n) xs) xs (length before) at) ∙ located_out key n xs (length before) at d)

    changed_at : (f : X → X) (before after : List X) → xs ≡ before ++ x ∷ after → sum_by w (map (λ y. if key y == n then f y else y) xs) + w x ≡ w (f x) + sum_by w xs
    changed_at f before after whole =
        let at : IsAt (find (λ y. key y == n) xs) xs (length before) = record { before = before; item = x; after = after; whole = whole; index = refl; found_is = e } in
        let new = ap (sum_by w) (sym (located_changed key n f (f x) xs (length before) at refl d) ∙ located_set (find (λ y. key y == n) xs) xs (length before) (f x) at) ∙ sum_split before (f x) after in
        let old = ap (sum_by w) whole ∙ sum_split before x after in
        omega (arith, new, old)

    -- one is taken out
    pub sum_out : sum_by w xs ≡ w x + sum_by w (filter (λ y. not (key y == n)) xs)
    sum_out = let s = split (λ y. key y == n) xs x e in out_at s.0 s.1.0 s.1.1

    -- one is changed
    pub sum_changed : (f : X → X) → sum_by w (map (λ y. if key y == n then f y else y) xs) + w x ≡ w (f x) + sum_by w xs
    sum_changed f = let s = split (λ y. key y == n) xs x e in changed_at f s.0 s.1.0 s.1.1

module _ {M : Type 0} (w : M → ℕ) (h : Held M) (s : IsSound h) where
  abbrev rest_of : ℕ
  rest_of = sum_by (weigh_thread w) h.state.threads + sum_by (weigh_goal w) h.goals

  sent_one : (n k : ℕ) (m : M) (q : Queue M) → queue_numbered h.state n ≡ Some q → weigh w (record h { state = message_sent n k m h.state }) ≡ w m + weigh w h
  sent_one n k m q e =
      let x : Message M = record { place = k; content = m } in
      let one = sum_changed (weigh_queue w) (λ (p : Queue M). p.number) n h.state.queues q s.queues_once e (λ p. record p { messages = p.messages ++ x ∷ [] }) in
      let more = ap (sum_by w) (map-append (λ (y : Message M). y.content) q.messages (x ∷ [])) ∙ sum_last w (contents q.messages) m in
      omega (arith, one, more)

  taken_at : (n : ℕ) (q : Queue M) (test : M → Bool) (m : Message M) → queue_numbered h.state n ≡ Some q → first_message test q ≡ Some m
      → (before after : List (Queue M)) → h.state.queues ≡ before ++ q ∷ after
      → (front back : List (Message M)) → q.messages ≡ front ++ m ∷ back
      → weigh w h ≡ w m.content + weigh w (record h { state = message_taken m.place h.state })
  taken_at n q test m e f before after whole front back inner =
      let t = h.state in
      let i = length before in
      let j = length front in
      let at : IsAt (find (is_queue n) t.queues) t.queues i = record { before = before; item = q; after = after; whole = whole; index = refl; found_is = e } in
      let in_ : IsAt (find (λ (y : Message M). test y.content) q.messages) q.messages j = record { before = front; item = m; after = back; whole = inner; index = refl; found_is = f } in
      let z : Queue M = record q { messages = remove q.messages j } in
      let left = ap (λ (y : Held M). y.state.queues) (taken_state h t.aliases t.queues t.threads t.joined h.goals (find (is_queue n) t.queues) i z refl at (find (λ (y : Message M). test y.content) q.messages) j in_ refl s) in
      let new = ap (sum_by (weigh_queue w)) (sym left ∙ located_set (find (is_queue n) t.queues) t.queues i z at) ∙ sum_split (weigh_queue w) before z after in
      let old = ap (sum_by (weigh_queue w)) whole ∙ sum_split (weigh_queue w) before q after in
      let less = ap (λ ms. sum_by w (contents ms)) (located_removed (find (λ (y : Message M). test y.content) q.messages) q.messages j in_)
      ∙ ap (sum_by w) (map-append (λ (y : Message M). y.content) front back) in
      let all = ap (λ ms. sum_by w (contents ms)) inner
      ∙ ap (sum_by w) (map-append (λ (y : Message M). y.content) front (m ∷ back))
      ∙ sum_split w (contents front) m.content (contents back)
      ∙ ap (λ l. w m.content + sum_by w l) (sym (map-append (λ (y : Message M). y.content) front back)) in
      let gone = ap (sum_by w) (map-append (λ (y : Message M). y.content) front back) in
      omega (arith, new, old, less, all, gone)

  taken_one : (n : ℕ) (q : Queue M) (test : M → Bool) (m : Message M) → queue_numbered h.state n ≡ Some q → first_message test q ≡ Some m → weigh w h ≡ w m.content + weigh w (record h { state = message_taken m.place h.state })
  taken_one n q test m e f =
      let a = split (is_queue n) h.state.queues q e in
      let b = split (λ (y : Message M). test y.content) q.messages m f in
      taken_at n q test m e f a.0 a.1.0 a.1.1 b.0 b.1.0 b.1.1

  own_weighs : (n : ℕ) (o : Option (Queue M)) → queue_numbered h.state n ≡ o
      → sum_by (weigh_queue w) h.state.queues ≡ sum_by w (elim o [ None ↦ [] | Some q ↦ contents q.messages ]) + sum_by (weigh_queue w) (without_queue n h.state)
  own_weighs n None e = let same = ap (sum_by (weigh_queue w)) (none_out (is_queue n) h.state.queues e) in omega (arith, same)
  own_weighs n (Some q) e = sum_out (weigh_queue w) (λ (p : Queue M). p.number) n h.state.queues q s.queues_once e

  ended_one : (n : ℕ) (how : Status M) (t : Thread M) → thread_numbered h.state n ≡ Some t → t.status ≡ None → weigh w (record h { state = thread_ended n how h.state }) + sum_by w (own_contents n h.state) ≡ weigh_how w how + weigh w h
  ended_one n how t e runs =
      let queues = own_weighs n (queue_numbered h.state n) refl in
      let one = sum_changed (weigh_thread w) (λ (y : Thread M). y.number) n h.state.threads t s.threads_once e (λ y. record y { status = Some how }) in
      let nothing = ap (weigh_status w) runs in
      omega (arith, queues, one, nothing)

  goal_one : (n : ℕ) (m : M) (o : Option (ℕ × M)) → find (is_goal_of n) h.goals ≡ o → option_map (λ (y : ℕ × M). y.1) o ≡ Some m → weigh w h ≡ w m + weigh w (without_goal n h)
  goal_one n m None e f = absurd (cc)
  goal_one n m (Some g) e f =
      let one = sum_out (weigh_goal w) (λ (y : ℕ × M). y.0) n h.goals g s.goals_once e in
      let is = ap w (same_Some g.1 m f) in
      omega (arith, one, is)

  pub keeps_all : KeepsAll w h
  keeps_all =
      record {
        made = λ n a. let one = sum_last (weigh_queue w) h.state.queues (record { number = n; is_own = false; messages = [] }) in omega (arith, one);
        dropped = λ n q e. let one = sum_out (weigh_queue w) (λ (p : Queue M). p.number) n h.state.queues q s.queues_once e in omega (arith, one);
        sent = sent_one;
        taken = taken_one;
        started = λ n goal a.
            let queues = sum_last (weigh_queue w) h.state.queues (own_queue n) in
            let threads = sum_last (weigh_thread w) h.state.threads (running_thread n) in
            let goals = sum_last (weigh_goal w) h.goals (n, goal) in
            omega (arith, queues, threads, goals);
        goal = λ n m e. goal_one n m (find (is_goal_of n) h.goals) refl e;
        ended = ended_one;
        joined = λ n t e. let one = sum_out (weigh_thread w) (λ (y : Thread M). y.number) n h.state.threads t s.threads_once e in omega (arith, one);
      }
