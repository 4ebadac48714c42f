-- Which cause of a refusal holds, and what a call answers.
use Rattle.std.proofs.Common.{◌≡◌, ℕ, List, [], ◌∷◌, ◌++◌, map, filter, find, Option, Some, None, Result, Ok, Err, Bool, true, false, refl, ap, sym, subst, ◌∙◌}
use Rattle.std.specs.Prelude.{if◌then◌else◌, ◌==◌, not, is_some, is_none, slice_set, IfErr, IfOk, OnOk, OnErr}
use Rattle.std.specs.Option.{option_map}
use Rattle.pl_term.specs.declared.memory.Memory.{Memory}
use Rattle.std.specs.Result.{MatchResult}
use Rattle.pl_term.specs.Tree.{Chars}
use Rattle.pl_model.specs.declared.threads.Message.{Message}
use Rattle.pl_model.specs.declared.threads.Name.{Name}
use Rattle.pl_model.specs.declared.threads.Status.{Status}
use Rattle.pl_model.specs.declared.threads.Thread.{Thread}
use Rattle.pl_model.specs.Threads.{Queue, Threads, queue_named, thread_named, thread_numbered, is_queue, has_engine, is_running, thread_joined, message_sent, message_taken, first_message}
use Rattle.hub_threads.specs.declared.held.fault.QueueFault.{QueueFault}
use Rattle.hub_threads.specs.declared.held.fault.QueueFault.TheVariants.{NoQueue, OwnQueue, NoThread, AliasTaken, EnginesFull, Memory as NoMemory}
use Rattle.hub_threads.specs.Distinct.{has_number, Distinct}
use Rattle.hub_threads.specs.Held.{Held, held, places, contents, left_by_join, named_message, IsSound, Removes, Takes, TakesFirst}
use Rattle.hub_threads.specs.Located.{IsAt}
use Rattle.hub_threads.specs.Refusals.{is_taken, start_refusal, drop_refusal, end_refusal, join_refusal, join_fault}
use Rattle.hub_threads.proofs.Located.{located_set, item_out, key_is}
use Rattle.hub_threads.proofs.Searched.{none_out}
use Rattle.hub_threads.proofs.Changes.{sent_sound, sent_state, taken_sound, taken_state, queue_gone_sound}

module _ {M : Type 0} (t : Threads M) (x : Name) where
  pub drop_none : queue_named t x ≡ None → drop_refusal t x ≡ Some NoQueue
  drop_none e = ap (λ o. elim o [ None ↦ Some NoQueue | Some q ↦ if q.is_own then Some OwnQueue else None ]) e

  pub drop_own : (q : Queue M) → queue_named t x ≡ Some q → q.is_own ≡ true → drop_refusal t x ≡ Some OwnQueue
  drop_own q e own =
      ap (λ o. elim o [ None ↦ Some NoQueue | Some q ↦ if q.is_own then Some OwnQueue else None ]) e
      ∙ ap (λ b. if b then Some OwnQueue else None) own

  pub drop_free : (q : Queue M) → queue_named t x ≡ Some q → q.is_own ≡ false → drop_refusal t x ≡ None
  drop_free q e own =
      ap (λ o. elim o [ None ↦ Some NoQueue | Some q ↦ if q.is_own then Some OwnQueue else None ]) e
      ∙ ap (λ b. if b then Some OwnQueue else None) own

module _ {M : Type 0} where
  pub taken_first : (t : Threads M) (a : Option Chars) → is_taken t a ≡ true → start_refusal t a ≡ Some AliasTaken
  taken_first t a e = ap (λ b. if b then Some AliasTaken else (if has_engine t then None else Some EnginesFull)) e

  pub full_next : (t : Threads M) (a : Option Chars) → is_taken t a ≡ false → has_engine t ≡ false → start_refusal t a ≡ Some EnginesFull
  full_next t a e f =
      ap (λ b. if b then Some AliasTaken else (if has_engine t then None else Some EnginesFull)) e
      ∙ ap (λ b. if b then None else Some EnginesFull) f

  pub starts : (t : Threads M) (a : Option Chars) → is_taken t a ≡ false → has_engine t ≡ true → start_refusal t a ≡ None
  starts t a e f =
      ap (λ b. if b then Some AliasTaken else (if has_engine t then None else Some EnginesFull)) e
      ∙ ap (λ b. if b then None else Some EnginesFull) f

  -- A message is pushed, or there is no memory for it.
  located_back : (qs : List (Queue M)) (o : Option (Queue M)) (i : ℕ) (z : Queue M) (at : IsAt o qs i) → z ≡ at.item → slice_set qs i z ≡ qs
  located_back qs o i z at is = located_set o qs i z at ∙ ap (λ y. at.before ++ y ∷ at.after) is ∙ sym at.whole

  pub pushed_sound : {U : Type 0} (r : Result U M) (xs : List (Chars × ℕ)) (qs : List (Queue M)) (hs : List (Thread M)) (js : List ℕ) (gs : List (ℕ × M)) (o : Option (Queue M)) (i k : ℕ) (m : M) (z : Queue M)
      → (at : IsAt o qs i)
      → OnOk r (z ≡ record at.item { messages = at.item.messages ++ record { place = k; content = m } ∷ [] })
      → OnErr r (z ≡ at.item)
      → has_number k (places qs) ≡ false
      → IsSound (held xs qs hs js gs)
      → IsSound (held xs (slice_set qs i z) hs js gs)
  pushed_sound (Ok u) xs qs hs js gs o i k m z at ok err new s = sent_sound xs qs hs js gs o i k m z at ok new s
  pushed_sound (Err e) xs qs hs js gs o i k m z at ok err new s = subst (λ l. IsSound (held xs l hs js gs)) (sym (located_back qs o i z at err)) s

  pub pushed_answer : {U : Type 0} (r : Result U M) (res : Result U (M × QueueFault)) (h : Held M) (xs : List (Chars × ℕ)) (qs : List (Queue M)) (hs : List (Thread M)) (js : List ℕ) (gs : List (ℕ × M)) (o : Option (Queue M)) (i k : ℕ) (m : M) (z : Queue M)
      → MatchResult r (λ u. res ≡ Ok u) (λ y. res ≡ Err (y, NoMemory))
      → IfErr r (λ y. y ≡ m)
      → held xs qs hs js gs ≡ h
      → (at : IsAt o qs i)
      → OnOk r (z ≡ record at.item { messages = at.item.messages ++ record { place = k; content = m } ∷ [] })
      → IsSound (held xs qs hs js gs)
      → MatchResult res (λ _. held xs (slice_set qs i z) hs js gs ≡ record h { state = message_sent at.item.number k m h.state }) (λ e. e ≡ (m, NoMemory))
  pushed_answer (Ok u) res h xs qs hs js gs o i k m z is back v at ok s =
      subst (λ w. MatchResult w (λ _. held xs (slice_set qs i z) hs js gs ≡ record h { state = message_sent at.item.number k m h.state }) (λ e. e ≡ (m, NoMemory))) (sym is)
      (sent_state h xs qs hs js gs o i k m z v at ok s)
  pushed_answer (Err y) res h xs qs hs js gs o i k m z is back v at ok s =
      subst (λ w. MatchResult w (λ _. held xs (slice_set qs i z) hs js gs ≡ record h { state = message_sent at.item.number k m h.state }) (λ e. e ≡ (m, NoMemory))) (sym is)
      (ap (λ w. (w, NoMemory)) back)

  pub pushed_unchanged : {U : Type 0} (r : Result U M) (res : Result U (M × QueueFault)) (h : Held M) (xs : List (Chars × ℕ)) (qs : List (Queue M)) (hs : List (Thread M)) (js : List ℕ) (gs : List (ℕ × M)) (o : Option (Queue M)) (i : ℕ) (z : Queue M)
      → MatchResult r (λ u. res ≡ Ok u) (λ y. res ≡ Err (y, NoMemory))
      → held xs qs hs js gs ≡ h
      → (at : IsAt o qs i)
      → OnErr r (z ≡ at.item)
      → OnErr res (held xs (slice_set qs i z) hs js gs ≡ h)
  pushed_unchanged (Ok u) res h xs qs hs js gs o i z is v at err = subst (λ w. OnErr w (held xs (slice_set qs i z) hs js gs ≡ h)) (sym is) tt
  pushed_unchanged (Err y) res h xs qs hs js gs o i z is v at err =
      subst (λ w. OnErr w (held xs (slice_set qs i z) hs js gs ≡ h)) (sym is) (ap (λ l. held xs l hs js gs) (located_back qs o i z at err) ∙ v)

  -- What was there before is the queue that was found.
  pub was_pushed : {U : Type 0} (r : Result U M) (z q item : Queue M) (m : Message M)
      → q ≡ item
      → OnOk r (z ≡ record q { messages = q.messages ++ m ∷ [] })
      → OnOk r (z ≡ record item { messages = item.messages ++ m ∷ [] })
  was_pushed r z q item m e ok = subst (λ (y : Queue M). OnOk r (z ≡ record y { messages = y.messages ++ m ∷ [] })) e ok

  pub was_left : {U : Type 0} (r : Result U M) (z q item : Queue M) → q ≡ item → OnErr r (z ≡ q) → OnErr r (z ≡ item)
  was_left r z q item e err = subst (λ (y : Queue M). OnErr r (z ≡ y)) e err

  -- The queue of a thread that ends is taken out.
  pub removed_sound : (o : Option (Queue M)) (left : List M) (xs : List (Chars × ℕ)) (qs rs : List (Queue M)) (hs : List (Thread M)) (js : List ℕ) (gs : List (ℕ × M))
      → Removes o left qs rs
      → IsSound (held xs qs hs js gs)
      → IsSound (held xs rs hs js gs)
  removed_sound None left xs qs rs hs js gs r s = subst (λ l. IsSound (held xs l hs js gs)) (sym r.1) s
  removed_sound (Some q) left xs qs rs hs js gs r s = queue_gone_sound xs qs rs hs js gs (Some q) r.1.0 r.1.1 r.1.2 s

  some_message : (m p : Message M) → Some m ≡ Some p → m ≡ p
  some_message m p e = ap (λ o. elim o [ None ↦ m | Some y ↦ y ]) e

  number_found : (n : ℕ) (qs : List (Queue M)) (q : Queue M) → find (is_queue n) qs ≡ Some q → q.number ≡ n
  number_found n qs q e = key_is (λ (y : Queue M). y.number) n qs q e

  some_same : (q p : Queue M) → Some q ≡ Some p → q ≡ p
  some_same q p e = ap (λ o. elim o [ None ↦ q | Some y ↦ y ]) e

  pub removed_queues : (o : Option (Queue M)) (n : ℕ) (left : List M) (qs rs : List (Queue M))
      → find (is_queue n) qs ≡ o
      → Removes o left qs rs
      → Distinct (map (λ (q : Queue M). q.number) qs)
      → rs ≡ filter (λ (q : Queue M). not (is_queue n q)) qs
  removed_queues None n left qs rs e r d = r.1 ∙ sym (none_out (is_queue n) qs e)
  removed_queues (Some q) n left qs rs e r d =
      r.1.2
      ∙ item_out (λ (y : Queue M). y.number) (Some q) qs r.1.0 r.1.1 d
      ∙ ap (λ k. filter (λ (y : Queue M). not (y.number == k)) qs)
      (sym (ap (λ (y : Queue M). y.number) (some_same q r.1.1.item r.1.1.found_is)) ∙ number_found n qs q e)

  pub removed_left : (o : Option (Queue M)) (left : List M) (qs rs : List (Queue M))
      → Removes o left qs rs
      → left ≡ elim o [ None ↦ [] | Some q ↦ contents q.messages ]
  removed_left None left qs rs r = r.0
  removed_left (Some q) left qs rs r = r.0

  -- A thread that ends, or is joined.
  pub end_over : (t : Threads M) (n : ℕ) (h : Thread M) → thread_numbered t n ≡ Some h → is_some h.status ≡ true → end_refusal t n ≡ Some NoThread
  end_over t n h e over =
      ap (λ o. elim o [ None ↦ Some NoThread | Some h ↦ if is_running h then None else Some NoThread ]) e
      ∙ ap (λ b. if not b then None else Some NoThread) over

  pub end_runs : (t : Threads M) (n : ℕ) (h : Thread M) → thread_numbered t n ≡ Some h → is_some h.status ≡ false → end_refusal t n ≡ None
  end_runs t n h e runs =
      ap (λ o. elim o [ None ↦ Some NoThread | Some h ↦ if is_running h then None else Some NoThread ]) e
      ∙ ap (λ b. if not b then None else Some NoThread) runs

  pub join_found : (t : Threads M) (x : Name) (h : Thread M) → thread_named t x ≡ Some h → join_refusal t x ≡ None
  join_found t x h e = ap (λ o. elim o [ None ↦ Some (join_fault t x) | Some h ↦ None ]) e

  pub none_left : (n : ℕ) (s : Option (Status M)) (h : Held M) → is_none s ≡ true → (None ≡ s) × (h ≡ left_by_join n s h)
  none_left n None h e = (refl, refl)
  none_left n (Some s) h e = absurd (cc)

  pub some_left : (n : ℕ) (s : Option (Status M)) (h new : Held M) → is_none s ≡ false → new ≡ record h { state = thread_joined n h.state } → new ≡ left_by_join n s h
  some_left n None h new e is = absurd (cc)
  some_left n (Some s) h new e is = is

  -- A message is taken, or none was found, or there was no memory.
  took_by_sound : (f o : Option (Message M)) (xs : List (Chars × ℕ)) (qs : List (Queue M)) (hs : List (Thread M)) (js : List ℕ) (gs : List (ℕ × M)) (p : Option (Queue M)) (i : ℕ) (z : Queue M)
      → (at : IsAt p qs i)
      → TakesFirst f o at.item z
      → IsSound (held xs qs hs js gs)
      → IsSound (held xs (slice_set qs i z) hs js gs)
  took_by_sound None o xs qs hs js gs p i z at t s = subst (λ l. IsSound (held xs l hs js gs)) (sym (located_back qs p i z at t.1)) s
  took_by_sound (Some m) o xs qs hs js gs p i z at t s = taken_sound xs qs hs js gs p i z at (Some m) t.1.0 t.1.1 t.1.2 s

  pub took_sound : (r : Result (Option (Message M)) Memory) (u : M → Bool) (xs : List (Chars × ℕ)) (qs : List (Queue M)) (hs : List (Thread M)) (js : List ℕ) (gs : List (ℕ × M)) (p : Option (Queue M)) (i : ℕ) (z q : Queue M)
      → (at : IsAt p qs i)
      → q ≡ at.item
      → IfOk r (λ o. TakesFirst (first_message u q) o q z)
      → OnErr r (z ≡ q)
      → IsSound (held xs qs hs js gs)
      → IsSound (held xs (slice_set qs i z) hs js gs)
  took_sound (Ok o) u xs qs hs js gs p i z q at old ok err s =
      took_by_sound (first_message u at.item) o xs qs hs js gs p i z at (subst (λ (y : Queue M). TakesFirst (first_message u y) o y z) old ok) s
  took_sound (Err e) u xs qs hs js gs p i z q at old ok err s =
      subst (λ l. IsSound (held xs l hs js gs)) (sym (located_back qs p i z at (err ∙ old))) s

  took_by : (f o : Option (Message M)) (h : Held M) (xs : List (Chars × ℕ)) (qs : List (Queue M)) (hs : List (Thread M)) (js : List ℕ) (gs : List (ℕ × M)) (p : Option (Queue M)) (i : ℕ) (z : Queue M)
      → held xs qs hs js gs ≡ h
      → (at : IsAt p qs i)
      → TakesFirst f o at.item z
      → IsSound (held xs qs hs js gs)
      → Takes f (option_map named_message o) h (held xs (slice_set qs i z) hs js gs)
  took_by None o h xs qs hs js gs p i z v at t s = (ap (option_map named_message) t.0, ap (λ l. held xs l hs js gs) (located_back qs p i z at t.1) ∙ v)
  took_by (Some m) o h xs qs hs js gs p i z v at t s = (
    ap (option_map named_message) t.0,
    taken_state h xs qs hs js gs p i z v at (Some m) t.1.0 t.1.1 t.1.2 s
        ∙ ap (λ k. record h { state = message_taken k h.state }) (ap (λ (x : Message M). x.place) (sym (some_message m t.1.1.item t.1.1.found_is))),
  )

  pub took_answer : (r : Result (Option (Message M)) Memory) (res : Result (Option (ℕ × M)) QueueFault) (u : M → Bool) (h : Held M) (xs : List (Chars × ℕ)) (qs : List (Queue M)) (hs : List (Thread M)) (js : List ℕ) (gs : List (ℕ × M)) (p : Option (Queue M)) (i : ℕ) (z q : Queue M)
      → MatchResult r (λ o. res ≡ Ok (option_map named_message o)) (λ _. res ≡ Err NoMemory)
      → held xs qs hs js gs ≡ h
      → (at : IsAt p qs i)
      → q ≡ at.item
      → IfOk r (λ o. TakesFirst (first_message u q) o q z)
      → IsSound (held xs qs hs js gs)
      → MatchResult res (λ a. Takes (first_message u at.item) a h (held xs (slice_set qs i z) hs js gs)) (λ f. f ≡ NoMemory)
  took_answer (Ok o) res u h xs qs hs js gs p i z q is v at old ok s =
      subst (λ w. MatchResult w (λ a. Takes (first_message u at.item) a h (held xs (slice_set qs i z) hs js gs)) (λ f. f ≡ NoMemory)) (sym is)
      (took_by (first_message u at.item) o h xs qs hs js gs p i z v at (subst (λ (y : Queue M). TakesFirst (first_message u y) o y z) old ok) s)
  took_answer (Err e) res u h xs qs hs js gs p i z q is v at old ok s =
      subst (λ w. MatchResult w (λ a. Takes (first_message u at.item) a h (held xs (slice_set qs i z) hs js gs)) (λ f. f ≡ NoMemory)) (sym is) refl

  pub took_unchanged : (r : Result (Option (Message M)) Memory) (res : Result (Option (ℕ × M)) QueueFault) (h : Held M) (xs : List (Chars × ℕ)) (qs : List (Queue M)) (hs : List (Thread M)) (js : List ℕ) (gs : List (ℕ × M)) (p : Option (Queue M)) (i : ℕ) (z q : Queue M)
      → MatchResult r (λ o. res ≡ Ok (option_map named_message o)) (λ _. res ≡ Err NoMemory)
      → held xs qs hs js gs ≡ h
      → (at : IsAt p qs i)
      → q ≡ at.item
      → OnErr r (z ≡ q)
      → OnErr res (held xs (slice_set qs i z) hs js gs ≡ h)
  took_unchanged (Ok o) res h xs qs hs js gs p i z q is v at old err = subst (λ w. OnErr w (held xs (slice_set qs i z) hs js gs ≡ h)) (sym is) tt
  took_unchanged (Err e) res h xs qs hs js gs p i z q is v at old err =
      subst (λ w. OnErr w (held xs (slice_set qs i z) hs js gs ≡ h)) (sym is) (ap (λ l. held xs l hs js gs) (located_back qs p i z at (err ∙ old)) ∙ v)
