-- What each change makes of the lists that are held, and that they stay sound by it.
use Rattle.std.proofs.Common.{◌≡◌, ℕ, List, [], ◌∷◌, ◌++◌, map, filter, find, Option, Some, None, Bool, true, false, refl, ap, sym, subst, ◌∙◌}
use Rattle.std.specs.Prelude.{IfNone, ◌==◌, cond, not, remove, slice_set}
use Rattle.std.proofs.lemmas.List.{map-append, append-nil, append_assoc}
use Rattle.std.proofs.lemmas.List.Elements.{filter-append}
use Rattle.pl_term.specs.Tree.{Chars}
use Rattle.pl_model.specs.declared.threads.Message.{Message}
use Rattle.pl_model.specs.declared.threads.Status.{Status}
use Rattle.pl_model.specs.declared.threads.Thread.{Thread}
use Rattle.pl_model.specs.Threads.{Queue, Threads, with_alias, queue_made, queue_dropped, message_sent, message_taken, without_message, thread_ended, thread_joined, is_queue, is_thread}
use Rattle.hub_threads.specs.Distinct.{has_number, Distinct}
use Rattle.hub_threads.specs.Held.{Held, held, IsSound, IsNew, queue_numbers, thread_numbers, alias_numbers, goal_numbers, message_places, places, with_name, without_names, is_named, started, without_goal, is_goal_of}
use Rattle.hub_threads.specs.Located.{IsAt}
use Rattle.hub_threads.proofs.Numbers.{has_front, has_back, distinct_before, distinct_behind, distinct_without, distinct_with, distinct_last, distinct_part, or_left, or_right, or_both, all_kept, eq_same}
use Rattle.hub_threads.proofs.Located.{located_removed, located_set, item_out, item_changed, item_distinct, item_same, located_out, located_changed}

-- Clauses on what may be there

pub if_none : {X : Type 0} {P : Type 0} (o : Option X) → P → IfNone o P
if_none None p = p
if_none (Some x) p = tt

-- Lists

pub places_append : {M : Type 0} (xs ys : List (Queue M)) → places (xs ++ ys) ≡ places xs ++ places ys
places_append [] ys = refl
places_append (q ∷ xs) ys =
    ap (λ l. message_places q.messages ++ l) (places_append xs ys) ∙ sym (append_assoc (message_places q.messages) (places xs) (places ys))

lacks_by : {X : Type 0} (key : X → ℕ) (b : Bool) (n : ℕ) (x : X) (xs : List X)
    → (key x == n) ≡ false
    → has_number n (map key xs) ≡ false
    → has_number n (map key (cond b (x ∷ xs) xs)) ≡ false
lacks_by key true n x xs p q = or_both (key x == n) (has_number n (map key xs)) p q
lacks_by key false n x xs p q = q

pub filter_lacks : {X : Type 0} (key : X → ℕ) (test : X → Bool) (n : ℕ) (xs : List X)
    → has_number n (map key xs) ≡ false
    → has_number n (map key (filter test xs)) ≡ false
filter_lacks key test n [] e = refl
filter_lacks key test n (x ∷ xs) e =
    lacks_by key (test x) n x (filter test xs) (or_left (key x == n) (has_number n (map key xs)) e)
    (filter_lacks key test n xs (or_right (key x == n) (has_number n (map key xs)) e))

once_by : {X : Type 0} (key : X → ℕ) (b : Bool) (x : X) (xs : List X)
    → has_number (key x) (map key xs) ≡ false
    → Distinct (map key xs)
    → Distinct (map key (cond b (x ∷ xs) xs))
once_by key true x xs p d = (p, d)
once_by key false x xs p d = d

pub filter_once : {X : Type 0} (key : X → ℕ) (test : X → Bool) (xs : List X)
    → Distinct (map key xs)
    → Distinct (map key (filter test xs))
filter_once key test [] d = d
filter_once key test (x ∷ xs) d = once_by key (test x) x (filter test xs) (filter_lacks key test (key x) xs d.0) (filter_once key test xs d.1)

last_once : {X : Type 0} (key : X → ℕ) (n : ℕ) (xs : List X) (x : X)
    → key x ≡ n
    → Distinct (map key xs)
    → has_number n (map key xs) ≡ false
    → Distinct (map key (xs ++ x ∷ []))
last_once key n xs x is d e =
    subst Distinct (sym (map-append key xs (x ∷ []) ∙ ap (λ k. map key xs ++ k ∷ []) is)) (distinct_last n (map key xs) d e)

named_once : (n : ℕ) (a : Option Chars) (xs : List (Chars × ℕ))
    → Distinct (alias_numbers xs)
    → has_number n (alias_numbers xs) ≡ false
    → Distinct (alias_numbers (with_name n a xs))
named_once n None xs d e = d
named_once n (Some a) xs d e = last_once (λ x. x.1) n xs (a, n) refl d e

names_same : {M : Type 0} (n : ℕ) (a : Option Chars) (t : Threads M) → with_name n a t.aliases ≡ with_alias n a t
names_same n None t = refl
names_same n (Some a) t = refl

module _ {M : Type 0} where
  abbrev empty_queue : ℕ → Bool → Queue M
  empty_queue n own = record { number = n; is_own = own; messages = [] }

  -- A queue is made.
  pub made_sound : (xs ys : List (Chars × ℕ)) (qs rs : List (Queue M)) (hs : List (Thread M)) (js : List ℕ) (gs : List (ℕ × M)) (n : ℕ) (a : Option Chars) (own : Bool)
      → IsSound (held xs qs hs js gs)
      → IsNew n (held xs qs hs js gs)
      → ys ≡ with_name n a xs
      → rs ≡ qs ++ empty_queue n own ∷ []
      → IsSound (held ys rs hs js gs)
  made_sound xs ys qs rs hs js gs n a own s new named made =
      record {
        queues_once = subst (λ l. Distinct (queue_numbers l)) (sym made) (last_once (λ (q : Queue M). q.number) n qs (empty_queue n own) refl s.queues_once new.no_queue);
        threads_once = s.threads_once;
        aliases_once = subst (λ l. Distinct (alias_numbers l)) (sym named) (named_once n a xs s.aliases_once new.no_alias);
        goals_once = s.goals_once;
        places_once = subst (λ l. Distinct (places l)) (sym made) (subst Distinct (sym (places_append qs (empty_queue n own ∷ []) ∙ append-nil (places qs))) s.places_once);
      }

  pub made_state : (h : Held M) (xs ys : List (Chars × ℕ)) (qs rs : List (Queue M)) (hs : List (Thread M)) (js : List ℕ) (gs : List (ℕ × M)) (n : ℕ) (a : Option Chars)
      → held xs qs hs js gs ≡ h
      → ys ≡ with_name n a xs
      → rs ≡ qs ++ empty_queue n false ∷ []
      → held ys rs hs js gs ≡ record h { state = queue_made n a h.state }
  made_state h xs ys qs rs hs js gs n a is named made =
      ap (λ l. held l rs hs js gs) (named ∙ names_same n a (held xs qs hs js gs).state)
      ∙ ap (λ l. held (with_alias n a (held xs qs hs js gs).state) l hs js gs) made
      ∙ ap (λ (k : Held M). record k { state = queue_made n a k.state }) is

  -- A thread begins.
  pub started_sound : (xs ys : List (Chars × ℕ)) (qs rs : List (Queue M)) (hs ks : List (Thread M)) (js : List ℕ) (gs ms : List (ℕ × M)) (n : ℕ) (a : Option Chars) (goal : M)
      → IsSound (held xs qs hs js gs)
      → IsNew n (held xs qs hs js gs)
      → ys ≡ with_name n a xs
      → rs ≡ qs ++ empty_queue n true ∷ []
      → ks ≡ hs ++ record { number = n; status = None } ∷ []
      → ms ≡ gs ++ (n, goal) ∷ []
      → IsSound (held ys rs ks js ms)
  started_sound xs ys qs rs hs ks js gs ms n a goal s new named made begun kept =
      let made_so = made_sound xs ys qs rs hs js gs n a true s new named made
      in record {
        queues_once = made_so.queues_once;
        threads_once = subst (λ l. Distinct (thread_numbers l)) (sym begun) (last_once (λ (t : Thread M). t.number) n hs _ refl s.threads_once new.no_thread);
        aliases_once = made_so.aliases_once;
        goals_once = subst (λ l. Distinct (goal_numbers l)) (sym kept) (last_once (λ (g : ℕ × M). g.0) n gs (n, goal) refl s.goals_once new.no_goal);
        places_once = made_so.places_once;
      }

  pub started_state : (h : Held M) (xs ys : List (Chars × ℕ)) (qs rs : List (Queue M)) (hs ks : List (Thread M)) (js : List ℕ) (gs ms : List (ℕ × M)) (n : ℕ) (a : Option Chars) (goal : M)
      → held xs qs hs js gs ≡ h
      → ys ≡ with_name n a xs
      → rs ≡ qs ++ empty_queue n true ∷ []
      → ks ≡ hs ++ record { number = n; status = None } ∷ []
      → ms ≡ gs ++ (n, goal) ∷ []
      → held ys rs ks js ms ≡ started n goal a h
  started_state h xs ys qs rs hs ks js gs ms n a goal is named made begun kept =
      ap (λ l. held l rs ks js ms) (named ∙ names_same n a (held xs qs hs js gs).state)
      ∙ ap (λ l. held (with_alias n a (held xs qs hs js gs).state) l ks js ms) made
      ∙ ap (λ l. held (with_alias n a (held xs qs hs js gs).state) (qs ++ empty_queue n true ∷ []) l js ms) begun
      ∙ ap (λ l. held (with_alias n a (held xs qs hs js gs).state) (qs ++ empty_queue n true ∷ []) (hs ++ record { number = n; status = None } ∷ []) js l) kept
      ∙ ap (started n goal a) is

  -- A message is sent.
  places_at : (qs : List (Queue M)) (before after : List (Queue M)) (q : Queue M)
      → qs ≡ before ++ q ∷ after
      → places qs ≡ (places before ++ message_places q.messages) ++ places after
  places_at qs before after q whole =
      ap places whole ∙ places_append before (q ∷ after) ∙ sym (append_assoc (places before) (message_places q.messages) (places after))

  pub sent_sound : (xs : List (Chars × ℕ)) (qs : List (Queue M)) (hs : List (Thread M)) (js : List ℕ) (gs : List (ℕ × M)) (o : Option (Queue M)) (i k : ℕ) (m : M) (z : Queue M)
      → (at : IsAt o qs i)
      → z ≡ record at.item { messages = at.item.messages ++ record { place = k; content = m } ∷ [] }
      → has_number k (places qs) ≡ false
      → IsSound (held xs qs hs js gs)
      → IsSound (held xs (slice_set qs i z) hs js gs)
  sent_sound xs qs hs js gs o i k m z at is new s =
      record {
        queues_once = subst Distinct (sym (item_same (λ (q : Queue M). q.number) z o qs i at (ap (λ (q : Queue M). q.number) is))) s.queues_once;
        threads_once = s.threads_once;
        aliases_once = s.aliases_once;
        goals_once = s.goals_once;
        places_once =
            let front : List ℕ = places at.before ++ message_places at.item.messages
            in let old = places_at qs at.before at.after at.item at.whole
            in subst Distinct (sym (
            places_at (slice_set qs i z) at.before at.after z (located_set o qs i z at)
            ∙ ap (λ (q : Queue M). (places at.before ++ message_places q.messages) ++ places at.after) is
            ∙ ap (λ l. (places at.before ++ l) ++ places at.after) (map-append (λ (x : Message M). x.place) at.item.messages (record { place = k; content = m } ∷ []))
            ∙ ap (λ l. l ++ places at.after) (sym (append_assoc (places at.before) (message_places at.item.messages) (k ∷ [])))
            ∙ append_assoc front (k ∷ []) (places at.after)))
            (distinct_with k front (places at.after) (subst Distinct old s.places_once) (subst (λ l. has_number k l ≡ false) old new));
      }

  pub sent_state : (h : Held M) (xs : List (Chars × ℕ)) (qs : List (Queue M)) (hs : List (Thread M)) (js : List ℕ) (gs : List (ℕ × M)) (o : Option (Queue M)) (i k : ℕ) (m : M) (z : Queue M)
      → held xs qs hs js gs ≡ h
      → (at : IsAt o qs i)
      → z ≡ record at.item { messages = at.item.messages ++ record { place = k; content = m } ∷ [] }
      → IsSound (held xs qs hs js gs)
      → held xs (slice_set qs i z) hs js gs ≡ record h { state = message_sent at.item.number k m h.state }
  sent_state h xs qs hs js gs o i k m z is at new s =
      ap (λ l. held xs l hs js gs)
      (item_changed (λ (q : Queue M). q.number) (λ (q : Queue M). record q { messages = q.messages ++ record { place = k; content = m } ∷ [] }) z o qs i at new s.queues_once)
      ∙ ap (λ (y : Held M). record y { state = message_sent at.item.number k m y.state }) is

  -- A message is taken.
  others_kept : (k : ℕ) (qs : List (Queue M)) → has_number k (places qs) ≡ false → map (without_message k) qs ≡ qs
  others_kept k [] e = refl
  others_kept k (q ∷ qs) e =
      ap (λ l. record q { messages = l } ∷ map (without_message k) qs) (all_kept (λ (x : Message M). x.place) k q.messages (has_front k (message_places q.messages) (places qs) e))
      ∙ ap (λ l. q ∷ l) (others_kept k qs (has_back k (message_places q.messages) (places qs) e))

  filter_drops : (k : ℕ) (m : Message M) (ms : List (Message M)) → m.place ≡ k
      → filter (λ (x : Message M). not (x.place == k)) (m ∷ ms) ≡ filter (λ (x : Message M). not (x.place == k)) ms
  filter_drops k m ms is =
      ap (λ b. cond (not b) (m ∷ filter (λ (x : Message M). not (x.place == k)) ms) (filter (λ (x : Message M). not (x.place == k)) ms)) (ap (λ n. n == k) is ∙ eq_same k)

  taken_split : (qs : List (Queue M)) (o : Option (Queue M)) (i : ℕ) (at : IsAt o qs i) (p : Option (Message M)) (j : ℕ) (in_ : IsAt p at.item.messages j)
      → places qs ≡ (places at.before ++ message_places in_.before) ++ in_.item.place ∷ (message_places in_.after ++ places at.after)
  taken_split qs o i at p j in_ =
      places_at qs at.before at.after at.item at.whole
      ∙ ap (λ ms. (places at.before ++ message_places ms) ++ places at.after) in_.whole
      ∙ ap (λ l. (places at.before ++ l) ++ places at.after) (map-append (λ (x : Message M). x.place) in_.before (in_.item ∷ in_.after))
      ∙ ap (λ l. l ++ places at.after) (sym (append_assoc (places at.before) (message_places in_.before) (in_.item.place ∷ message_places in_.after)))
      ∙ append_assoc (places at.before ++ message_places in_.before) (in_.item.place ∷ message_places in_.after) (places at.after)

  taken_rest : (qs : List (Queue M)) (o : Option (Queue M)) (i : ℕ) (z : Queue M) (at : IsAt o qs i) (p : Option (Message M)) (j : ℕ) (in_ : IsAt p at.item.messages j)
      → z ≡ record at.item { messages = remove at.item.messages j }
      → places (slice_set qs i z) ≡ (places at.before ++ message_places in_.before) ++ (message_places in_.after ++ places at.after)
  taken_rest qs o i z at p j in_ is =
      places_at (slice_set qs i z) at.before at.after z (located_set o qs i z at)
      ∙ ap (λ (q : Queue M). (places at.before ++ message_places q.messages) ++ places at.after) is
      ∙ ap (λ ms. (places at.before ++ message_places ms) ++ places at.after) (located_removed p at.item.messages j in_)
      ∙ ap (λ l. (places at.before ++ l) ++ places at.after) (map-append (λ (x : Message M). x.place) in_.before in_.after)
      ∙ ap (λ l. l ++ places at.after) (sym (append_assoc (places at.before) (message_places in_.before) (message_places in_.after)))
      ∙ append_assoc (places at.before ++ message_places in_.before) (message_places in_.after) (places at.after)

  pub taken_sound : (xs : List (Chars × ℕ)) (qs : List (Queue M)) (hs : List (Thread M)) (js : List ℕ) (gs : List (ℕ × M)) (o : Option (Queue M)) (i : ℕ) (z : Queue M)
      → (at : IsAt o qs i)
      → (p : Option (Message M)) (j : ℕ) (in_ : IsAt p at.item.messages j)
      → z ≡ record at.item { messages = remove at.item.messages j }
      → IsSound (held xs qs hs js gs)
      → IsSound (held xs (slice_set qs i z) hs js gs)
  taken_sound xs qs hs js gs o i z at p j in_ is s =
      record {
        queues_once = subst Distinct (sym (item_same (λ (q : Queue M). q.number) z o qs i at (ap (λ (q : Queue M). q.number) is))) s.queues_once;
        threads_once = s.threads_once;
        aliases_once = s.aliases_once;
        goals_once = s.goals_once;
        places_once =
            subst Distinct (sym (taken_rest qs o i z at p j in_ is))
            (distinct_without in_.item.place (places at.before ++ message_places in_.before) (message_places in_.after ++ places at.after)
            (subst Distinct (taken_split qs o i at p j in_) s.places_once));
      }

  pub taken_state : (h : Held M) (xs : List (Chars × ℕ)) (qs : List (Queue M)) (hs : List (Thread M)) (js : List ℕ) (gs : List (ℕ × M)) (o : Option (Queue M)) (i : ℕ) (z : Queue M)
      → held xs qs hs js gs ≡ h
      → (at : IsAt o qs i)
      → (p : Option (Message M)) (j : ℕ) (in_ : IsAt p at.item.messages j)
      → z ≡ record at.item { messages = remove at.item.messages j }
      → IsSound (held xs qs hs js gs)
      → held xs (slice_set qs i z) hs js gs ≡ record h { state = message_taken in_.item.place h.state }
  taken_state h xs qs hs js gs o i z is at p j in_ new s =
      let k = in_.item.place
      in let once = subst Distinct (taken_split qs o i at p j in_) s.places_once
      in let in_front = distinct_before k (places at.before ++ message_places in_.before) (message_places in_.after ++ places at.after) once
      in let in_back = distinct_behind k (places at.before ++ message_places in_.before) (message_places in_.after ++ places at.after) once
      in let kept_queue =
      ap (λ ms. filter (λ (x : Message M). not (x.place == k)) ms) in_.whole
      ∙ filter-append (λ (x : Message M). not (x.place == k)) in_.before (in_.item ∷ in_.after)
      ∙ ap (λ l. filter (λ (x : Message M). not (x.place == k)) in_.before ++ l) (filter_drops k in_.item in_.after refl)
      ∙ ap (λ l. l ++ filter (λ (x : Message M). not (x.place == k)) in_.after) (all_kept (λ (x : Message M). x.place) k in_.before (has_back k (places at.before) (message_places in_.before) in_front))
      ∙ ap (λ l. in_.before ++ l) (all_kept (λ (x : Message M). x.place) k in_.after (has_front k (message_places in_.after) (places at.after) in_back))
      ∙ sym (located_removed p at.item.messages j in_)
      in ap (λ l. held xs l hs js gs) (
      located_set o qs i z at
      ∙ ap (λ y. at.before ++ y ∷ at.after) (new ∙ ap (λ ms. record at.item { messages = ms }) (sym kept_queue))
      ∙ ap (λ l. l ++ without_message k at.item ∷ at.after) (sym (others_kept k at.before (has_front k (places at.before) (message_places in_.before) in_front)))
      ∙ ap (λ l. map (without_message k) at.before ++ without_message k at.item ∷ l) (sym (others_kept k at.after (has_back k (message_places in_.after) (places at.after) in_back)))
      ∙ sym (map-append (without_message k) at.before (at.item ∷ at.after))
      ∙ ap (map (without_message k)) (sym at.whole))
      ∙ ap (λ (y : Held M). record y { state = message_taken k y.state }) is

  -- A queue is dropped.
  pub dropped_sound : (xs ys : List (Chars × ℕ)) (qs rs : List (Queue M)) (hs : List (Thread M)) (js : List ℕ) (gs : List (ℕ × M)) (o : Option (Queue M)) (i n : ℕ)
      → IsAt o qs i
      → rs ≡ remove qs i
      → ys ≡ without_names n xs
      → IsSound (held xs qs hs js gs)
      → IsSound (held ys rs hs js gs)
  dropped_sound xs ys qs rs hs js gs o i n at out free s =
      record {
        queues_once = subst (λ l. Distinct (queue_numbers l)) (sym out) (item_distinct (λ (q : Queue M). q.number) o qs i at s.queues_once);
        threads_once = s.threads_once;
        aliases_once = subst (λ l. Distinct (alias_numbers l)) (sym free) (filter_once (λ (x : Chars × ℕ). x.1) (λ x. not (is_named n x)) xs s.aliases_once);
        goals_once = s.goals_once;
        places_once =
            subst (λ l. Distinct (places l)) (sym (out ∙ located_removed o qs i at))
            (subst Distinct (sym (places_append at.before at.after))
            (distinct_part (places at.before) (message_places at.item.messages) (places at.after)
            (subst Distinct (ap places at.whole ∙ places_append at.before (at.item ∷ at.after)) s.places_once)));
      }

  pub dropped_state : (h : Held M) (xs ys : List (Chars × ℕ)) (qs rs : List (Queue M)) (hs : List (Thread M)) (js : List ℕ) (gs : List (ℕ × M)) (o : Option (Queue M)) (i n : ℕ)
      → held xs qs hs js gs ≡ h
      → (at : IsAt o qs i)
      → rs ≡ remove qs i
      → n ≡ at.item.number
      → ys ≡ without_names n xs
      → IsSound (held xs qs hs js gs)
      → held ys rs hs js gs ≡ record h { state = queue_dropped at.item.number h.state }
  dropped_state h xs ys qs rs hs js gs o i n is at out number free s =
      ap (λ l. held l rs hs js gs) (free ∙ ap (λ k. without_names k xs) number)
      ∙ ap (λ l. held (without_names at.item.number xs) l hs js gs) (out ∙ item_out (λ (q : Queue M). q.number) o qs i at s.queues_once)
      ∙ ap (λ (y : Held M). record y { state = queue_dropped at.item.number y.state }) is

  -- A thread ends.
  pub ended_sound : (xs : List (Chars × ℕ)) (qs : List (Queue M)) (hs : List (Thread M)) (js : List ℕ) (gs : List (ℕ × M)) (o : Option (Thread M)) (i : ℕ) (z : Thread M)
      → (at : IsAt o hs i)
      → z.number ≡ at.item.number
      → IsSound (held xs qs hs js gs)
      → IsSound (held xs qs (slice_set hs i z) js gs)
  ended_sound xs qs hs js gs o i z at same s =
      record {
        queues_once = s.queues_once;
        threads_once = subst Distinct (sym (item_same (λ (t : Thread M). t.number) z o hs i at same)) s.threads_once;
        aliases_once = s.aliases_once;
        goals_once = s.goals_once;
        places_once = s.places_once;
      }

  pub queue_gone_sound : (xs : List (Chars × ℕ)) (qs rs : List (Queue M)) (hs : List (Thread M)) (js : List ℕ) (gs : List (ℕ × M)) (o : Option (Queue M)) (i : ℕ)
      → IsAt o qs i
      → rs ≡ remove qs i
      → IsSound (held xs qs hs js gs)
      → IsSound (held xs rs hs js gs)
  queue_gone_sound xs qs rs hs js gs o i at out s =
      record {
        queues_once = subst (λ l. Distinct (queue_numbers l)) (sym out) (item_distinct (λ (q : Queue M). q.number) o qs i at s.queues_once);
        threads_once = s.threads_once;
        aliases_once = s.aliases_once;
        goals_once = s.goals_once;
        places_once =
            subst (λ l. Distinct (places l)) (sym (out ∙ located_removed o qs i at))
            (subst Distinct (sym (places_append at.before at.after))
            (distinct_part (places at.before) (message_places at.item.messages) (places at.after)
            (subst Distinct (ap places at.whole ∙ places_append at.before (at.item ∷ at.after)) s.places_once)));
      }

  pub ended_state : (h : Held M) (xs : List (Chars × ℕ)) (qs rs : List (Queue M)) (hs : List (Thread M)) (js : List ℕ) (gs : List (ℕ × M)) (i n : ℕ) (how : Status M) (z : Thread M)
      → held xs qs hs js gs ≡ h
      → (at : IsAt (find (is_thread n) hs) hs i)
      → z ≡ record at.item { status = Some how }
      → rs ≡ filter (λ (q : Queue M). not (is_queue n q)) qs
      → IsSound (held xs qs hs js gs)
      → held xs rs (slice_set hs i z) js gs ≡ record h { state = thread_ended n how h.state }
  ended_state h xs qs rs hs js gs i n how z is at new gone s =
      ap (λ l. held xs l (slice_set hs i z) js gs) gone
      ∙ ap (λ l. held xs (filter (λ (q : Queue M). not (is_queue n q)) qs) l js gs)
      (located_changed (λ (t : Thread M). t.number) n (λ (t : Thread M). record t { status = Some how }) z hs i at new s.threads_once)
      ∙ ap (λ (y : Held M). record y { state = thread_ended n how y.state }) is

  -- A thread is joined.
  pub joined_sound : (xs ys : List (Chars × ℕ)) (qs : List (Queue M)) (hs ks : List (Thread M)) (js ls : List ℕ) (gs : List (ℕ × M)) (o : Option (Thread M)) (i n : ℕ)
      → IsAt o hs i
      → ks ≡ remove hs i
      → ys ≡ without_names n xs
      → IsSound (held xs qs hs js gs)
      → IsSound (held ys qs ks ls gs)
  joined_sound xs ys qs hs ks js ls gs o i n at out free s =
      record {
        queues_once = s.queues_once;
        threads_once = subst (λ l. Distinct (thread_numbers l)) (sym out) (item_distinct (λ (t : Thread M). t.number) o hs i at s.threads_once);
        aliases_once = subst (λ l. Distinct (alias_numbers l)) (sym free) (filter_once (λ (x : Chars × ℕ). x.1) (λ x. not (is_named n x)) xs s.aliases_once);
        goals_once = s.goals_once;
        places_once = s.places_once;
      }

  pub joined_state : (h : Held M) (xs ys : List (Chars × ℕ)) (qs : List (Queue M)) (hs ks : List (Thread M)) (js ls : List ℕ) (gs : List (ℕ × M)) (o : Option (Thread M)) (i n : ℕ)
      → held xs qs hs js gs ≡ h
      → (at : IsAt o hs i)
      → ks ≡ remove hs i
      → n ≡ at.item.number
      → ys ≡ without_names n xs
      → ls ≡ js ++ n ∷ []
      → IsSound (held xs qs hs js gs)
      → held ys qs ks ls gs ≡ record h { state = thread_joined at.item.number h.state }
  joined_state h xs ys qs hs ks js ls gs o i n is at out number free more s =
      ap (λ l. held l qs ks ls gs) (free ∙ ap (λ k. without_names k xs) number)
      ∙ ap (λ l. held (without_names at.item.number xs) qs l ls gs) (out ∙ item_out (λ (t : Thread M). t.number) o hs i at s.threads_once)
      ∙ ap (λ l. held (without_names at.item.number xs) qs (filter (λ (t : Thread M). not (t.number == at.item.number)) hs) l gs) (more ∙ ap (λ k. js ++ k ∷ []) number)
      ∙ ap (λ (y : Held M). record y { state = thread_joined at.item.number y.state }) is

  -- A goal is handed out.
  pub goal_sound : (xs : List (Chars × ℕ)) (qs : List (Queue M)) (hs : List (Thread M)) (js : List ℕ) (gs ms : List (ℕ × M)) (o : Option (ℕ × M)) (i : ℕ)
      → IsAt o gs i
      → ms ≡ remove gs i
      → IsSound (held xs qs hs js gs)
      → IsSound (held xs qs hs js ms)
  goal_sound xs qs hs js gs ms o i at out s =
      record {
        queues_once = s.queues_once;
        threads_once = s.threads_once;
        aliases_once = s.aliases_once;
        goals_once = subst (λ l. Distinct (goal_numbers l)) (sym out) (item_distinct (λ (g : ℕ × M). g.0) o gs i at s.goals_once);
        places_once = s.places_once;
      }

  pub goal_state : (h : Held M) (xs : List (Chars × ℕ)) (qs : List (Queue M)) (hs : List (Thread M)) (js : List ℕ) (gs ms : List (ℕ × M)) (i n : ℕ)
      → held xs qs hs js gs ≡ h
      → IsAt (find (is_goal_of n) gs) gs i
      → ms ≡ remove gs i
      → IsSound (held xs qs hs js gs)
      → held xs qs hs js ms ≡ without_goal n h
  goal_state h xs qs hs js gs ms i n is at out s =
      ap (λ l. held xs qs hs js l) (out ∙ located_out (λ (g : ℕ × M). g.0) n gs i at s.goals_once) ∙ ap (without_goal n) is
