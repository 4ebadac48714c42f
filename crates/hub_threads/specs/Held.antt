-- What is held of threads and queues: their state, and the goals of threads that were started and not yet handed out.
use Rattle.std.specs.Prelude.{◌≡◌, ℕ, List, [], ◌∷◌, ◌++◌, map, filter, find, remove, Option, Some, None, option_map, Bool, false, not, ◌==◌, bytes_eq}
use Rattle.pl_term.specs.Tree.{Chars}
use Rattle.pl_model.specs.declared.threads.Message.{Message}
use Rattle.pl_model.specs.declared.threads.Status.{Status}
use Rattle.pl_model.specs.declared.threads.Thread.{Thread}
use Rattle.pl_model.specs.Threads.{Queue, Threads, opening_threads, queue_numbered, message_taken, thread_started, thread_joined}
use Rattle.hub_threads.specs.Located.{IsAt}
use Rattle.hub_threads.specs.Distinct.{has_number, Distinct}

pub record Held (M : Type 0) : Type 0 where
  pub state : Threads M
  -- the goals with the numbers of their threads
  pub goals : List (ℕ × M)

-- It by its lists.
abbrev pub held : {M : Type 0} → List (Chars × ℕ) → List (Queue M) → List (Thread M) → List ℕ → List (ℕ × M) → Held M
held xs qs hs js gs = record { state = record { aliases = xs; queues = qs; threads = hs; joined = js }; goals = gs }

abbrev pub opening_held : {M : Type 0} → Held M
opening_held = record { state = opening_threads; goals = [] }

-- The numbers of all that is held, and the places of all messages.
abbrev pub queue_numbers : {M : Type 0} → List (Queue M) → List ℕ
queue_numbers qs = map (λ q. q.number) qs

abbrev pub thread_numbers : {M : Type 0} → List (Thread M) → List ℕ
thread_numbers hs = map (λ h. h.number) hs

abbrev pub alias_numbers : List (Chars × ℕ) → List ℕ
alias_numbers xs = map (λ (x : Chars × ℕ). x.1) xs

abbrev pub goal_numbers : {M : Type 0} → List (ℕ × M) → List ℕ
goal_numbers gs = map (λ g. g.0) gs

abbrev pub message_places : {M : Type 0} → List (Message M) → List ℕ
message_places ms = map (λ m. m.place) ms

abbrev pub places : {M : Type 0} → List (Queue M) → List ℕ
places [] = []
places (q ∷ qs) = message_places q.messages ++ places qs

-- What is always so: a number is one queue's, one thread's, one alias's, one goal's, and a place one message's.
pub record IsSound {M : Type 0} (h : Held M) : Type 0 where
  pub queues_once : Distinct (queue_numbers h.state.queues)
  pub threads_once : Distinct (thread_numbers h.state.threads)
  pub aliases_once : Distinct (alias_numbers h.state.aliases)
  pub goals_once : Distinct (goal_numbers h.goals)
  pub places_once : Distinct (places h.state.queues)

-- No thread and no queue that is held has the number.
pub record IsNew {M : Type 0} (n : ℕ) (h : Held M) : Type 0 where
  pub no_queue : has_number n (queue_numbers h.state.queues) ≡ false
  pub no_thread : has_number n (thread_numbers h.state.threads) ≡ false
  pub no_alias : has_number n (alias_numbers h.state.aliases) ≡ false
  pub no_goal : has_number n (goal_numbers h.goals) ≡ false

-- No message that is held was sent at the place.
abbrev pub IsNewPlace : {M : Type 0} → ℕ → Held M → Type 0
IsNewPlace k h = has_number k (places h.state.queues) ≡ false

abbrev pub is_sent_at : {M : Type 0} → ℕ → Message M → Bool
is_sent_at k m = m.place == k

abbrev pub contents : {M : Type 0} → List (Message M) → List M
contents ms = map (λ m. m.content) ms

-- A message with the place that names it.
abbrev pub named_message : {M : Type 0} → Message M → ℕ × M
named_message m = (m.place, m.content)

-- The goal of the thread, and the goals without it.
abbrev pub is_goal_of : {M : Type 0} → ℕ → ℕ × M → Bool
is_goal_of n g = g.0 == n

abbrev pub goal_of : {M : Type 0} → ℕ → Held M → Option M
goal_of n h = option_map (λ g. g.1) (find (is_goal_of n) h.goals)

abbrev pub without_goal : {M : Type 0} → ℕ → Held M → Held M
without_goal n h = record h { goals = filter (λ g. not (is_goal_of n g)) h.goals }

-- The aliases with one more, where there is one.
abbrev pub with_name : ℕ → Option Chars → List (Chars × ℕ) → List (Chars × ℕ)
with_name n None xs = xs
with_name n (Some a) xs = xs ++ (a, n) ∷ []

-- The aliases without those of the number.
abbrev pub is_named : ℕ → Chars × ℕ → Bool
is_named n x = x.1 == n

abbrev pub without_names : ℕ → List (Chars × ℕ) → List (Chars × ℕ)
without_names n xs = filter (λ x. not (is_named n x)) xs

-- What taking the message that was found answers and leaves.
abbrev pub Takes : {M : Type 0} → Option (Message M) → Option (ℕ × M) → Held M → Held M → Type 0
Takes None r old new = (r ≡ None) × (new ≡ old)
Takes (Some m) r old new = (r ≡ Some (named_message m)) × (new ≡ record old { state = message_taken m.place old.state })

-- What is left after a join of the thread with the number, which ended so if it did.
abbrev pub left_by_join : {M : Type 0} → ℕ → Option (Status M) → Held M → Held M
left_by_join n None h = h
left_by_join n (Some s) h = record h { state = thread_joined n h.state }

-- The messages in the queue of the thread with the number.
abbrev pub own_contents : {M : Type 0} → ℕ → Threads M → List M
own_contents n t = elim (queue_numbered t n) [ None ↦ [] | Some q ↦ contents q.messages ]

-- The first of these messages that passes the test.
abbrev pub first_of : {M : Type 0} → (M → Bool) → List (Message M) → Option (Message M)
first_of test ms = find (λ m. test m.content) ms

abbrev pub is_spelled : Chars → Chars × ℕ → Bool
is_spelled a x = bytes_eq x.0 a

-- The thread has begun, and its goal is kept.
abbrev pub started : {M : Type 0} → ℕ → M → Option Chars → Held M → Held M
started n goal a h = record { state = thread_started n a h.state; goals = h.goals ++ (n, goal) ∷ [] }

-- What taking the queue that was found out answers and leaves: at one index, it is taken out.
abbrev pub Removes : {M : Type 0} → Option (Queue M) → List M → List (Queue M) → List (Queue M) → Type 0
Removes None left old new = (left ≡ []) × (new ≡ old)
Removes (Some q) left old new = (left ≡ contents q.messages) × ((i : ℕ) × IsAt (Some q) old i × (new ≡ remove old i))

-- What taking the message that was found out of its queue answers and leaves.
abbrev pub TakesFirst : {M : Type 0} → Option (Message M) → Option (Message M) → Queue M → Queue M → Type 0
TakesFirst None r old new = (r ≡ None) × (new ≡ old)
TakesFirst (Some m) r old new =
    (r ≡ Some m) × ((j : ℕ) × IsAt (Some m) old.messages j × (new ≡ record old { messages = remove old.messages j }))
