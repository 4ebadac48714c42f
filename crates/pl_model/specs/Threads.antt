-- Threads and their message queues (SWI-Prolog manual, section 'Multithreaded applications': 'Creating and destroying
-- Prolog threads', 'Thread communication'). A thread is an engine with its number; it has a queue of its own, which is
-- there until the thread ends. Messages are of any type `M`.
use Rattle.std.specs.Prelude.{ℕ, suc, List, [], ◌∷◌, ◌++◌, map, filter, find, length, Option, Some, None, is_none, option_map, option_and_then, Bool, true, false, if◌then◌else◌, ◌==◌, nat_lt, not, bytes_eq, codes, decimal}
use Rattle.std.specs.List.{list_any}
use Rattle.pl_term.specs.Tree.{Chars}
use Rattle.pl_term.specs.Variables.{is_in}
use Rattle.pl_model.specs.declared.threads.Name.{Name}
use Rattle.pl_model.specs.declared.threads.Name.TheVariants.{Number, Alias}
use Rattle.pl_model.specs.declared.threads.Message.{Message}
use Rattle.pl_model.specs.declared.threads.Status.{Status}
use Rattle.pl_model.specs.declared.threads.Thread.{Thread}

-- A queue. Its messages have the places of the updates that sent them, which name them.
pub record Queue (M : Type 0) : Type 0 where
  pub number : ℕ
  -- whether it is the queue of the thread with this number
  pub is_own : Bool
  -- the messages in the order in which they were sent
  pub messages : List (Message M)

pub record Threads (M : Type 0) : Type 0 where
  -- the aliases of threads and queues, of which no two are equal, with the numbers that they name
  pub aliases : List (Chars × ℕ)
  pub queues : List (Queue M)
  -- the threads that have not been joined, with how they ended where they have
  pub threads : List (Thread M)
  -- the numbers of the threads that have been joined
  pub joined : List ℕ

abbrev pub own_queue : {M : Type 0} → ℕ → Queue M
own_queue n = record { number = n; is_own = true; messages = [] }

abbrev pub running_thread : {M : Type 0} → ℕ → Thread M
running_thread n = record { number = n; status = None }

-- At the start there is engine 1, named `main`.
abbrev pub opening_threads : {M : Type 0} → Threads M
opening_threads =
    record {
      aliases = (codes "main", 1) ∷ [];
      queues = own_queue 1 ∷ [];
      threads = running_thread 1 ∷ [];
      joined = [];
    }

-- Names

abbrev pub is_alias : {M : Type 0} → Threads M → Chars → Bool
is_alias t a = list_any (λ (x : Chars × ℕ). bytes_eq x.0 a) t.aliases

abbrev pub number_of : {M : Type 0} → Threads M → Name → Option ℕ
number_of t (Number n) = Some n
number_of t (Alias a) = option_map (λ (x : Chars × ℕ). x.1) (find (λ (x : Chars × ℕ). bytes_eq x.0 a) t.aliases)

-- The alias of the thread or queue with the number, where it has one.
abbrev pub alias_of : {M : Type 0} → Threads M → ℕ → Option Chars
alias_of t n = option_map (λ (x : Chars × ℕ). x.0) (find (λ (x : Chars × ℕ). x.1 == n) t.aliases)

abbrev pub is_queue : {M : Type 0} → ℕ → Queue M → Bool
is_queue n q = q.number == n

abbrev pub queue_numbered : {M : Type 0} → Threads M → ℕ → Option (Queue M)
queue_numbered t n = find (is_queue n) t.queues

abbrev pub queue_named : {M : Type 0} → Threads M → Name → Option (Queue M)
queue_named t x = option_and_then (queue_numbered t) (number_of t x)

abbrev pub is_thread : {M : Type 0} → ℕ → Thread M → Bool
is_thread n h = h.number == n

abbrev pub thread_numbered : {M : Type 0} → Threads M → ℕ → Option (Thread M)
thread_numbered t n = find (is_thread n) t.threads

abbrev pub thread_named : {M : Type 0} → Threads M → Name → Option (Thread M)
thread_named t x = option_and_then (thread_numbered t) (number_of t x)

-- Whether the name is the number of a thread that was joined. An alias is free again after the join.
abbrev pub is_joined : {M : Type 0} → Threads M → Name → Bool
is_joined t (Number n) = is_in n t.joined
is_joined t (Alias a) = false

-- Engines that have not ended; there are at most 64 of them, engine 1 among them.
abbrev pub is_running : {M : Type 0} → Thread M → Bool
is_running h = is_none h.status

abbrev pub running : {M : Type 0} → Threads M → ℕ
running t = length (filter is_running t.threads)

abbrev pub most_engines : ℕ
most_engines = 64

abbrev pub has_engine : {M : Type 0} → Threads M → Bool
has_engine t = nat_lt (running t) most_engines

-- The first message that passes the test.
abbrev pub first_message : {M : Type 0} → (M → Bool) → Queue M → Option (Message M)
first_message test q = find (λ m. test m.content) q.messages

-- Numbers. The goals of the command are numbered from 1 on, by the engines that run them; the first one is engine 1's. The
-- threads and queues that goals and directives make draw the numbers after those.
abbrev pub opening_count : ℕ → ℕ
opening_count goals = if goals == 0 then 2 else suc goals

-- The count after a thread or a queue got the number.
abbrev pub counted : ℕ → ℕ → ℕ
counted n count = if nat_lt n count then count else suc n

-- The alias of the engine that runs a further goal of the command.
abbrev pub goal_alias : ℕ → Chars
goal_alias n = codes "goal" ++ decimal n

-- What the updates change

abbrev pub with_alias : {M : Type 0} → ℕ → Option Chars → Threads M → List (Chars × ℕ)
with_alias n None t = t.aliases
with_alias n (Some a) t = t.aliases ++ (a, n) ∷ []

abbrev pub without_alias : {M : Type 0} → ℕ → Threads M → List (Chars × ℕ)
without_alias n t = filter (λ (x : Chars × ℕ). not (x.1 == n)) t.aliases

abbrev pub without_queue : {M : Type 0} → ℕ → Threads M → List (Queue M)
without_queue n t = filter (λ q. not (is_queue n q)) t.queues

-- A queue is made.
abbrev pub queue_made : {M : Type 0} → ℕ → Option Chars → Threads M → Threads M
queue_made n a t =
    record t {
      aliases = with_alias n a t;
      queues = t.queues ++ record { number = n; is_own = false; messages = [] } ∷ [];
    }

-- A queue is destroyed with its messages, and its alias is free again.
abbrev pub queue_dropped : {M : Type 0} → ℕ → Threads M → Threads M
queue_dropped n t = record t { aliases = without_alias n t; queues = without_queue n t }

-- A message is put after the others of the queue with the number.
abbrev pub with_message : {M : Type 0} → ℕ → Message M → Queue M → Queue M
with_message n m q = if is_queue n q then record q { messages = q.messages ++ m ∷ [] } else q

abbrev pub message_sent : {M : Type 0} → ℕ → ℕ → M → Threads M → Threads M
message_sent n k m t = record t { queues = map (with_message n (record { place = k; content = m })) t.queues }

-- The message that was sent at the place is taken out.
abbrev pub without_message : {M : Type 0} → ℕ → Queue M → Queue M
without_message k q = record q { messages = filter (λ m. not (m.place == k)) q.messages }

abbrev pub message_taken : {M : Type 0} → ℕ → Threads M → Threads M
message_taken k t = record t { queues = map (without_message k) t.queues }

-- A thread begins, with a queue of its own.
abbrev pub thread_started : {M : Type 0} → ℕ → Option Chars → Threads M → Threads M
thread_started n a t =
    record t {
      aliases = with_alias n a t;
      queues = t.queues ++ own_queue n ∷ [];
      threads = t.threads ++ running_thread n ∷ [];
    }

-- A thread ends: its queue goes with the messages left in it. Its alias names it until it is joined.
abbrev pub with_end : {M : Type 0} → ℕ → Status M → Thread M → Thread M
with_end n s h = if is_thread n h then record h { status = Some s } else h

abbrev pub thread_ended : {M : Type 0} → ℕ → Status M → Threads M → Threads M
thread_ended n s t = record t { queues = without_queue n t; threads = map (with_end n s) t.threads }

-- A thread is joined: it is gone, and its alias is free again.
abbrev pub thread_joined : {M : Type 0} → ℕ → Threads M → Threads M
thread_joined n t =
    record t {
      aliases = without_alias n t;
      threads = filter (λ h. not (is_thread n h)) t.threads;
      joined = t.joined ++ n ∷ [];
    }
