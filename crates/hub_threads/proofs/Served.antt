-- Messages and goals as the terms for which they stand: what is found, what is answered and what changes.
use Rattle.std.proofs.Common.{◌≡◌, ℕ, zero, suc, List, [], ◌∷◌, ◌++◌, map, filter, find, length, Option, Some, None, Bool, true, false, refl, ap, sym, ◌∙◌}
use Rattle.std.specs.Prelude.{◌==◌, cond, if◌then◌else◌, is_none, nat_lt, not, codes, pos, option_map, option_and_then}
use Rattle.std.proofs.lemmas.List.{map-append}
use Rattle.pl_term.specs.Tree.{Chars, Tree, int, atom}
use Rattle.pl_term.specs.Variables.{rename}
use Rattle.pl_model.specs.declared.threads.Name.{Name}
use Rattle.pl_model.specs.declared.threads.Name.TheVariants.{Number, Alias}
use Rattle.pl_model.specs.declared.threads.Message.{Message}
use Rattle.pl_model.specs.declared.threads.Status.{Status}
use Rattle.pl_model.specs.declared.threads.Thread.{Thread}
use Rattle.pl_model.specs.ErrorTerms.{permission_error, resource_error}
use Rattle.pl_model.specs.History.{make_queue, drop_queue, send, start}
use Rattle.pl_model.specs.Threads.{Queue, Threads, most_engines, has_engine, is_running, is_queue, is_thread, alias_of, is_alias, number_of, queue_numbered, queue_named, thread_numbered, thread_named, first_message, goal_alias, with_alias, without_alias, without_queue, with_message, without_message, with_end, own_queue, running_thread, thread_started}
use Rattle.pl_model.specs.SharedState.{SharedState}
use Rattle.pl_model.specs.Requests.{named, done}
use Rattle.pl_model.specs.Service.{Served, serve, got, peeked, created, reads, refuses, updates, name_of, name_term, no_queue, matches, with_queue, destroyed, joined, ended, queue_for, thread_for, alias_taken}
use Rattle.hub_threads.specs.declared.held.fault.QueueFault.TheVariants.{NoQueue, OwnQueue, AliasTaken, EnginesFull}
use Rattle.hub_threads.specs.Serving.{message_as, queue_as, status_as, thread_as, threads_as, no_thread, drop_error, start_error, unless, found, Serves, Changes}

-- Lists

find_by : {X Y : Type 0} (h : X → Y) (x : X) (b : Bool) (r : Option X) (s : Option Y)
    → s ≡ option_map h r
    → cond b (Some (h x)) s ≡ option_map h (cond b (Some x) r)
find_by h x true r s e = refl
find_by h x false r s e = e

find_mapped : {X Y : Type 0} (h : X → Y) (test : Y → Bool) (xs : List X)
    → find test (map h xs) ≡ option_map h (find (λ x. test (h x)) xs)
find_mapped h test [] = refl
find_mapped h test (x ∷ xs) = find_by h x (test (h x)) (find (λ y. test (h y)) xs) (find test (map h xs)) (find_mapped h test xs)

filter_by : {X Y : Type 0} (h : X → Y) (x : X) (b : Bool) (r : List X) (s : List Y)
    → s ≡ map h r
    → cond b (h x ∷ s) s ≡ map h (cond b (x ∷ r) r)
filter_by h x true r s e = ap (λ l. h x ∷ l) e
filter_by h x false r s e = e

filter_mapped : {X Y : Type 0} (h : X → Y) (test : Y → Bool) (xs : List X)
    → filter test (map h xs) ≡ map h (filter (λ x. test (h x)) xs)
filter_mapped h test [] = refl
filter_mapped h test (x ∷ xs) = filter_by h x (test (h x)) (filter (λ y. test (h y)) xs) (filter test (map h xs)) (filter_mapped h test xs)

map_mapped : {X Y : Type 0} (h : X → Y) (f : X → X) (k : Y → Y)
    → ((x : X) → h (f x) ≡ k (h x))
    → (xs : List X)
    → map h (map f xs) ≡ map k (map h xs)
map_mapped h f k e [] = refl
map_mapped h f k e (x ∷ xs) = ap (λ y. y ∷ map h (map f xs)) (e x) ∙ ap (λ l. k (h x) ∷ l) (map_mapped h f k e xs)

pub find_alike : {X : Type 0} (test other : X → Bool) → ((x : X) → test x ≡ other x) → (xs : List X) → find test xs ≡ find other xs
find_alike test other e [] = refl
find_alike test other e (x ∷ xs) = ap (λ b. cond b (Some x) (find test xs)) (e x) ∙ ap (λ o. cond (other x) (Some x) o) (find_alike test other e xs)

count_by : {X Y : Type 0} (b c : Bool) (x : X) (y : Y) (xs : List X) (ys : List Y)
    → b ≡ c
    → length xs ≡ length ys
    → length (cond b (x ∷ xs) xs) ≡ length (cond c (y ∷ ys) ys)
count_by b true x y xs ys e f = ap (λ d. length (cond d (x ∷ xs) xs)) e ∙ ap suc f
count_by b false x y xs ys e f = ap (λ d. length (cond d (x ∷ xs) xs)) e ∙ f

module _ {M : Type 0} (term : M → Tree) where
  -- What is found

  number_as : (t : Threads M) (n : Name) → number_of (threads_as term t) n ≡ number_of t n
  number_as t (Number n) = refl
  number_as t (Alias a) = refl

  pub queue_at : (t : Threads M) (n : ℕ) → queue_numbered (threads_as term t) n ≡ option_map (queue_as term) (queue_numbered t n)
  queue_at t n = find_mapped (queue_as term) (is_queue n) t.queues

  queue_then : (t : Threads M) (o : Option ℕ)
      → option_and_then (queue_numbered (threads_as term t)) o ≡ option_map (queue_as term) (option_and_then (queue_numbered t) o)
  queue_then t None = refl
  queue_then t (Some n) = queue_at t n

  thread_then : (t : Threads M) (o : Option ℕ)
      → option_and_then (thread_numbered (threads_as term t)) o ≡ option_map (thread_as term) (option_and_then (thread_numbered t) o)
  thread_then t None = refl
  thread_then t (Some n) = find_mapped (thread_as term) (is_thread n) t.threads

  pub queue_by : (t : Threads M) (w : Threads Tree) (x : Tree) (n : Name)
      → w ≡ threads_as term t
      → name_of x ≡ Some n
      → queue_for w x ≡ option_map (queue_as term) (queue_named t n)
  queue_by t w x n is e =
      ap (option_and_then (queue_named w)) e
      ∙ ap (λ v. queue_named v n) is
      ∙ ap (option_and_then (queue_numbered (threads_as term t))) (number_as t n)
      ∙ queue_then t (number_of t n)

  pub thread_by : (t : Threads M) (w : Threads Tree) (x : Tree) (n : Name)
      → w ≡ threads_as term t
      → name_of x ≡ Some n
      → thread_for w x ≡ option_map (thread_as term) (thread_named t n)
  thread_by t w x n is e =
      ap (option_and_then (thread_named w)) e
      ∙ ap (λ v. thread_named v n) is
      ∙ ap (option_and_then (thread_numbered (threads_as term t))) (number_as t n)
      ∙ thread_then t (number_of t n)

  found_as : (p : Tree) (q : Queue M) → first_message (matches p) (queue_as term q) ≡ found term p q
  found_as p q = find_mapped (message_as term) (λ m. matches p m.content) q.messages

  none_as : (s : Option (Status M)) → is_none (option_map (status_as term) s) ≡ is_none s
  none_as None = refl
  none_as (Some s) = refl

  running_as : (hs : List (Thread M)) → length (filter is_running (map (thread_as term) hs)) ≡ length (filter is_running hs)
  running_as [] = refl
  running_as (h ∷ hs) =
      count_by (is_running (thread_as term h)) (is_running h) (thread_as term h) h (filter is_running (map (thread_as term) hs)) (filter is_running hs)
      (none_as h.status) (running_as hs)

  pub engines_as : (t : Threads M) (w : Threads Tree) → w ≡ threads_as term t → has_engine w ≡ has_engine t
  engines_as t w is = ap has_engine is ∙ ap (λ n. nat_lt n most_engines) (running_as t.threads)

  pub alias_as : (t : Threads M) (w : Threads Tree) (a : Chars) → w ≡ threads_as term t → is_alias w a ≡ is_alias t a
  alias_as t w a is = ap (λ v. is_alias v a) is

  -- What is answered

  pub sends_by : (x : Tree) (next : Queue Tree → Served) (o : Option (Queue M)) (w : Option (Queue Tree))
      → w ≡ option_map (queue_as term) o
      → with_queue x next w ≡ elim o [ None ↦ no_queue x | Some q ↦ next (queue_as term q) ]
  sends_by x next None w e = ap (with_queue x next) e
  sends_by x next (Some q) w e = ap (with_queue x next) e

  pub finds_by : (x p : Tree) (next : Option (Message Tree) → Served) (o : Option (Queue M)) (w : Option (Queue Tree))
      → w ≡ option_map (queue_as term) o
      → with_queue x (λ q. next (first_message (matches p) q)) w ≡ elim o [ None ↦ no_queue x | Some q ↦ next (found term p q) ]
  finds_by x p next None w e = ap (with_queue x (λ q. next (first_message (matches p) q))) e
  finds_by x p next (Some q) w e = ap (with_queue x (λ q. next (first_message (matches p) q))) e ∙ ap next (found_as p q)

  own_by : (x : Tree) (b : Bool) (u : Served)
      → (if b then refuses (permission_error (codes "destroy") (codes "message_queue") x) else u)
      ≡ unless (if b then Some OwnQueue else None) (drop_error x) u
  own_by x true u = refl
  own_by x false u = refl

  pub drops_by : (x : Tree) (g : ℕ) (o : Option (Queue M)) (w : Option (Queue Tree))
      → w ≡ option_map (queue_as term) o
      → with_queue x (destroyed g x) w
      ≡ unless (elim o [ None ↦ Some NoQueue | Some q ↦ if q.is_own then Some OwnQueue else None ]) (drop_error x)
      (elim o [ None ↦ no_queue x | Some q ↦ updates g done (drop_queue q.number) ])
  drops_by x g None w e = ap (with_queue x (destroyed g x)) e
  drops_by x g (Some q) w e = ap (with_queue x (destroyed g x)) e ∙ own_by x q.is_own (updates g done (drop_queue q.number))

  pub joins_by : (e g : ℕ) (x : Tree) (o : Option (Thread M)) (w : Option (Thread Tree))
      → w ≡ option_map (thread_as term) o
      → joined e g x w
      ≡ elim o [
        | None ↦ no_thread x
        | Some h ↦ if h.number == e then refuses (permission_error (codes "join") (codes "thread") x) else ended g h.number (option_map (status_as term) h.status)
      ]
  joins_by e g x None w is = ap (joined e g x) is
  joins_by e g x (Some h) w is = ap (joined e g x) is

  -- What changes

  abbrev pub state : List (Chars × ℕ) → List (Queue Tree) → List (Thread Tree) → List ℕ → Threads Tree
  state xs qs hs js = record { aliases = xs; queues = qs; threads = hs; joined = js }

  names_as : (n : ℕ) (a : Option Chars) (t : Threads M) → with_alias n a t ≡ with_alias n a (threads_as term t)
  names_as n None t = refl
  names_as n (Some a) t = refl

  pub made_as : (t : Threads M) (n : ℕ) (a : Option Chars) (q : Queue M)
      → state (with_alias n a t) (map (queue_as term) (t.queues ++ q ∷ [])) (map (thread_as term) t.threads) t.joined
      ≡ state (with_alias n a (threads_as term t)) (map (queue_as term) t.queues ++ queue_as term q ∷ []) (map (thread_as term) t.threads) t.joined
  made_as t n a q =
      ap (λ l. state l (map (queue_as term) (t.queues ++ q ∷ [])) (map (thread_as term) t.threads) t.joined) (names_as n a t)
      ∙ ap (λ l. state (with_alias n a (threads_as term t)) l (map (thread_as term) t.threads) t.joined) (map-append (queue_as term) t.queues (q ∷ []))

  pub started_as : (t : Threads M) (n : ℕ) (a : Option Chars) → threads_as term (thread_started n a t) ≡ thread_started n a (threads_as term t)
  started_as t n a =
      ap (λ l. state l (map (queue_as term) (t.queues ++ own_queue n ∷ [])) (map (thread_as term) (t.threads ++ running_thread n ∷ [])) t.joined) (names_as n a t)
      ∙ ap (λ l. state (with_alias n a (threads_as term t)) l (map (thread_as term) (t.threads ++ running_thread n ∷ [])) t.joined) (map-append (queue_as term) t.queues (own_queue n ∷ []))
      ∙ ap (λ l. state (with_alias n a (threads_as term t)) (map (queue_as term) t.queues ++ own_queue n ∷ []) l t.joined) (map-append (thread_as term) t.threads (running_thread n ∷ []))

  pub queues_without : (n : ℕ) (qs : List (Queue M))
      → map (queue_as term) (filter (λ q. not (is_queue n q)) qs) ≡ filter (λ q. not (is_queue n q)) (map (queue_as term) qs)
  queues_without n qs = sym (filter_mapped (queue_as term) (λ q. not (is_queue n q)) qs)

  pub threads_without : (n : ℕ) (hs : List (Thread M))
      → map (thread_as term) (filter (λ h. not (is_thread n h)) hs) ≡ filter (λ h. not (is_thread n h)) (map (thread_as term) hs)
  threads_without n hs = sym (filter_mapped (thread_as term) (λ h. not (is_thread n h)) hs)

  sent_by : (m : Message M) (q : Queue M) (b : Bool)
      → queue_as term (if b then record q { messages = q.messages ++ m ∷ [] } else q)
      ≡ (if b then record (queue_as term q) { messages = map (message_as term) q.messages ++ message_as term m ∷ [] } else queue_as term q)
  sent_by m q true = ap (λ l. record { number = q.number; is_own = q.is_own; messages = l }) (map-append (message_as term) q.messages (m ∷ []))
  sent_by m q false = refl

  pub queues_sent : (n : ℕ) (m : Message M) (qs : List (Queue M))
      → map (queue_as term) (map (with_message n m) qs) ≡ map (with_message n (message_as term m)) (map (queue_as term) qs)
  queues_sent n m qs =
      map_mapped (queue_as term) (with_message n m) (with_message n (message_as term m)) (λ q. sent_by m q (is_queue n q)) qs

  pub queues_taken : (k : ℕ) (qs : List (Queue M))
      → map (queue_as term) (map (without_message k) qs) ≡ map (without_message k) (map (queue_as term) qs)
  queues_taken k qs =
      map_mapped (queue_as term) (without_message k) (without_message k)
      (λ q. ap (λ l. record { number = q.number; is_own = q.is_own; messages = l }) (sym (filter_mapped (message_as term) (λ m. not (m.place == k)) q.messages)))
      qs

  end_by : (how : Status M) (h : Thread M) (b : Bool)
      → thread_as term (if b then record h { status = Some how } else h)
      ≡ (if b then record (thread_as term h) { status = Some (status_as term how) } else thread_as term h)
  end_by how h true = refl
  end_by how h false = refl

  pub threads_ended : (n : ℕ) (how : Status M) (hs : List (Thread M))
      → map (thread_as term) (map (with_end n how) hs) ≡ map (with_end n (status_as term how)) (map (thread_as term) hs)
  threads_ended n how hs =
      map_mapped (thread_as term) (with_end n how) (with_end n (status_as term how)) (λ h. end_by how h (is_thread n h)) hs

-- By the refusals

pub makes_by : (b c : Bool) (a u : Served) → b ≡ c → (if b then a else u) ≡ unless (if c then Some AliasTaken else None) (λ f. a) u
makes_by b true a u e = ap (λ d. if d then a else u) e
makes_by b false a u e = ap (λ d. if d then a else u) e

pub starts_by : (a : Chars) (u : Served) (b c h k : Bool)
    → b ≡ c
    → h ≡ k
    → (if b then alias_taken (codes "thread") a else if h then u else refuses (resource_error (codes "threads")))
    ≡ unless (if c then Some AliasTaken else if k then None else Some EnginesFull) (start_error a) u
starts_by a u b true h k e f = ap (λ d. if d then alias_taken (codes "thread") a else if h then u else refuses (resource_error (codes "threads"))) e
starts_by a u b false h true e f =
    ap (λ d. if d then alias_taken (codes "thread") a else if h then u else refuses (resource_error (codes "threads"))) e
    ∙ ap (λ d. if d then u else refuses (resource_error (codes "threads"))) f
starts_by a u b false h false e f =
    ap (λ d. if d then alias_taken (codes "thread") a else if h then u else refuses (resource_error (codes "threads"))) e
    ∙ ap (λ d. if d then u else refuses (resource_error (codes "threads"))) f

-- All answers, and all changes

module _ {M : Type 0} (term : M → Tree) where
  pub served : (t : Threads M) (s : SharedState) → s.threads ≡ threads_as term t → Serves term t s
  unfolding serve
  served t s is =
      record {
        makes = λ e g a. makes_by (is_alias s.threads a) (is_alias t a) (alias_taken (codes "message_queue") a) (updates g (named (atom a)) (make_queue s.count (Some a))) (alias_as term t s.threads a is);
        drops = λ e g x n m. drops_by term x g (queue_named t n) (queue_for s.threads x) (queue_by term t s.threads x n is m);
        sends = λ e g x m n k. sends_by term x (λ q. updates g done (send q.number (rename zero m))) (queue_named t n) (queue_for s.threads x) (queue_by term t s.threads x n is k);
        gets = λ e g x p n m. finds_by term x p (got g) (queue_named t n) (queue_for s.threads x) (queue_by term t s.threads x n is m);
        gets_own = λ e g p. finds_by term (int (pos e)) p (got g) (queue_numbered t e) (queue_numbered s.threads e) (ap (λ w. queue_numbered w e) is ∙ queue_at term t e);
        peeks = λ e g x p n m. finds_by term x p peeked (queue_named t n) (queue_for s.threads x) (queue_by term t s.threads x n is m);
        peeks_own = λ e g p. finds_by term (int (pos e)) p peeked (queue_numbered t e) (queue_numbered s.threads e) (ap (λ w. queue_numbered w e) is ∙ queue_at term t e);
        starts = λ e g n goal. starts_by (goal_alias n) (updates g done (start n (rename zero goal) (Some (goal_alias n)))) (is_alias s.threads (goal_alias n)) (is_alias t (goal_alias n)) (has_engine s.threads) (has_engine t) (alias_as term t s.threads (goal_alias n) is) (engines_as term t s.threads is);
        creates = λ e g goal a. starts_by a (updates g (named (atom a)) (start s.count (rename zero goal) (Some a))) (is_alias s.threads a) (is_alias t a) (has_engine s.threads) (has_engine t) (alias_as term t s.threads a is) (engines_as term t s.threads is);
        creates_unnamed = λ e g goal. starts_by [] (updates g (named (int (pos s.count))) (start s.count (rename zero goal) None)) false false (has_engine s.threads) (has_engine t) refl (engines_as term t s.threads is);
        creates_next = λ e g goal a b as₁ error. ap (λ d. if d then alias_taken (codes "thread") a else created s g goal (Some a) (b ∷ as₁) error) (alias_as term t s.threads a is);
        creates_wrong = λ e g goal a error. ap (λ d. if d then alias_taken (codes "thread") a else refuses error) (alias_as term t s.threads a is);
        names = λ e g. ap (λ w. reads (named (name_term e (alias_of w e)))) is;
        joins = λ e g x n m. joins_by term e g x (thread_named t n) (thread_for s.threads x) (thread_by term t s.threads x n is m);
      }

  pub all_changes : (t : Threads M) → Changes term t
  all_changes t =
      record {
        made = λ n a. made_as term t n a (record { number = n; is_own = false; messages = [] });
        dropped = λ n. ap (λ l. record (threads_as term t) { aliases = without_alias n t; queues = l }) (queues_without term n t.queues);
        sent = λ n k m. ap (λ l. record (threads_as term t) { queues = l }) (queues_sent term n (record { place = k; content = m }) t.queues);
        taken = λ k. ap (λ l. record (threads_as term t) { queues = l }) (queues_taken term k t.queues);
        started = λ n a. started_as term t n a;
        ended = λ n how. ap (λ l. record (threads_as term t) { queues = l; threads = map (thread_as term) (map (with_end n how) t.threads) }) (queues_without term n t.queues)
            ∙ ap (λ l. record (threads_as term t) { queues = without_queue n (threads_as term t); threads = l }) (threads_ended term n how t.threads);
        joined = λ n. ap (λ l. record (threads_as term t) { aliases = without_alias n t; threads = l; joined = t.joined ++ n ∷ [] }) (threads_without term n t.threads);
      }
