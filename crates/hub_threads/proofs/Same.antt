-- Threads and queues are read alike where each stored term is.
use Rattle.std.proofs.Common.{◌≡◌, ◌≤◌, ℕ, List, [], ◌∷◌, map, find, Option, Some, None, Bool, refl, ap, arith}
use Rattle.std.specs.Prelude.{cond, option_map}
use Rattle.std.specs.List.{sum_by}
use Rattle.std.proofs.lemmas.List.Sums.{sum_by-cons}
use Rattle.pl_term.specs.Tree.{Tree}
use Rattle.pl_model.specs.declared.threads.Message.{Message}
use Rattle.pl_model.specs.declared.threads.Status.{Status}
use Rattle.pl_model.specs.declared.threads.Status.TheVariants.{Succeeded, Failed, Exception, Exited, Halted, AtomSpace}
use Rattle.pl_model.specs.declared.threads.Thread.{Thread}
use Rattle.pl_model.specs.Threads.{Queue}
use Rattle.hub_threads.specs.Held.{Held, contents}
use Rattle.hub_threads.specs.Serving.{message_as, queue_as, status_as, thread_as, threads_as}
use Rattle.hub_threads.specs.Weights.{weigh_how, weigh_queue, weigh_status, weigh_thread}
use Rattle.hub_threads.specs.Threads.{IsStored}

-- a test on messages, where it is the same for each
pub find_same : (test other : Tree → Bool) (ms : List (Message Tree))
    → ((t : Tree) → ((w : Tree → ℕ) → w t ≤ sum_by w (contents ms)) → test t ≡ other t)
    → find (λ (m : Message Tree). test m.content) ms ≡ find (λ (m : Message Tree). other m.content) ms
find_same test other [] same = refl
find_same test other (m ∷ ms) same =
    let here = same m.content (λ w. let c = sum_by-cons w m.content (contents ms) in omega (arith, c)) in
    let there = find_same test other ms (λ t le. same t (λ w. let c = sum_by-cons w m.content (contents ms) in let h = le w in omega (arith, c, h))) in
    (λ i. cond (here i) (Some m) (there i))

module _ (f g : Tree → Tree) where
  messages_same : (ms : List (Message Tree)) → ((t : Tree) → ((w : Tree → ℕ) → w t ≤ sum_by w (contents ms)) → f t ≡ g t) → map (message_as f) ms ≡ map (message_as g) ms
  messages_same [] same = refl
  messages_same (m ∷ ms) same =
      let here = same m.content (λ w. let c = sum_by-cons w m.content (contents ms) in omega (arith, c)) in
      let there = messages_same ms (λ t le. same t (λ w. let c = sum_by-cons w m.content (contents ms) in let h = le w in omega (arith, c, h))) in
      (λ i. record { place = m.place; content = here i } ∷ there i)

  queues_same : (qs : List (Queue Tree)) → ((t : Tree) → ((w : Tree → ℕ) → w t ≤ sum_by (weigh_queue w) qs) → f t ≡ g t) → map (queue_as f) qs ≡ map (queue_as g) qs
  queues_same [] same = refl
  queues_same (q ∷ qs) same =
      let here = messages_same q.messages (λ t le. same t (λ w. let c = sum_by-cons (weigh_queue w) q qs in let h = le w in omega (arith, c, h))) in
      let there = queues_same qs (λ t le. same t (λ w. let c = sum_by-cons (weigh_queue w) q qs in let h = le w in omega (arith, c, h))) in
      (λ i. record { number = q.number; is_own = q.is_own; messages = here i } ∷ there i)

  how_same : (s : Status Tree) → ((t : Tree) → ((w : Tree → ℕ) → w t ≤ weigh_how w s) → f t ≡ g t) → status_as f s ≡ status_as g s
  how_same Succeeded same = refl
  how_same Failed same = refl
  how_same (Exception b) same = ap Exception (same b (λ w. omega arith))
  how_same (Exited t) same = ap Exited (same t (λ w. omega arith))
  how_same (Halted n) same = refl
  how_same AtomSpace same = refl

  status_same : (s : Option (Status Tree)) → ((t : Tree) → ((w : Tree → ℕ) → w t ≤ weigh_status w s) → f t ≡ g t) → option_map (status_as f) s ≡ option_map (status_as g) s
  status_same None same = refl
  status_same (Some s) same = ap Some (how_same s same)

  statuses_same : (hs : List (Thread Tree)) → ((t : Tree) → ((w : Tree → ℕ) → w t ≤ sum_by (weigh_thread w) hs) → f t ≡ g t) → map (thread_as f) hs ≡ map (thread_as g) hs
  statuses_same [] same = refl
  statuses_same (x ∷ hs) same =
      let here = status_same x.status (λ t le. same t (λ w. let c = sum_by-cons (weigh_thread w) x hs in let h = le w in omega (arith, c, h))) in
      let there = statuses_same hs (λ t le. same t (λ w. let c = sum_by-cons (weigh_thread w) x hs in let h = le w in omega (arith, c, h))) in
      (λ i. record { number = x.number; status = here i } ∷ there i)

  pub threads_same : (q : Held Tree) → ((t : Tree) → IsStored t q → f t ≡ g t) → threads_as f q.state ≡ threads_as g q.state
  threads_same q same =
      let queues = queues_same q.state.queues (λ t le. same t (λ w. let h = le w in omega (arith, h))) in
      let threads = statuses_same q.state.threads (λ t le. same t (λ w. let h = le w in omega (arith, h))) in
      (λ i. record { aliases = q.state.aliases; queues = queues i; threads = threads i; joined = q.state.joined })
