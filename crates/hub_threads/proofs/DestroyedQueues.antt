-- A queue is destroyed.
use Rattle.std.proofs.Common.{◌≡◌, ◌<◌, ◌≤◌, ℕ, ◌+◌, [], ◌∷◌, ◌++◌, length, Option, Some, None, Bool, true, false, refl, sym, ap, subst, ◌∙◌, arith, codes}
use Rattle.std.specs.Prelude.{◌^◌, ◌||◌, IfNone, IfSome}
use Rattle.std.specs.List.{sum_by}
use Rattle.pl_term.specs.Tree.{Tree}
use Rattle.pl_term.specs.Variables.{is_in}
use Rattle.pl_model.specs.declared.threads.Name.{Name as SharedName}
use Rattle.pl_model.specs.ErrorTerms.{permission_error, resource_error}
use Rattle.pl_model.specs.History.{Entry, History, drop_queue}
use Rattle.pl_model.specs.Requests.{destroy_queue, done}
use Rattle.pl_model.specs.Service.{Served, answers, name_of, no_queue, refuses, served_now, updates}
use Rattle.pl_model.specs.SharedState.{state_at}
use Rattle.pl_model.specs.Threads.{Queue, Threads, queue_dropped, queue_named, queue_numbered}
use Rattle.atom_api.specs.Names.{Names}
use Rattle.atom_words.specs.declared.view.View.{View}
use Rattle.world_api.specs.declared.reply.Reply.TheVariants.{Done}
use Rattle.counted_terms.specs.CountedTerms.{IsCounted, naming, said}
use Rattle.counted_terms.specs.Keeping.{kept, tally}
use Rattle.counted_terms.specs.Sharing.{Counts, Restored}
use Rattle.counted_terms.proofs.Sharing.{restored_wider}
use Rattle.hub_threads.specs.Distinct.{has_number}
use Rattle.hub_threads.specs.Held.{Held, IsSound, contents, thread_numbers}
use Rattle.hub_threads.specs.Refusals.{drop_refusal}
use Rattle.hub_threads.specs.Rows.{Changed}
use Rattle.hub_threads.specs.Serving.{drop_error, unless}
use Rattle.hub_threads.specs.Threads.{IsStored, IsThreads, thread_counts}
use Rattle.hub_threads.specs.Weights.{IsBelow, weigh}
use Rattle.hub_threads.specs.declared.held.fault.QueueFault.{QueueFault}
use Rattle.hub_threads.proofs.Answered.{drop_free, drop_own}
use Rattle.hub_threads.proofs.Below.{stays_below}
use Rattle.hub_threads.proofs.Forgotten.{less_counted, less_restores}
use Rattle.hub_threads.proofs.RefusedRows.{updates_made, updates_refused}
use Rattle.hub_threads.proofs.Sending.{at_some}
use Rattle.hub_threads.proofs.Served.{all_changes, served}
use Rattle.hub_threads.proofs.Steps.{goals_stay, moves_on, stays}
use Rattle.hub_threads.proofs.Weighing.{keeps_all}

-- WHAT THE STATE ANSWERS
module _ (k : View) (q : Held Tree) (count goals : ℕ) (h : History) (stands : IsThreads k q count goals h) (e : ℕ) (y : Tree) (name : SharedName) (named : name_of y ≡ Some name) (x : Queue Tree) (there : queue_named q.state name ≡ Some x) where
  abbrev next : Option (Queue Tree) → Served
  next o = elim o [ None ↦ no_queue y | Some z ↦ updates (length h) done (drop_queue z.number) ]

  drops : served_now e goals h (destroy_queue y) ≡ unless (drop_refusal q.state name) (drop_error y) (next (queue_named q.state name))
  drops = (served (said (kept k)) q.state (state_at goals h (length h)) stands.threads).drops e (length h) y name named

  pub destroy_own : x.is_own ≡ true → served_now e goals h (destroy_queue y) ≡ refuses (permission_error (codes "destroy") (codes "message_queue") y)
  destroy_own own = drops ∙ ap (λ (o : Option QueueFault). unless o (drop_error y) (next (queue_named q.state name))) (drop_own q.state name x there own)

  free : x.is_own ≡ false → served_now e goals h (destroy_queue y) ≡ updates (length h) done (drop_queue x.number)
  free other =
      drops
      ∙ ap (λ (o : Option QueueFault). unless o (drop_error y) (next (queue_named q.state name))) (drop_free q.state name x there other)
      ∙ ap next there

  pub destroy_worn : x.is_own ≡ false → 2 ^ 47 ≤ length h → served_now e goals h (destroy_queue y) ≡ refuses (resource_error (codes "generations"))
  destroy_worn other high = free other ∙ updates_refused (length h) done (drop_queue x.number) high

  pub destroy_drops : x.is_own ≡ false → length h < 2 ^ 47 → served_now e goals h (destroy_queue y) ≡ answers done (Some (drop_queue x.number))
  destroy_drops other low = free other ∙ updates_made (length h) done (drop_queue x.number) low

-- The call has dropped the queue.
pub was_dropped : (P : Queue Tree → Type 0) (t : Threads Tree) (name : SharedName) (x : Queue Tree) → queue_named t name ≡ Some x → x.is_own ≡ false → IfNone (drop_refusal t name) (IfSome (queue_named t name) P) → P x
was_dropped P t name x there other h =
    at_some P (queue_named t name) x there (subst (λ (o : Option QueueFault). IfNone o (IfSome (queue_named t name) P)) (drop_free t name x there other) h)

-- WHAT IS LEFT
module _ (q r : Held Tree) (x : Queue Tree) (sound : IsSound q) (numbered_so : queue_numbered q.state x.number ≡ Some x) (dropped : r ≡ record q { state = queue_dropped x.number q.state }) where
  abbrev after : Held Tree
  after = record q { state = queue_dropped x.number q.state }

  abbrev less : ℕ → ℕ
  less a = sum_by (naming a) (contents x.messages)

  pub dropped_weighs : (a : ℕ) → thread_counts q a ≡ less a + thread_counts r a
  dropped_weighs a = (keeps_all (naming a) q sound).dropped x.number x numbered_so ∙ ap (λ z. less a + weigh (naming a) z) (sym dropped)

  -- its messages are counted
  pub dropped_within : (k : View) (g : ℕ) → Counts (thread_counts q) k g → (a : ℕ) → less a ≤ tally k a
  dropped_within k g counts a = let w = dropped_weighs a in let s = counts.exact a in omega (arith, w, s)

  module _ (k l : View) (g : ℕ) (others : (u : Tree) → IsCounted u l → said (kept l) u ≡ said (kept k) u) (counts : (a : ℕ) → less a + tally l a ≡ tally k a) where
    pub dropped_restores : Restored (thread_counts q) (thread_counts r) k l g (g + 1)
    dropped_restores =
        restored_wider (thread_counts q) (thread_counts r) k l g g (g + 1)
        (less_restores (thread_counts q) (thread_counts r) less k l g dropped_weighs others counts)
        (omega arith)

    pub dropped_says : Counts (thread_counts q) k g → (t : Tree) → IsStored t r → said (kept l) t ≡ said (kept k) t
    dropped_says exact t inside = others t (less_counted k l q r less exact.rest exact.exact dropped_weighs counts t inside)

  pub dropped_below : (count g : ℕ) → IsBelow count g q → IsBelow count (g + 1) r
  dropped_below count g below = subst (IsBelow count (g + 1)) (sym dropped)
      ((stays_below count g after ((stays_below count g q below).dropped x.number)).later count (g + 1) (omega arith) (omega arith))

  pub dropped_stands : (k l : View) (e count goals : ℕ) (h : History) → IsSound r → ((t : Tree) → IsStored t r → said (kept l) t ≡ said (kept k) t) → IsThreads k q count goals h
      → IsThreads l r count goals (h ++ record { engine = e; kind = drop_queue x.number } ∷ [])
  dropped_stands k l e count goals h sound_after same stands =
      let u = drop_queue x.number in
      let x₁ : Entry = record { engine = e; kind = u } in
      stays k l r count goals (h ++ x₁ ∷ []) sound_after same
      (subst (λ (z : Held Tree). IsThreads k z count goals (h ++ x₁ ∷ [])) (sym dropped)
      (moves_on k k q count goals h sound (λ t inside. refl) stands e u (queue_dropped x.number) (λ c. c) after
      (λ z. refl)
      (λ z. refl)
      (sym ((all_changes (said (kept k)) q.state).dropped x.number))
      (λ b. or_false (has_number b (thread_numbers q.state.threads) || is_in b q.state.joined))
      (goals_stay k k q count goals h sound (λ t inside. refl) stands e u (queue_dropped x.number) (λ c. c) after x₁ (λ b. refl))))
    where
      or_false : (b : Bool) → (b || false) ≡ b
      or_false true = refl
      or_false false = refl

  pub drop_changes : (k l : View) (n : Names) (e count goals g : ℕ) (h : History) (y : Tree) (name : SharedName)
      → IsSound r
      → ((t : Tree) → IsStored t r → said (kept l) t ≡ said (kept k) t)
      → g < 2 ^ 47
      → length h ≡ g
      → IsThreads k q count goals h
      → name_of y ≡ Some name
      → queue_named q.state name ≡ Some x
      → x.is_own ≡ false
      → Changed l n e (destroy_queue y) r count goals h Done
  drop_changes k l n e count goals g h y name sound_after same low long stands named there other = record {
    update = drop_queue x.number;
    answers = record {
      reply = done;
      serves = destroy_drops k q count goals h stands e y name named x there other (let a = long in let b = low in omega (arith, a, b));
      says = refl;
    };
    stands = dropped_stands k l e count goals h sound_after same stands;
    fresh = λ b f. absurd (cc);
  }
