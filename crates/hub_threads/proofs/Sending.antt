-- A message is sent.
use Rattle.std.proofs.Common.{◌≡◌, ◌<◌, ◌≤◌, ℕ, zero, suc, ◌+◌, [], ◌∷◌, ◌++◌, length, Option, Some, None, Bool, true, false, refl, sym, ap, subst, ◌∙◌, arith}
use Rattle.std.specs.Prelude.{◌^◌, ◌||◌, IfSome, codes, option_and_then}
use Rattle.std.specs.Option.{IsSome}
use Rattle.std.proofs.lemmas.Bool.{false≢true}
use Rattle.pl_term.specs.Tree.{Tree}
use Rattle.pl_term.specs.Variables.{is_in, rename}
use Rattle.pl_model.specs.declared.threads.Name.{Name as SharedName}
use Rattle.pl_model.specs.History.{History, send}
use Rattle.pl_model.specs.Requests.{done, send_message}
use Rattle.pl_model.specs.ErrorTerms.{resource_error}
use Rattle.pl_model.specs.Service.{name_of, no_queue, refuses, served_now, updates}
use Rattle.pl_model.specs.SharedState.{state_at}
use Rattle.pl_model.specs.Threads.{Queue, Threads, message_sent, number_of, queue_named, queue_numbered}
use Rattle.atom_api.specs.Names.{Names}
use Rattle.atom_words.specs.declared.view.View.{View}
use Rattle.hub_threads.specs.Distinct.{has_number}
use Rattle.hub_threads.specs.Held.{Held, IsSound, thread_numbers}
use Rattle.hub_threads.specs.Serving.{threads_as}
use Rattle.hub_threads.specs.Weights.{IsBelow, weigh}
use Rattle.hub_threads.proofs.Below.{stays_below}
use Rattle.hub_threads.proofs.Located.{key_is}
use Rattle.hub_threads.proofs.Served.{all_changes, served}
use Rattle.hub_threads.proofs.Weighing.{keeps_all}
use Rattle.counted_terms.specs.CountedTerms.{IsCounted, naming, said}
use Rattle.counted_terms.specs.Keeping.{kept, tally}
use Rattle.counted_terms.specs.Sharing.{Counts, Restored}
use Rattle.counted_terms.proofs.Sharing.{forget_restores, part_counted, restored_as, restored_same, restored_then, restored_wider, store_restores}
use Rattle.world_api.specs.declared.reply.Reply.TheVariants.{Done}
use Rattle.hub_threads.specs.Rows.{Changed}
use Rattle.hub_threads.specs.Threads.{IsStored, IsThreads, thread_counts}
use Rattle.hub_threads.proofs.RefusedRows.{updates_made, updates_refused}
use Rattle.hub_threads.proofs.Steps.{goals_stay, moves_on}

-- A queue that is named so has its number.
by_number : (t : Threads Tree) (o : Option ℕ) (x : Queue Tree) → option_and_then (queue_numbered t) o ≡ Some x → queue_numbered t x.number ≡ Some x
by_number t None x e = absurd (cc)
by_number t (Some n) x e = ap (queue_numbered t) (key_is (λ (y : Queue Tree). y.number) n t.queues x e) ∙ e

pub numbered : (t : Threads Tree) (name : SharedName) (x : Queue Tree) → queue_named t name ≡ Some x → queue_numbered t x.number ≡ Some x
numbered t name x e = by_number t (number_of t name) x e

pub some_of : {X : Type 0} (o : Option X) → IsSome o → (x : X) × (o ≡ Some x)
some_of None h = absurd (false≢true h)
some_of (Some x) h = (x, refl)

-- what holds of what is there
pub at_some : {X : Type 0} (P : X → Type 0) (o : Option X) (x : X) → o ≡ Some x → IfSome o P → P x
at_some P o x e h = subst (λ p. IfSome p P) e h

pub some_at : {X : Type 0} (P : X → Type 0) (o : Option X) (x : X) → o ≡ Some x → P x → IfSome o P
some_at P o x e h = subst (λ p. IfSome p P) (sym e) h

-- each stored term is counted
pub stored_counted : (k : View) (q : Held Tree) (g : ℕ) → Counts (thread_counts q) k g → (t : Tree) → IsStored t q → IsCounted t k
stored_counted k q g counts t inside = part_counted (thread_counts q) counts.rest k counts.exact t (λ a. inside (naming a))

-- there is room to count one more
pub has_room : (k : View) (part : ℕ → ℕ) (g : ℕ) → Counts part k g → g < 2 ^ 47 → (a : ℕ) → tally k a < 2305843009213693951
has_room k part g counts low a = let f = counts.few a in omega (arith, f, low)

module _ (k l : View) (q r : Held Tree) (g : ℕ) (x : Queue Tree) (m : Tree) (sound : IsSound q) (numbered_so : queue_numbered q.state x.number ≡ Some x) (sent : r ≡ record q { state = message_sent x.number g m q.state }) where
  abbrev after : Held Tree
  after = record q { state = message_sent x.number g m q.state }

  weighs : (w : Tree → ℕ) → weigh w r ≡ w m + weigh w q
  weighs w = ap (weigh w) sent ∙ (keeps_all w q sound).sent x.number g m x numbered_so

  pub sent_restores : ((u : Tree) → IsCounted u k → said (kept l) u ≡ said (kept k) u) → ((a : ℕ) → tally l a ≡ naming a m + tally k a) → Restored (thread_counts q) (thread_counts r) k l g (g + 1)
  sent_restores others counts =
      restored_wider (thread_counts q) (thread_counts r) k l g (suc g) (g + 1)
      (restored_as (thread_counts q) (λ a. naming a m + thread_counts q a) (thread_counts r) k l g (suc g) (store_restores (thread_counts q) k l g m others counts) (λ a. weighs (naming a)))
      (omega arith)

  pub sent_below : (count : ℕ) → IsBelow count g q → IsBelow count (g + 1) r
  sent_below count below = subst (IsBelow count (g + 1)) (sym sent) (let e : suc g ≡ g + 1 = omega arith in subst (λ n. IsBelow count n after) e ((stays_below count g q below).sent x.number m))

  pub sent_says : (n n' : Names) (e count goals : ℕ) (h : History) (y : Tree) (name : SharedName)
      → g < 2 ^ 47
      → length h ≡ g
      → ((t : Tree) → IsStored t q → said (kept l) t ≡ said (kept k) t)
      → said (kept l) m ≡ said n m
      → rename zero (said n m) ≡ said n m
      → IsThreads k q count goals h
      → name_of y ≡ Some name
      → queue_named q.state name ≡ Some x
      → Changed l n' e (send_message y (said n m)) r count goals h Done
  sent_says n n' e count goals h y name low long same now canonical stands named there =
      let t = said n m in
      let u = send x.number t in
      let s = state_at goals h (length h) in
      record {
        update = u;
        answers = record {
          reply = done;
          serves = (served (said (kept k)) q.state s stands.threads).sends e (length h) y t name named
              ∙ ap (λ o. elim o [ None ↦ no_queue y | Some z ↦ updates (length h) done (send z.number (rename zero t)) ]) there
              ∙ ap (λ d. updates (length h) done (send x.number d)) canonical
              ∙ updates_made (length h) done u (let lo = low in let lg = long in omega (arith, lo, lg));
          says = refl;
        };
        stands = subst (λ (z : Held Tree). IsThreads l z count goals (h ++ record { engine = e; kind = u } ∷ [])) (sym sent)
            (moves_on k l q count goals h sound same stands e u (message_sent x.number (length h) t) (λ c. c) after
            (λ z. refl)
            (λ z. refl)
            (ap (λ d. message_sent x.number (length h) d (threads_as (said (kept l)) q.state)) (sym now)
            ∙ ap (λ d. message_sent x.number d (said (kept l) m) (threads_as (said (kept l)) q.state)) long
            ∙ sym ((all_changes (said (kept l)) q.state).sent x.number g m))
            (λ b. or_false (has_number b (thread_numbers q.state.threads) || is_in b q.state.joined))
            (goals_stay k l q count goals h sound same stands e u (message_sent x.number (length h) t) (λ c. c) after (record { engine = e; kind = u }) (λ b. refl)));
        fresh = λ b f. absurd (cc);
      }
    where
      or_false : (b : Bool) → (b || false) ≡ b
      or_false true = refl
      or_false false = refl

-- A message is stored, and forgotten as it could not be sent: nothing has changed.
pub undone_restores : (k l o : View) (part : ℕ → ℕ) (g : ℕ) (m : Tree)
    → ((u : Tree) → IsCounted u k → said (kept l) u ≡ said (kept k) u)
    → ((a : ℕ) → tally l a ≡ naming a m + tally k a)
    → ((u : Tree) → IsCounted u o → said (kept o) u ≡ said (kept l) u)
    → ((a : ℕ) → naming a m + tally o a ≡ tally l a)
    → Restored part part k o g g
undone_restores k l o part g m stored counted forgotten less =
    let both = restored_then part (λ a. naming a m + part a) part k l o g (suc g) (suc g) (store_restores part k l g m stored counted) (forget_restores (λ a. naming a m + part a) part l o (suc g) m (λ a. refl) forgotten less) in
    record {
      exact = both.exact;
      says = both.says;
      few = λ few a. let f = few a in let c = counted a in let d = less a in omega (arith, f, c, d);
    }

pub undone_says : (k l o : View) (m t : Tree)
    → ((u : Tree) → IsCounted u k → said (kept l) u ≡ said (kept k) u)
    → ((a : ℕ) → tally l a ≡ naming a m + tally k a)
    → ((u : Tree) → IsCounted u o → said (kept o) u ≡ said (kept l) u)
    → ((a : ℕ) → naming a m + tally o a ≡ tally l a)
    → IsCounted t k
    → said (kept o) t ≡ said (kept k) t
undone_says k l o m t stored counted forgotten less is =
    forgotten t (λ a some_. let i = is a some_ in let c = counted a in let d = less a in omega (arith, i, c, d)) ∙ stored t is

-- No message is sent any more.
pub send_worn : (k : View) (q : Held Tree) (count goals : ℕ) (h : History) → IsThreads k q count goals h → (e : ℕ) (y : Tree) (name : SharedName) → name_of y ≡ Some name → IsSome (queue_named q.state name) → (t : Tree) → 2 ^ 47 ≤ length h
    → served_now e goals h (send_message y t) ≡ refuses (resource_error (codes "generations"))
send_worn k q count goals h stands e y name named there t high =
    let x = some_of (queue_named q.state name) there in
    (served (said (kept k)) q.state (state_at goals h (length h)) stands.threads).sends e (length h) y t name named
    ∙ ap (λ o. elim o [ None ↦ no_queue y | Some z ↦ updates (length h) done (send z.number (rename zero t)) ]) x.1
    ∙ updates_refused (length h) done (send x.0.number (rename zero t)) high

-- NOTHING HAS CHANGED
pub nothing_restores : (part : ℕ → ℕ) (k l : View) (g u : ℕ) → kept l ≡ kept k → ((a : ℕ) → tally l a ≡ tally k a) → Restored part part k l g (g + u)
nothing_restores part k l g u keeps counts = restored_wider part part k l g g (g + u) (restored_same part k l g keeps counts) (omega arith)

pub nothing_below : (q : Held Tree) (count g u : ℕ) → IsBelow count g q → IsBelow count (g + u) q
nothing_below q count g u below = (stays_below count g q below).later count (g + u) (omega arith) (omega arith)
