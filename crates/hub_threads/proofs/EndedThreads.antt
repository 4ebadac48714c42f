-- A thread ends.
use Rattle.std.proofs.Common.{◌≡◌, ◌≤◌, ℕ, ◌+◌, [], ◌∷◌, ◌++◌, Option, Some, None, Result, Ok, Err, Bool, true, false, refl, sym, ap, subst, ◌∙◌, arith}
use Rattle.std.specs.Prelude.{◌||◌, IfNone, IfSome, is_none, if◌then◌else◌}
use Rattle.std.specs.List.{sum_by}
use Rattle.pl_term.specs.Tree.{Tree}
use Rattle.pl_term.specs.Variables.{is_in}
use Rattle.pl_model.specs.declared.ends.How.{How}
use Rattle.pl_model.specs.declared.threads.Status.{Status}
use Rattle.pl_model.specs.declared.threads.Status.TheVariants.{Succeeded, Failed, Exception, Exited, Halted, AtomSpace}
use Rattle.pl_model.specs.declared.threads.Thread.{Thread}
use Rattle.pl_model.specs.History.{Entry, History, finish}
use Rattle.pl_model.specs.SharedState.{status_of}
use Rattle.pl_model.specs.Threads.{Threads, is_running, is_thread, thread_ended, thread_numbered, with_end}
use Rattle.atom_words.specs.declared.view.View.{View}
use Rattle.counted_terms.specs.CountedTerms.{IsCounted, naming, said}
use Rattle.counted_terms.specs.Keeping.{kept, tally}
use Rattle.counted_terms.specs.Sharing.{Counts, Restored, Sums}
use Rattle.counted_terms.proofs.Saying.{naming_few}
use Rattle.counted_terms.proofs.Sharing.{rest_counted}
use Rattle.hub_threads.specs.declared.held.fault.QueueFault.{QueueFault}
use Rattle.hub_threads.specs.declared.held.fault.QueueFault.TheVariants.{NoThread, Memory as NoMemory}
use Rattle.hub_threads.specs.Distinct.{has_number}
use Rattle.hub_threads.specs.Held.{Held, IsSound, own_contents, thread_numbers}
use Rattle.hub_threads.specs.Refusals.{end_refusal}
use Rattle.hub_threads.specs.Serving.{status_as, threads_as}
use Rattle.hub_threads.specs.Threads.{IsStored, IsThreads, thread_counts}
use Rattle.hub_threads.specs.Weights.{IsBelow, weigh, weigh_how}
use Rattle.hub_threads.proofs.Below.{ended_number, same_numbers, stays_below}
use Rattle.hub_threads.proofs.Sending.{stored_counted}
use Rattle.hub_threads.proofs.Served.{all_changes}
use Rattle.hub_threads.proofs.Steps.{goals_stay, moves_on, stays}
use Rattle.hub_threads.proofs.Weighing.{keeps_all}

-- THE THREAD RAN
pub record Ran (t : Threads Tree) (n : ℕ) : Type 0 where
  pub thread : Thread Tree
  pub found : thread_numbered t n ≡ Some thread
  pub runs : thread.status ≡ None

none_of : {X : Type 0} (o : Option X) → is_none o ≡ true → o ≡ None
none_of None e = refl
none_of (Some x) e = absurd (let f : false ≡ true = e in cc)

by_running : (b : Bool) → ◌≡◌ {A = Option QueueFault} (if b then None else Some NoThread) None → b ≡ true
by_running true e = refl
by_running false e = absurd (let f : Some NoThread ≡ None = e in cc)

ran_by : (t : Threads Tree) (n : ℕ) (o : Option (Thread Tree)) → thread_numbered t n ≡ o → ◌≡◌ {A = Option QueueFault} (elim o [ None ↦ Some NoThread | Some h ↦ if is_running h then None else Some NoThread ]) None → Ran t n
ran_by t n None is e = absurd (let f : Some NoThread ≡ None = e in cc)
ran_by t n (Some h) is e = record { thread = h; found = is; runs = none_of h.status (by_running (is_running h) e) }

pub ran : (t : Threads Tree) (n : ℕ) → end_refusal t n ≡ None → Ran t n
ran t n e = ran_by t n (thread_numbered t n) refl e

-- the call was not refused
pub not_refused : {X Y : Type 0} (v : X) (f : QueueFault → Y) (o : Option QueueFault) → IfSome o (λ c. ◌≡◌ {A = Result X Y} (Ok v) (Err (f c))) → o ≡ None
not_refused v f None h = refl
not_refused {X} {Y} v f (Some c) h = absurd (let e : ◌≡◌ {A = Result X Y} (Ok v) (Err (f c)) = h in cc)

pub at_none : {X P : Type 0} (o : Option X) → o ≡ None → IfNone o P → P
at_none {X} {P} o e h = subst (λ (z : Option X). IfNone z P) e h

-- HOW OFTEN A STATUS COUNTS AN ATOM
pub how_few : (a : ℕ) (s : Status Tree) → weigh_how (naming a) s ≤ 1
how_few a Succeeded = omega arith
how_few a Failed = omega arith
how_few a (Exception b) = naming_few a b
how_few a (Exited t) = naming_few a t
how_few a (Halted n) = omega arith
how_few a AtomSpace = omega arith

module _ (q r : Held Tree) (n : ℕ) (how : Status Tree) (sound : IsSound q) (ran_so : Ran q.state n) (left : r ≡ record q { state = thread_ended n how q.state }) where
  abbrev after : Held Tree
  after = record q { state = thread_ended n how q.state }

  abbrev own : ℕ → ℕ
  own a = sum_by (naming a) (own_contents n q.state)

  abbrev more : ℕ → ℕ
  more a = weigh_how (naming a) how

  pub ended_weighs : (a : ℕ) → thread_counts r a + own a ≡ more a + thread_counts q a
  ended_weighs a = ap (λ z. weigh (naming a) z + own a) left ∙ (keeps_all (naming a) q sound).ended n how ran_so.thread ran_so.found ran_so.runs

  pub ended_below : (count g : ℕ) → IsBelow count g q → IsBelow count (g + 1) r
  ended_below count g below = subst (IsBelow count (g + 1)) (sym left)
      ((stays_below count g after ((stays_below count g q below).ended n how)).later count (g + 1) (omega arith) (omega arith))

  -- k is the view of the keeper before, l that with the status, o that without the messages
  module _ (k l o : View) (g : ℕ) (exact : Counts (thread_counts q) k g)
      (stored : (u : Tree) → IsCounted u k → said (kept l) u ≡ said (kept k) u) (counted : (a : ℕ) → tally l a ≡ more a + tally k a) where
    -- the messages are counted
    pub own_within : (a : ℕ) → own a ≤ tally l a
    own_within a = let w = ended_weighs a in let s = exact.exact a in let c = counted a in omega (arith, w, s, c)

    module _ (forgotten : (u : Tree) → IsCounted u o → said (kept o) u ≡ said (kept l) u) (less : (a : ℕ) → own a + tally o a ≡ tally l a) where
      sums : (rest : ℕ → ℕ) → Sums (thread_counts q) rest k → Sums (thread_counts r) rest o
      sums rest s a = let w = ended_weighs a in let e = s a in let c = counted a in let d = less a in omega (arith, w, e, c, d)

      pub ended_restores : Restored (thread_counts q) (thread_counts r) k o g (g + 1)
      ended_restores = record {
        exact = sums;
        says = λ rest s u within. forgotten u (rest_counted (thread_counts r) rest o (sums rest s) u within) ∙ stored u (rest_counted (thread_counts q) rest k s u within);
        few = λ few a. let f = few a in let c = counted a in let d = less a in let h = how_few a how in omega (arith, f, c, d, h);
      }

      left_counted : (u : Tree) → IsStored u r → IsCounted u o
      left_counted u inside a some_ = let i = inside (naming a) in let s = sums exact.rest exact.exact a in let p = some_ in omega (arith, i, s, p)

      pub ended_stands : (e : How Tree) (steps count goals : ℕ) (h : History) → IsSound r → IsThreads k q count goals h → status_of e ≡ status_as (said (kept l)) how
          → IsThreads o r count goals (h ++ record { engine = n; kind = finish e steps } ∷ [])
      ended_stands e steps count goals h sound_after stands same_how =
          let u = finish e steps in
          let x : Entry = record { engine = n; kind = u } in
          let same : (t : Tree) → IsStored t q → said (kept l) t ≡ said (kept k) t = λ t inside. stored t (stored_counted k q g exact t inside) in
          stays l o r count goals (h ++ x ∷ []) sound_after (λ t inside. forgotten t (left_counted t inside))
          (subst (λ (z : Held Tree). IsThreads l z count goals (h ++ x ∷ [])) (sym left)
          (moves_on k l q count goals h sound same stands n u (thread_ended n (status_of e)) (λ c. c) after
          (λ z. refl)
          (λ z. refl)
          (ap (λ s. thread_ended n s (threads_as (said (kept l)) q.state)) same_how ∙ sym ((all_changes (said (kept l)) q.state).ended n how))
          (λ b. or_false (has_number b (thread_numbers q.state.threads) || is_in b q.state.joined)
          ∙ ap (λ ns. has_number b ns || is_in b q.state.joined) (sym (same_numbers (λ (t : Thread Tree). t.number) (with_end n how) (λ t. ended_number how t (is_thread n t)) q.state.threads)))
          (goals_stay k l q count goals h sound same stands n u (thread_ended n (status_of e)) (λ c. c) after x (λ b. refl))))
        where
          or_false : (b : Bool) → (b || false) ≡ b
          or_false true = refl
          or_false false = refl

-- IT COULD NOT END: the status is forgotten again
pub handed_back : (X : Type 0) (o : Option QueueFault) (p : Status Tree × QueueFault) (how : Status Tree) → IfSome o (λ c. ◌≡◌ {A = Result X (Status Tree × QueueFault)} (Err p) (Err (how, c))) → IfNone o (p ≡ (how, NoMemory)) → p.0 ≡ how
handed_back X None p how h e = ap (λ (z : Status Tree × QueueFault). z.0) e
handed_back X (Some c) p how h e = ap (λ (r : Result X (Status Tree × QueueFault)). elim r [ Ok v ↦ how | Err z ↦ z.0 ]) h

module _ (k l o : View) (how : Status Tree)
    (stored : (u : Tree) → IsCounted u k → said (kept l) u ≡ said (kept k) u) (counted : (a : ℕ) → tally l a ≡ weigh_how (naming a) how + tally k a)
    (forgotten : (u : Tree) → IsCounted u o → said (kept o) u ≡ said (kept l) u) (less : (a : ℕ) → weigh_how (naming a) how + tally o a ≡ tally l a) where
  back : (a : ℕ) → tally o a ≡ tally k a
  back a = let c = counted a in let d = less a in omega (arith, c, d)

  again : (t : Tree) → IsCounted t k → said (kept o) t ≡ said (kept k) t
  again t is = forgotten t (λ a some_. let i = is a some_ in let b = back a in omega (arith, i, b)) ∙ stored t is

  pub undone_restores : (part : ℕ → ℕ) (g : ℕ) → Restored part part k o g g
  undone_restores part g = record {
    exact = λ rest s a. back a ∙ s a;
    says = λ rest s t within. again t (rest_counted part rest k s t within);
    few = λ few a. let f = few a in let b = back a in omega (arith, f, b);
  }

  pub undone_stands : (q : Held Tree) (g : ℕ) → IsSound q → Counts (thread_counts q) k g → (count goals : ℕ) (h : History) → IsThreads k q count goals h → IsThreads o q count goals h
  undone_stands q g sound exact count goals h stands = stays k o q count goals h sound (λ t inside. again t (stored_counted k q g exact t inside)) stands
