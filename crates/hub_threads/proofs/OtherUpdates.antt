-- What leaves the threads and queues as they are, and how they are at the start.
use Rattle.std.proofs.Common.{◌≡◌, ℕ, [], ◌∷◌, ◌++◌, length, Some, None, Bool, true, false, refl, sym, ap, ◌∙◌}
use Rattle.std.specs.Prelude.{◌==◌, ◌||◌}
use Rattle.pl_term.specs.Tree.{Tree}
use Rattle.pl_model.specs.History.{Entry, History, Kind, abolish, add_first, add_last, begins, drop_queue, erase, finish, has_begun, join, make_queue, send, set_dynamic, set_flag, set_op, start}
use Rattle.pl_model.specs.History as entries
use Rattle.pl_model.specs.SharedState.{SharedState, change, opening_state, state_at}
use Rattle.pl_model.specs.Threads.{opening_count}
use Rattle.atom_words.specs.declared.view.View.{View}
use Rattle.counted_terms.specs.CountedTerms.{naming, said}
use Rattle.counted_terms.specs.Keeping.{kept}
use Rattle.counted_terms.specs.Sharing.{IsWithin}
use Rattle.counted_terms.proofs.StateAfter.{newest_after}
use Rattle.hub_threads.specs.Held.{Held, IsSound, opening_held}
use Rattle.hub_threads.specs.Threads.{IsOfDatabase, IsThreads, thread_counts}
use Rattle.hub_threads.proofs.Numbers.{eq_sides}
use Rattle.hub_threads.proofs.Steps.{begun_later, started_later, stays}

-- THE DATABASE'S UPDATES
threads_stay : (g e : ℕ) (u : Kind) → IsOfDatabase u → (s : SharedState) → (change g e u s).threads ≡ s.threads
threads_stay g e (add_first p c o) is s = refl
threads_stay g e (add_last p c o) is s = refl
threads_stay g e (erase j) is s = refl
threads_stay g e (abolish p) is s = refl
threads_stay g e (set_dynamic ps) is s = refl
threads_stay g e (set_flag f v) is s = refl
threads_stay g e (set_op os) is s = refl
threads_stay g e (make_queue n a) is s = absurd is
threads_stay g e (drop_queue n) is s = absurd is
threads_stay g e (send n t) is s = absurd is
threads_stay g e (entries.take j) is s = absurd is
threads_stay g e (start n t a) is s = absurd is
threads_stay g e (finish how n) is s = absurd is
threads_stay g e (join n) is s = absurd is

count_stays : (g e : ℕ) (u : Kind) → IsOfDatabase u → (s : SharedState) → (change g e u s).count ≡ s.count
count_stays g e (add_first p c o) is s = refl
count_stays g e (add_last p c o) is s = refl
count_stays g e (erase j) is s = refl
count_stays g e (abolish p) is s = refl
count_stays g e (set_dynamic ps) is s = refl
count_stays g e (set_flag f v) is s = refl
count_stays g e (set_op os) is s = refl
count_stays g e (make_queue n a) is s = absurd is
count_stays g e (drop_queue n) is s = absurd is
count_stays g e (send n t) is s = absurd is
count_stays g e (entries.take j) is s = absurd is
count_stays g e (start n t a) is s = absurd is
count_stays g e (finish how n) is s = absurd is
count_stays g e (join n) is s = absurd is

none_begins : (b : ℕ) (u : Kind) → IsOfDatabase u → begins b u ≡ false
none_begins b (add_first p c o) is = refl
none_begins b (add_last p c o) is = refl
none_begins b (erase j) is = refl
none_begins b (abolish p) is = refl
none_begins b (set_dynamic ps) is = refl
none_begins b (set_flag f v) is = refl
none_begins b (set_op os) is = refl
none_begins b (make_queue n a) is = absurd is
none_begins b (drop_queue n) is = absurd is
none_begins b (send n t) is = absurd is
none_begins b (entries.take j) is = absurd is
none_begins b (start n t a) is = absurd is
none_begins b (finish how n) is = absurd is
none_begins b (join n) is = absurd is

or_false : (d : Bool) → (d || false) ≡ d
or_false true = refl
or_false false = refl

pub database_leaves : (k : View) (q : Held Tree) (count goals e : ℕ) (h : History) (u : Kind) → IsOfDatabase u → IsThreads k q count goals h → IsThreads k q count goals (h ++ record { engine = e; kind = u } ∷ [])
database_leaves k q count goals e h u is stands =
    let x : Entry = record { engine = e; kind = u } in
    let s = state_at goals h (length h) in
    record {
      threads = ap (λ (y : SharedState). y.threads) (newest_after goals h x) ∙ threads_stay (length h) e u is s ∙ stands.threads;
      number = ap (λ (y : SharedState). y.count) (newest_after goals h x) ∙ count_stays (length h) e u is s ∙ stands.number;
      begun = λ b. begun_later b h x ∙ ap (λ d. has_begun h b || d) (none_begins b u is) ∙ or_false (has_begun h b) ∙ stands.begun b;
      waiting = λ n t at. started_later n (said (kept k) t) h x (stands.waiting n t at);
    }

-- OTHER TEXTS
pub readings_leave : (k l : View) (q : Held Tree) (count goals : ℕ) (h : History) → IsSound q → ((t : Tree) → IsWithin t (thread_counts q) → said (kept l) t ≡ said (kept k) t) → IsThreads k q count goals h → IsThreads l q count goals h
readings_leave k l q count goals h sound same stands = stays k l q count goals h sound (λ t inside. same t (λ a. inside (naming a))) stands

-- THE START
opening_at : (goals : ℕ) → state_at goals [] 0 ≡ opening_state goals
unfolding state_at
opening_at goals = refl

one_number : (e : ℕ) → (e == 1) ≡ (((1 == e) || false) || false)
one_number e = eq_sides e 1 (e == 1) (1 == e) refl refl ∙ sym (or_false (1 == e)) ∙ sym (or_false ((1 == e) || false))

pub opening_stands : (k : View) (goals : ℕ) → IsThreads k opening_held (opening_count goals) goals []
opening_stands k goals = record {
  threads = ap (λ (s : SharedState). s.threads) (opening_at goals);
  number = ap (λ (s : SharedState). s.count) (opening_at goals);
  begun = one_number;
  waiting = λ n t at. absurd (let f : None ≡ Some t = at in cc);
}
