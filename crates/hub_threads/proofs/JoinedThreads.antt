-- A thread is joined.
use Rattle.std.proofs.Common.{◌≡◌, ◌<◌, ◌≤◌, ℕ, ◌+◌, List, [], ◌∷◌, ◌++◌, filter, find, length, Option, Some, None, Bool, true, false, refl, sym, ap, subst, ◌∙◌, arith, codes, eqb-true, inl, inr}
use Rattle.std.specs.Prelude.{◌^◌, ◌||◌, ◌==◌, cond, is_some, not, option_and_then, option_map, if◌then◌else◌}
use Rattle.std.proofs.lemmas.Bool.{cases_eq, ne_eqb}
use Rattle.std.proofs.lemmas.Option.{same_Some}
use Rattle.pl_term.specs.Tree.{Tree}
use Rattle.pl_term.specs.Variables.{is_in}
use Rattle.pl_model.specs.declared.threads.Name.{Name as SharedName}
use Rattle.pl_model.specs.declared.threads.Status.{Status}
use Rattle.pl_model.specs.declared.threads.Thread.{Thread}
use Rattle.pl_model.specs.ErrorTerms.{existence_error, permission_error, resource_error}
use Rattle.pl_model.specs.History.{Entry, History, join}
use Rattle.pl_model.specs.Requests.{join_thread, status}
use Rattle.pl_model.specs.Service.{Served, answers, ended, joined, name_of, refuses, serve, served_now, status_term, thread_for, waits}
use Rattle.pl_model.specs.SharedState.{state_at}
use Rattle.pl_model.specs.declared.threads.On.TheVariants.{Thread as OnThread}
use Rattle.pl_model.specs.Threads.{Threads, is_thread, number_of, thread_joined, thread_named, thread_numbered}
use Rattle.atom_api.specs.Names.{Names}
use Rattle.atom_words.specs.declared.view.View.{View}
use Rattle.world_api.specs.declared.answer.On.TheVariants.{Queue as WaitsQueue, Thread as WaitsThread}
use Rattle.world_api.specs.declared.reply.Reply.TheVariants.{Status as Ended}
use Rattle.counted_terms.specs.CountedTerms.{IsCounted, naming, said}
use Rattle.counted_terms.specs.Keeping.{kept, tally}
use Rattle.counted_terms.specs.Sharing.{Counts, Restored}
use Rattle.counted_terms.proofs.Sharing.{restored_wider}
use Rattle.counted_terms.specs.declared.row.Row.{Row}
use Rattle.counted_terms.specs.declared.row.Row.TheVariants.{Reads, Makes, Waits, NeedsAtoms, Retry, Worn, Memory}
use Rattle.hub_threads.specs.Distinct.{has_number}
use Rattle.hub_threads.specs.Finding.{HasEnded, known, status_named}
use Rattle.hub_threads.specs.Held.{Held, IsSound, left_by_join, thread_numbers}
use Rattle.hub_threads.specs.Rows.{Changed, Decides, WaitsOnThread}
use Rattle.hub_threads.specs.Serving.{no_thread, status_as, thread_as, threads_as}
use Rattle.hub_threads.specs.Threads.{IsThreads, thread_counts}
use Rattle.hub_threads.specs.Weights.{IsBelow, weigh, weigh_how, weigh_status}
use Rattle.hub_threads.proofs.Below.{stays_below}
use Rattle.hub_threads.proofs.Forgotten.{less_counted, less_restores}
use Rattle.hub_threads.proofs.Free.{any_number}
use Rattle.hub_threads.proofs.Located.{key_is}
use Rattle.hub_threads.proofs.Numbers.{eq_same}
use Rattle.hub_threads.proofs.RefusedRows.{updates_made, updates_refused}
use Rattle.hub_threads.proofs.Searched.{some_any}
use Rattle.hub_threads.proofs.Served.{all_changes, served, thread_by}
use Rattle.hub_threads.proofs.Steps.{goals_stay, moves_on, stays}
use Rattle.hub_threads.proofs.Weighing.{keeps_all}

-- WHAT IS FOUND
by_number : (t : Threads Tree) (o : Option ℕ) (h : Thread Tree) → option_and_then (thread_numbered t) o ≡ Some h → thread_numbered t h.number ≡ Some h
by_number t None h e = absurd (cc)
by_number t (Some n) h e = ap (thread_numbered t) (key_is (λ (y : Thread Tree). y.number) n t.threads h e) ∙ e

pub numbered_thread : (t : Threads Tree) (name : SharedName) (h : Thread Tree) → thread_named t name ≡ Some h → thread_numbered t h.number ≡ Some h
numbered_thread t name h e = by_number t (number_of t name) h e

pub record Knows (o : Option (Thread Tree)) (n : ℕ) (b : Bool) : Type 0 where
  pub thread : Thread Tree
  pub found : o ≡ Some thread
  pub number : thread.number ≡ n
  pub ended : is_some thread.status ≡ b

knows_of : (o : Option (Thread Tree)) (p : ℕ × Bool) → option_map (λ (h : Thread Tree). (h.number, is_some h.status)) o ≡ Some p → Knows o p.0 p.1
knows_of None p e = absurd (let f : None ≡ Some p = e in cc)
knows_of (Some h) p e = record { thread = h; found = refl; number = ap (λ (z : ℕ × Bool). z.0) (same_Some _ _ e); ended = ap (λ (z : ℕ × Bool). z.1) (same_Some _ _ e) }

pub knows : (s : Threads Tree) (name : SharedName) (n : ℕ) (b : Bool) → known s name ≡ Some (n, b) → Knows (thread_named s name) n b
knows s name n b e = knows_of (thread_named s name) (n, b) e

none_of : {X : Type 0} (o : Option X) → is_some o ≡ false → o ≡ None
none_of None e = refl
none_of (Some x) e = absurd (let f : true ≡ false = e in cc)

some_in : {X : Type 0} (o : Option X) → is_some o ≡ true → (x : X) × (o ≡ Some x)
some_in None e = absurd (let f : false ≡ true = e in cc)
some_in (Some x) e = (x, refl)

pub runs_still : (h : Thread Tree) → is_some h.status ≡ false → h.status ≡ None
runs_still h e = none_of h.status e

pub has_ended : (s : Threads Tree) (name : SharedName) (n e : ℕ) → known s name ≡ Some (n, true) → (n == e) ≡ false → HasEnded s name e
has_ended s name n e is other =
    let k = knows s name n true is in
    let x = some_in k.thread.status k.ended in
    record { thread = k.thread; status = x.0; found = k.found; ended = x.1; other = ap (λ m. m == e) k.number ∙ other }

pub ended_so : (s : Threads Tree) (name : SharedName) (e : ℕ) → (there : HasEnded s name e) → status_named s name ≡ Some there.status
ended_so s name e there = ap (option_and_then (λ (h : Thread Tree). h.status)) there.found ∙ there.ended

-- WHAT THE STATE ANSWERS
thread_none : (term : Tree → Tree) (t : Threads Tree) (w : Threads Tree) (x : Tree) (o : Option SharedName) → w ≡ threads_as term t → name_of x ≡ o → option_and_then (thread_named t) o ≡ None → thread_for w x ≡ None
thread_none term t w x None is e none = ap (option_and_then (thread_named w)) e
thread_none term t w x (Some n) is e none = thread_by term t w x n is e ∙ ap (option_map (thread_as term)) none

pub join_missing : (k : View) (q : Held Tree) (count goals : ℕ) (h : History) → IsThreads k q count goals h → (e : ℕ) (y : Tree) → option_and_then (thread_named q.state) (name_of y) ≡ None
    → served_now e goals h (join_thread y) ≡ refuses (existence_error (codes "thread") y)
unfolding serve
join_missing k q count goals h stands e y none =
    ap (joined e (length h) y) (thread_none (said (kept k)) q.state (state_at goals h (length h)).threads y (name_of y) stands.threads refl none)

module _ (k : View) (q : Held Tree) (count goals : ℕ) (h : History) (stands : IsThreads k q count goals h) (e : ℕ) (y : Tree) (name : SharedName) (named : name_of y ≡ Some name) (x : Thread Tree) (there : thread_named q.state name ≡ Some x) where
  abbrev own : Served
  own = refuses (permission_error (codes "join") (codes "thread") y)

  abbrev term : Tree → Tree
  term t = said (kept k) t

  joins : served_now e goals h (join_thread y) ≡ (if x.number == e then own else ended (length h) x.number (option_map (status_as term) x.status))
  joins = (served term q.state (state_at goals h (length h)) stands.threads).joins e (length h) y name named
      ∙ ap (λ (o : Option (Thread Tree)). elim o [ None ↦ no_thread y | Some z ↦ if z.number == e then own else ended (length h) z.number (option_map (status_as term) z.status) ]) there

  pub join_own : (x.number == e) ≡ true → served_now e goals h (join_thread y) ≡ own
  join_own is = joins ∙ ap (λ b. if b then own else ended (length h) x.number (option_map (status_as term) x.status)) is

  module _ (other : (x.number == e) ≡ false) where
    by_status : (o : Option (Status Tree)) → x.status ≡ o → served_now e goals h (join_thread y) ≡ ended (length h) x.number (option_map (status_as term) o)
    by_status o is =
        joins
        ∙ ap (λ b. if b then own else ended (length h) x.number (option_map (status_as term) x.status)) other
        ∙ ap (λ z. ended (length h) x.number (option_map (status_as term) z)) is

    pub join_waits : x.status ≡ None → served_now e goals h (join_thread y) ≡ waits
    join_waits none = by_status None none

    module _ (s : Status Tree) (has : x.status ≡ Some s) where
      pub join_worn : 2 ^ 47 ≤ length h → served_now e goals h (join_thread y) ≡ refuses (resource_error (codes "generations"))
      join_worn high = by_status (Some s) has ∙ updates_refused (length h) (status (status_term (status_as term s))) (join x.number) high

      pub join_joins : length h < 2 ^ 47 → served_now e goals h (join_thread y) ≡ answers (status (status_term (status_as term s))) (Some (join x.number))
      join_joins low = by_status (Some s) has ∙ updates_made (length h) (status (status_term (status_as term s))) (join x.number) low

-- THE ENGINE WAITS
module _ (l : View) (n : Names) (e : ℕ) (q : Held Tree) (count goals : ℕ) (h : History) (y : Tree) (name : SharedName) (named : name_of y ≡ Some name) (waiting : served_now e goals h (join_thread y) ≡ waits) (stands : IsThreads l q count goals h) where
  pub waits_for : (row : Row) → WaitsOnThread n name row → Decides l n e (join_thread y) q count goals h row
  waits_for (Waits (WaitsThread x)) says = (record { waiting = waiting; awaits = ap (option_map OnThread) named ∙ ap (λ z. Some (OnThread z)) (sym says) }, stands)
  waits_for (Waits (WaitsQueue x)) says = absurd says
  waits_for (Reads r) says = absurd says
  waits_for (Makes r) says = absurd says
  waits_for (NeedsAtoms c) says = absurd says
  waits_for (Retry c) says = absurd says
  waits_for (Worn w) says = absurd says
  waits_for Memory says = stands

-- THE NUMBER GOES from the threads to those that were joined
other_by : (b : Bool) (x : Thread Tree) (n c : ℕ) (hs fs : List (Thread Tree)) → (x.number == n) ≡ b → (n == c) ≡ false → has_number c (thread_numbers fs) ≡ has_number c (thread_numbers hs)
    → has_number c (thread_numbers (cond (not b) (x ∷ fs) fs)) ≡ ((x.number == c) || has_number c (thread_numbers hs))
other_by true x n c hs fs is other rest = rest ∙ ap (λ d. d || has_number c (thread_numbers hs)) (sym (ap (λ m. m == c) (eqb-true x.number n is) ∙ other))
other_by false x n c hs fs is other rest = ap (λ d. (x.number == c) || d) rest

other_numbers : (n c : ℕ) → (n == c) ≡ false → (hs : List (Thread Tree)) → has_number c (thread_numbers (filter (λ y. not (is_thread n y)) hs)) ≡ has_number c (thread_numbers hs)
other_numbers n c other [] = refl
other_numbers n c other (x ∷ hs) = other_by (x.number == n) x n c hs (filter (λ y. not (is_thread n y)) hs) refl other (other_numbers n c other hs)

other_joined : (n c : ℕ) → (c == n) ≡ false → (js : List ℕ) → is_in c (js ++ n ∷ []) ≡ is_in c js
other_joined n c other [] = ap (λ d. d || false) other
other_joined n c other (j ∷ js) = ap (λ d. (c == j) || d) (other_joined n c other js)

or_true : (d : Bool) → (d || true) ≡ true
or_true true = refl
or_true false = refl

or_false : (d : Bool) → (d || false) ≡ d
or_false true = refl
or_false false = refl

last_joined : (n : ℕ) (js : List ℕ) → is_in n (js ++ n ∷ []) ≡ true
last_joined n [] = ap (λ d. d || false) (eq_same n)
last_joined n (j ∷ js) = ap (λ d. (n == j) || d) (last_joined n js) ∙ or_true (n == j)

-- which engines have begun
joined_begun : (n : ℕ) (hs : List (Thread Tree)) (js : List ℕ) (x : Thread Tree) → find (is_thread n) hs ≡ Some x → (b : ℕ)
    → ((has_number b (thread_numbers hs) || is_in b js) || false) ≡ (has_number b (thread_numbers (filter (λ y. not (is_thread n y)) hs)) || is_in b (js ++ n ∷ []))
joined_begun n hs js x e b = elim (cases_eq b n) [
  | inl is ↦
      ap (λ (m : ℕ). (has_number m (thread_numbers hs) || is_in m js) || false) is
      ∙ ap (λ d. (d || is_in n js) || false) (sym (any_number (λ (y : Thread Tree). y.number) n hs) ∙ some_any (is_thread n) hs x e)
      ∙ sym (ap (λ d. has_number n (thread_numbers (filter (λ y. not (is_thread n y)) hs)) || d) (last_joined n js) ∙ or_true (has_number n (thread_numbers (filter (λ y. not (is_thread n y)) hs))))
      ∙ ap (λ (m : ℕ). has_number m (thread_numbers (filter (λ y. not (is_thread n y)) hs)) || is_in m (js ++ n ∷ [])) (sym is)
  | inr ne ↦
      or_false (has_number b (thread_numbers hs) || is_in b js)
      ∙ ap (λ d. d || is_in b js) (sym (other_numbers n b (ne_eqb n b (λ (q : n ≡ b). ne (sym q))) hs))
      ∙ ap (λ d. has_number b (thread_numbers (filter (λ y. not (is_thread n y)) hs)) || d) (sym (other_joined n b (ne_eqb b n ne) js))
]

-- WHAT IS LEFT
module _ (q r : Held Tree) (x : Thread Tree) (s : Status Tree) (sound : IsSound q) (numbered_so : thread_numbered q.state x.number ≡ Some x) (has : x.status ≡ Some s) (left : r ≡ left_by_join x.number x.status q) where
  abbrev after : Held Tree
  after = record q { state = thread_joined x.number q.state }

  left_so : r ≡ after
  left_so = left ∙ ap (λ (o : Option (Status Tree)). left_by_join x.number o q) has

  abbrev less : ℕ → ℕ
  less a = weigh_how (naming a) s

  pub joined_weighs : (a : ℕ) → thread_counts q a ≡ less a + thread_counts r a
  joined_weighs a =
      (keeps_all (naming a) q sound).joined x.number x numbered_so
      ∙ ap (λ (o : Option (Status Tree)). weigh_status (naming a) o + weigh (naming a) after) has
      ∙ ap (λ z. less a + weigh (naming a) z) (sym left_so)

  -- its term is counted
  pub joined_counted : (k : View) (g : ℕ) → Counts (thread_counts q) k g → (a : ℕ) → 0 < less a → 0 < tally k a
  joined_counted k g counts a some_ = let w = joined_weighs a in let e = counts.exact a in let p = some_ in omega (arith, w, e, p)

  pub joined_below : (count g : ℕ) → IsBelow count g q → IsBelow count (g + 1) r
  joined_below count g below = subst (IsBelow count (g + 1)) (sym left_so)
      ((stays_below count g after ((stays_below count g q below).joined x.number x numbered_so)).later count (g + 1) (omega arith) (omega arith))

  module _ (k l : View) (g : ℕ) (others : (u : Tree) → IsCounted u l → said (kept l) u ≡ said (kept k) u) (counts : (a : ℕ) → less a + tally l a ≡ tally k a) where
    pub joined_restores : Restored (thread_counts q) (thread_counts r) k l g (g + 1)
    joined_restores =
        restored_wider (thread_counts q) (thread_counts r) k l g g (g + 1)
        (less_restores (thread_counts q) (thread_counts r) less k l g joined_weighs others counts)
        (omega arith)

    joined_stands : Counts (thread_counts q) k g → (e count goals : ℕ) (h : History) → IsSound r → IsThreads k q count goals h
        → IsThreads l r count goals (h ++ record { engine = e; kind = join x.number } ∷ [])
    joined_stands exact e count goals h sound_after stands =
        let u = join x.number in
        let x₁ : Entry = record { engine = e; kind = u } in
        stays k l r count goals (h ++ x₁ ∷ []) sound_after (λ t inside. others t (less_counted k l q r less exact.rest exact.exact joined_weighs counts t inside))
        (subst (λ (z : Held Tree). IsThreads k z count goals (h ++ x₁ ∷ [])) (sym left_so)
        (moves_on k k q count goals h sound (λ t inside. refl) stands e u (thread_joined x.number) (λ c. c) after
        (λ z. refl)
        (λ z. refl)
        (sym ((all_changes (said (kept k)) q.state).joined x.number))
        (λ b. joined_begun x.number q.state.threads q.state.joined x numbered_so b)
        (goals_stay k k q count goals h sound (λ t inside. refl) stands e u (thread_joined x.number) (λ c. c) after x₁ (λ b. refl))))

    pub join_changes : Counts (thread_counts q) k g → (n : Names) (e count goals : ℕ) (h : History) (y made : Tree) (name : SharedName)
        → IsSound r
        → g < 2 ^ 47
        → length h ≡ g
        → IsThreads k q count goals h
        → name_of y ≡ Some name
        → thread_named q.state name ≡ Some x
        → (x.number == e) ≡ false
        → said n made ≡ status_term (status_as (said (kept k)) s)
        → Changed l n e (join_thread y) r count goals h (Ended made)
    join_changes exact n e count goals h y made name sound_after low long stands named there other says = record {
      update = join x.number;
      answers = record {
        reply = status (status_term (status_as (said (kept k)) s));
        serves = join_joins k q count goals h stands e y name named x there other s has (let a = long in let b = low in omega (arith, a, b));
        says = ap status (sym says);
      };
      stands = joined_stands exact e count goals h sound_after stands;
      fresh = λ b f. absurd (cc);
    }
