-- Engines begin in the order of their numbers.
use Rattle.std.proofs.Common.{◌≡◌, ◌≤◌, ◌<◌, ℕ, zero, suc, List, [], ◌∷◌, ◌++◌, filter, length, Bool, true, false, cond, not, refl, sym, ap, ap₂, subst, ◌∙◌, arith, append-nil, append_assoc}
use Rattle.std.specs.Prelude.{take, nat_le, nat_lt, ◌==◌, ◌||◌, ◌&&◌, if◌then◌else◌}
use Rattle.std.proofs.lemmas.Bool.{false≢true, eq-eqb, eqb-true, le-leb, leb-false, leb-true, ltb-false, ltb-true}
use Rattle.std.proofs.lemmas.List.{length-append, map-append}
use Rattle.pl_term.specs.Variables.{is_in}
use Rattle.pl_term.specs.Tree.{Tree}
use Rattle.pl_model.specs.History.{Entry, History, Kind, begins, has_begun, add_first, add_last, erase, abolish, set_dynamic, set_flag, set_op, make_queue, drop_queue, send, start, finish, join}
use Rattle.pl_model.specs.History as entries
use Rattle.pl_model.specs.SharedState.{SharedState, change, changes, opening_state, state_at}
use Rattle.pl_model.specs.Threads.{counted, opening_count}
use Rattle.pl_history.specs.Fronts.{Life, begun_by}
use Rattle.counted_terms.specs.declared.row.Row.{Row}
use Rattle.counted_terms.specs.declared.row.Row.TheVariants.{Reads, Makes, Waits, NeedsAtoms, Retry, Worn, Memory}
use Rattle.hub_database.proofs.Histories.{state_after}
use Rattle.atom_words.specs.declared.view.View.{View}
use Rattle.hub_threads.specs.Goals.{IsNextGoal}
use Rattle.hub_threads.specs.Held.{Held as HeldThreads}
use Rattle.hub_threads.specs.Rows.{updates_in}
use Rattle.hub_threads.specs.Threads.{IsThreads}
use Rattle.pl_hub.specs.Fronts.{begun_in, idle}
use Rattle.pl_hub.specs.Order.{IsInOrder, Rises, is_goal, numbers_of}
use Rattle.pl_hub.specs.Settling.{entry}

-- WHAT THE HUB'S FRONT HAS SEEN after a row
abbrev pub seen_after : ℕ → Kind → Row → History → History
seen_after e k (Makes r) h = h ++ entry e k ∷ []
seen_after e k _ h = h

-- THE COUNT
counted_by : (n c : ℕ) (b : Bool) → nat_lt n c ≡ b → (c ≤ (if b then c else suc n)) × (n < (if b then c else suc n))
counted_by n c true e = (omega arith, ltb-true n c e)
counted_by n c false e = let m = ltb-false n c e in (omega (arith, m), omega arith)

pub counted_above : (n c : ℕ) → (c ≤ counted n c) × (n < counted n c)
counted_above n c = counted_by n c (nat_lt n c) refl

-- which engine an update begins
pub data Starts (k : Kind) : Type 0 where
  begins_nobody : begun_by k ≡ [] → ((e : ℕ) → begins e k ≡ false) → Starts k
  begins_one : (n : ℕ) → begun_by k ≡ idle n ∷ [] → ((e : ℕ) → begins e k ≡ (n == e)) → ((p e : ℕ) (s : SharedState) → (change p e k s).count ≡ counted n s.count) → Starts k

pub starts : (k : Kind) → Starts k
starts (add_first p c o) = begins_nobody refl (λ e. refl)
starts (add_last p c o) = begins_nobody refl (λ e. refl)
starts (erase j) = begins_nobody refl (λ e. refl)
starts (abolish p) = begins_nobody refl (λ e. refl)
starts (set_dynamic ps) = begins_nobody refl (λ e. refl)
starts (set_flag f v) = begins_nobody refl (λ e. refl)
starts (set_op os) = begins_nobody refl (λ e. refl)
starts (make_queue n a) = begins_nobody refl (λ e. refl)
starts (drop_queue n) = begins_nobody refl (λ e. refl)
starts (send n t) = begins_nobody refl (λ e. refl)
starts (entries.take j) = begins_nobody refl (λ e. refl)
starts (start n t a) = begins_one n refl (λ e. refl) (λ p e s. refl)
starts (finish how steps) = begins_nobody refl (λ e. refl)
starts (join n) = begins_nobody refl (λ e. refl)

pub change_le : (p e : ℕ) (k : Kind) (s : SharedState) → s.count ≤ (change p e k s).count
change_le p e (add_first q c o) s = omega arith
change_le p e (add_last q c o) s = omega arith
change_le p e (erase j) s = omega arith
change_le p e (abolish q) s = omega arith
change_le p e (set_dynamic ps) s = omega arith
change_le p e (set_flag f v) s = omega arith
change_le p e (set_op os) s = omega arith
change_le p e (make_queue n a) s = (counted_above n s.count).0
change_le p e (drop_queue n) s = omega arith
change_le p e (send n t) s = omega arith
change_le p e (entries.take j) s = omega arith
change_le p e (start n t a) s = (counted_above n s.count).0
change_le p e (finish how steps) s = omega arith
change_le p e (join n) s = omega arith

changes_le : (p : ℕ) (xs : List Entry) (s : SharedState) → s.count ≤ (changes p xs s).count
changes_le p [] s = omega arith
changes_le p (x ∷ xs) s = let here = change_le p x.engine x.kind s in let rest = changes_le (suc p) xs (change p x.engine x.kind s) in omega (arith, here, rest)

-- no number is given that is below those of the threads
pub count_high : (goals : ℕ) (h : History) (g : ℕ) → opening_count goals ≤ (state_at goals h g).count
unfolding state_at
count_high goals h g = changes_le zero (take g h) (opening_state goals)

pub count_then : (goals e : ℕ) (k : Kind) (h : History) → (state_at goals (h ++ entry e k ∷ []) (length (h ++ entry e k ∷ []))).count ≡ (change (length h) e k (state_at goals h (length h))).count
count_then goals e k h = ap (λ (s : SharedState). s.count) (state_after goals h (entry e k) (length (h ++ entry e k ∷ [])) (let m = length-append h (entry e k ∷ []) in omega (arith, m)))

-- THE NUMBERS
begun_more : (h more : History) → begun_in (h ++ more) ≡ begun_in h ++ begun_in more
begun_more [] more = refl
begun_more (x ∷ xs) more = ap (λ (ls : List Life). begun_by x.kind ++ ls) (begun_more xs more) ∙ sym (append_assoc (begun_by x.kind) (begun_in xs) (begun_in more))

pub numbers_then : (e : ℕ) (k : Kind) (h : History) → numbers_of (begun_in (h ++ entry e k ∷ [])) ≡ numbers_of (begun_in h) ++ numbers_of (begun_by k)
numbers_then e k h =
    ap (λ (ls : List Life). numbers_of ls) (begun_more h (entry e k ∷ []) ∙ ap (λ (ls : List Life). begun_in h ++ ls) (append-nil (begun_by k)))
    ∙ map-append (λ (l : Life). l.engine) (begun_in h) (begun_by k)

same_or : (x y : Bool) → y ≡ true → (x || y) ≡ true
same_or true y e = refl
same_or false y e = e

-- each of them has begun
pub number_begun : (h : History) (n : ℕ) → is_in n (numbers_of (begun_in h)) ≡ true → has_begun h n ≡ true
number_begun [] n is = absurd (false≢true is)
number_begun (x ∷ xs) n is = go (number_begun xs n) (starts x.kind)
  where
    first : (is_in n (numbers_of (begun_in xs)) ≡ true → has_begun xs n ≡ true) → (m : ℕ) → begins n x.kind ≡ (m == n) → (b : Bool) → (n == m) ≡ b → (b || is_in n (numbers_of (begun_in xs))) ≡ true → has_begun (x ∷ xs) n ≡ true
    first rest m begin true e c = ap (λ b. b || has_begun xs n) (begin ∙ eq-eqb m n (sym (eqb-true n m e)))
    first rest m begin false e c = same_or (begins n x.kind) (has_begun xs n) (rest c)

    go : (is_in n (numbers_of (begun_in xs)) ≡ true → has_begun xs n ≡ true) → Starts x.kind → has_begun (x ∷ xs) n ≡ true
    go rest (begins_nobody empty quiet) = same_or (begins n x.kind) (has_begun xs n) (rest (sym (ap (λ (ls : List Life). is_in n (numbers_of (ls ++ begun_in xs))) empty) ∙ is))
    go rest (begins_one m single begin counts) = first rest m (begin n) (n == m) refl (sym (ap (λ (ls : List Life). is_in n (numbers_of (ls ++ begun_in xs))) single) ∙ is)

-- RISING LISTS
pub rises_wider : (low high above : ℕ) → high ≤ above → (ns : List ℕ) → Rises low high ns → Rises low above ns
rises_wider low high above le [] r = tt
rises_wider low high above le (n ∷ ns) r = (r.0, omega (arith, r.1, le), rises_wider (suc n) high above le ns r.2)

pub rises_then : (low n high : ℕ) → low ≤ n → n < high → (ns : List ℕ) → Rises low n ns → Rises low high (ns ++ n ∷ [])
rises_then low n high le lt [] r = (le, lt, tt)
rises_then low n high le lt (m ∷ ns) r = (r.0, omega (arith, r.1, lt), rises_then (suc m) n high (omega (arith, r.1)) lt ns r.2)

-- those that pass a test and lie below a number
pub rises_below : (test : ℕ → Bool) (low high n : ℕ) (ns : List ℕ) → ((m : ℕ) → is_in m ns ≡ true → test m ≡ true → m < n) → Rises low high (filter test ns) → Rises low n (filter test ns)
rises_below test low high n [] all r = tt
rises_below test low high n (m ∷ ns) all r = go (λ bottom. rises_below test bottom high n ns (λ k is t. all k (same_or (k == m) (is_in k ns) is) t)) (test m) refl r
  where
    go : ((bottom : ℕ) → Rises bottom high (filter test ns) → Rises bottom n (filter test ns)) → (b : Bool) → test m ≡ b
        → Rises low high (cond b (m ∷ filter test ns) (filter test ns)) → Rises low n (cond b (m ∷ filter test ns) (filter test ns))
    go rest true t r = (r.0, all m (ap (λ b. b || is_in m ns) (eq-eqb m m refl)) t, rest (suc m) r.2)
    go rest false t r = rest low r

-- WHICH ENGINES may begin after the history: none, one with the number that comes next, or that of a further goal, where no later one has begun
pub record IsLater (goals n : ℕ) (h : History) : Type 0 where
  pub first : 2 ≤ n
  pub upto : n ≤ goals
  pub unbegun : (m : ℕ) → n ≤ m → m ≤ goals → has_begun h m ≡ false

pub data MayBegin (goals : ℕ) (h : History) (ls : List Life) : Type 0 where
  nobody : ls ≡ [] → MayBegin goals h ls
  a_thread : ls ≡ idle (state_at goals h (length h)).count ∷ [] → MayBegin goals h ls
  further_goal : (n : ℕ) → IsLater goals n h → ls ≡ idle n ∷ [] → MayBegin goals h ls

-- so it is where the row makes an update
abbrev pub Begins : ℕ → History → List Life → Row → Type 0
Begins goals h ls (Makes r) = MayBegin goals h ls
Begins goals h ls _ = Unit {0}

one_filtered : (test : ℕ → Bool) (ns : List ℕ) (n : ℕ) (b : Bool) → test n ≡ b → filter test (ns ++ n ∷ []) ≡ filter test ns ++ cond b (n ∷ []) []
one_filtered test [] n b e = ap (λ c. cond c (n ∷ []) []) e
one_filtered test (m ∷ ns) n b e = go (one_filtered test ns n b e) (test m)
  where
    go : filter test (ns ++ n ∷ []) ≡ filter test ns ++ cond b (n ∷ []) [] → (c : Bool)
        → cond c (m ∷ filter test (ns ++ n ∷ [])) (filter test (ns ++ n ∷ [])) ≡ cond c (m ∷ filter test ns) (filter test ns) ++ cond b (n ∷ []) []
    go rest true = ap (λ (l : List ℕ). m ∷ l) rest
    go rest false = rest

some_goal : (goals : ℕ) → goals < opening_count goals
some_goal goals = go (goals == 0) refl
  where
    go : (b : Bool) → (goals == 0) ≡ b → goals < (if b then 2 else suc goals)
    go true e = let none = eqb-true goals 0 e in omega (arith, none)
    go false e = omega arith

no_goal : (goals n : ℕ) → goals < n → is_goal goals n ≡ false
no_goal goals n lt = go (nat_le 2 n) (nat_le n goals) refl
  where
    go : (a b : Bool) → nat_le n goals ≡ b → (a && b) ≡ false
    go a true e = let le = leb-true n goals e in absurd (omega (arith, le, lt))
    go true false e = refl
    go false false e = refl

a_goal : (goals n : ℕ) → 2 ≤ n → n ≤ goals → is_goal goals n ≡ true
a_goal goals n low high = ap₂ (λ (a b : Bool). a && b) (le-leb 2 n low) (le-leb n goals high)

goal_low : (goals n : ℕ) → is_goal goals n ≡ true → n ≤ goals
goal_low goals n is = go (nat_le 2 n) (nat_le n goals) refl is
  where
    go : (a b : Bool) → nat_le n goals ≡ b → (a && b) ≡ true → n ≤ goals
    go a true e t = leb-true n goals e
    go true false e t = absurd (false≢true t)
    go false false e t = absurd (false≢true t)

abbrev first_number : List Life → ℕ
first_number [] = 0
first_number (l ∷ ls) = l.engine

none_single : (n : ℕ) → [] ≡ idle n ∷ [] → ⊥
none_single n e = cc

module _ (goals e : ℕ) (k : Kind) (h : History) (was : IsInOrder goals h) where
  abbrev now : History
  now = h ++ entry e k ∷ []

  abbrev numbers : List ℕ
  numbers = numbers_of (begun_in h)

  abbrev further : List ℕ → List ℕ
  further ns = filter (is_goal goals) ns

  abbrev threads : List ℕ → List ℕ
  threads ns = filter (λ n. not (is_goal goals n)) ns

  abbrev count : ℕ
  count = (state_at goals h (length h)).count

  abbrev count_now : ℕ
  count_now = (state_at goals now (length now)).count

  count_more : count ≤ count_now
  count_more = let le = change_le (length h) e k (state_at goals h (length h)) in let same = count_then goals e k h in omega (arith, le, same)

  counts_one : (n : ℕ) → begun_by k ≡ idle n ∷ [] → n < count_now
  counts_one n is = go (starts k)
    where
      go : Starts k → n < count_now
      go (begins_nobody empty quiet) = absurd (none_single n (sym empty ∙ is))
      go (begins_one m single begin counts) =
          let same : m ≡ n = ap first_number (sym single ∙ is) in
          let above = (counted_above m count).1 in
          let now_is : count_now ≡ counted m count = count_then goals e k h ∙ counts (length h) e (state_at goals h (length h)) in
          omega (arith, same, above, now_is)

  -- NOBODY begins
  pub nobody_order : begun_by k ≡ [] → IsInOrder goals now
  nobody_order is =
      let same : numbers_of (begun_in now) ≡ numbers = numbers_then e k h ∙ ap (λ (ls : List Life). numbers ++ numbers_of ls) is ∙ append-nil numbers in
      record {
        goals_rise = subst (λ (ns : List ℕ). Rises 2 (suc goals) (further ns)) (sym same) was.goals_rise;
        threads_rise = subst (λ (ns : List ℕ). Rises (opening_count goals) count_now (threads ns)) (sym same) (rises_wider (opening_count goals) count count_now count_more (threads numbers) was.threads_rise);
      }

  one_more : (n : ℕ) → begun_by k ≡ idle n ∷ [] → numbers_of (begun_in now) ≡ numbers ++ n ∷ []
  one_more n is = numbers_then e k h ∙ ap (λ (ls : List Life). numbers ++ numbers_of ls) is

  -- A THREAD begins
  pub thread_order : begun_by k ≡ idle count ∷ [] → IsInOrder goals now
  thread_order is =
      let high = count_high goals h (length h) in
      let above = some_goal goals in
      let other : is_goal goals count ≡ false = no_goal goals count (omega (arith, high, above)) in
      record {
        goals_rise = subst (λ (ns : List ℕ). Rises 2 (suc goals) (further ns)) (sym (one_more count is))
            (subst (λ (ns : List ℕ). Rises 2 (suc goals) ns) (sym (one_filtered (is_goal goals) numbers count false other ∙ append-nil (further numbers))) was.goals_rise);
        threads_rise = subst (λ (ns : List ℕ). Rises (opening_count goals) count_now (threads ns)) (sym (one_more count is))
            (subst (λ (ns : List ℕ). Rises (opening_count goals) count_now ns) (sym (one_filtered (λ n. not (is_goal goals n)) numbers count true (ap not other)))
            (rises_then (opening_count goals) count count_now high (counts_one count is) (threads numbers) was.threads_rise));
      }

  -- A GOAL begins
  pub goal_order : (n : ℕ) → IsLater goals n h → begun_by k ≡ idle n ∷ [] → IsInOrder goals now
  goal_order n later is =
      let here : is_goal goals n ≡ true = a_goal goals n later.first later.upto in
      record {
        goals_rise = subst (λ (ns : List ℕ). Rises 2 (suc goals) (further ns)) (sym (one_more n is))
            (subst (λ (ns : List ℕ). Rises 2 (suc goals) ns) (sym (one_filtered (is_goal goals) numbers n true here))
            (rises_then 2 n (suc goals) later.first (let le = later.upto in omega (arith, le)) (further numbers)
            (rises_below (is_goal goals) 2 (suc goals) n numbers earlier was.goals_rise)));
        threads_rise = subst (λ (ns : List ℕ). Rises (opening_count goals) count_now (threads ns)) (sym (one_more n is))
            (subst (λ (ns : List ℕ). Rises (opening_count goals) count_now ns) (sym (one_filtered (λ n. not (is_goal goals n)) numbers n false (ap not here) ∙ append-nil (threads numbers)))
            (rises_wider (opening_count goals) count count_now count_more (threads numbers) was.threads_rise));
      }
    where
      earlier : (m : ℕ) → is_in m numbers ≡ true → is_goal goals m ≡ true → m < n
      earlier m among t = go (nat_le n m) refl
        where
          go : (b : Bool) → nat_le n m ≡ b → m < n
          go true le = absurd (false≢true (sym (later.unbegun m (leb-true n m le) (goal_low goals m t)) ∙ number_begun h m among))
          go false le = let lt = leb-false n m le in omega (arith, lt)

  pub order_then : (ls : List Life) → MayBegin goals h ls → begun_by k ≡ ls → IsInOrder goals now
  order_then ls (nobody same) is = nobody_order (is ∙ same)
  order_then ls (a_thread same) is = thread_order (is ∙ same)
  order_then ls (further_goal n later same) is = goal_order n later (is ∙ same)

-- a row that makes no update begins nobody
pub reads_begin : (goals : ℕ) (h : History) (ls : List Life) (row : Row) → updates_in row ≡ 0 → Begins goals h ls row
reads_begin goals h ls (Reads r) reads = tt
reads_begin goals h ls (Makes r) reads = absurd (cc)
reads_begin goals h ls (Waits on) reads = tt
reads_begin goals h ls (NeedsAtoms p) reads = tt
reads_begin goals h ls (Retry c) reads = tt
reads_begin goals h ls (Worn w) reads = tt
reads_begin goals h ls Memory reads = tt

pub quiet_begins : (goals : ℕ) (h : History) (row : Row) → Begins goals h [] row
quiet_begins goals h (Reads r) = tt
quiet_begins goals h (Makes r) = nobody refl
quiet_begins goals h (Waits on) = tt
quiet_begins goals h (NeedsAtoms p) = tt
quiet_begins goals h (Retry c) = tt
quiet_begins goals h (Worn w) = tt
quiet_begins goals h Memory = tt

pub thread_begins : (goals : ℕ) (h : History) (n : ℕ) → n ≡ (state_at goals h (length h)).count → (row : Row) → Begins goals h (idle n ∷ []) row
thread_begins goals h n is (Reads r) = tt
thread_begins goals h n is (Makes r) = a_thread (ap (λ (i : ℕ). idle i ∷ []) is)
thread_begins goals h n is (Waits on) = tt
thread_begins goals h n is (NeedsAtoms p) = tt
thread_begins goals h n is (Retry c) = tt
thread_begins goals h n is (Worn w) = tt
thread_begins goals h n is Memory = tt

pub goal_begins : (goals : ℕ) (h : History) (n : ℕ) (row : Row) → (updates_in row ≡ 1 → IsLater goals n h) → Begins goals h (idle n ∷ []) row
goal_begins goals h n (Reads r) later = tt
goal_begins goals h n (Makes r) later = further_goal n (later refl) refl
goal_begins goals h n (Waits on) later = tt
goal_begins goals h n (NeedsAtoms p) later = tt
goal_begins goals h n (Retry c) later = tt
goal_begins goals h n (Worn w) later = tt
goal_begins goals h n Memory later = tt

-- what queues and threads tell of it
pub later_goal : (k : View) (q : HeldThreads Tree) (c goals n : ℕ) (h : History) → IsThreads k q c goals h → IsNextGoal goals n q → IsLater goals n h
later_goal k q c goals n h stands next = record {
  first = next.first;
  upto = next.upto;
  unbegun = λ m above below. stands.begun m ∙ ap₂ (λ (a b : Bool). a || b) (next.begun m above below) (next.joined m above below);
}

-- THE HISTORY after a row
pub order_kept : (goals e : ℕ) (k : Kind) (h : History) → begun_by k ≡ [] → IsInOrder goals h → (row : Row) → IsInOrder goals (seen_after e k row h)
order_kept goals e k h quiet was (Reads r) = was
order_kept goals e k h quiet was (Makes r) = nobody_order goals e k h was quiet
order_kept goals e k h quiet was (Waits on) = was
order_kept goals e k h quiet was (NeedsAtoms p) = was
order_kept goals e k h quiet was (Retry c) = was
order_kept goals e k h quiet was (Worn w) = was
order_kept goals e k h quiet was Memory = was
