-- What is shared stays the state after the history, as one part of it answers and changes.
use Rattle.std.proofs.Common.{◌≡◌, ◌≢◌, ◌≤◌, ◌<◌, ℕ, ◌+◌, List, [], ◌∷◌, ◌++◌, map, Bool, true, false, length, Option, Some, refl, sym, ap, subst, ◌∙◌, arith, append-nil}
use Rattle.std.specs.Prelude.{◌^◌, ◌||◌}
use Rattle.std.proofs.lemmas.Bool.{false≢true}
use Rattle.std.proofs.lemmas.List.{length-append, map-append}
use Rattle.atomic_table.specs.Seated.{TableId}
use Rattle.pl_term.specs.Tree.{Chars, Tree}
use Rattle.pl_model.specs.History.{Entry, History, Kind, begins, has_begun, is_end, add_first, add_last, erase, abolish, set_dynamic, set_flag, set_op, make_queue, drop_queue, send, start, finish, join}
use Rattle.pl_model.specs.History as entries
use Rattle.pl_model.specs.Requests.{Request}
use Rattle.pl_model.specs.SharedState.{SharedState, change, state_at}
use Rattle.atom_api.specs.Names.{Names}
use Rattle.atom_words.specs.declared.size.Size.{Size}
use Rattle.atom_words.specs.declared.view.View.{View}
use Rattle.atom_table.specs.declared.seats.Keeper.{Keeper}
use Rattle.clause_db.specs.Parts.{Held as HeldClauses}
use Rattle.hub_threads.specs.Goals.{begun_after}
use Rattle.hub_threads.specs.Held.{Held as HeldThreads, IsSound, goal_numbers}
use Rattle.hub_threads.specs.Weights.{IsBelow}
use Rattle.pl_history.specs.Fronts.{FrontState, Life, begun_by}
use Rattle.world_api.specs.declared.reply.Reply.{Reply}
use Rattle.world_api.specs.Texts.{text_of}
use Rattle.counted_terms.specs.CountedTerms.{naming, said}
use Rattle.counted_terms.specs.Keeping.{KeeperAt, keeper_view, kept}
use Rattle.counted_terms.specs.Sharing.{IsFew, IsWithin, Restored, Sums}
use Rattle.counted_terms.specs.declared.row.Row.{Row}
use Rattle.counted_terms.specs.declared.row.Row.TheVariants.{Reads, Makes, Waits, NeedsAtoms, Retry, Worn, Memory}
use Rattle.counted_terms.specs.Rows.{Answers}
use Rattle.counted_terms.proofs.Sharing.{swapped}
use Rattle.hub_database.specs.Database.{IsDatabase, IsElsewhere, IsUpTo, clause_counts, databases}
use Rattle.hub_database.specs.Rows.{Decides as DatabaseDecides, IsReplyOrMade, IsSteady, Tells, generation_after, history_after}
use Rattle.hub_database.proofs.Elsewhere.{database_elsewhere}
use Rattle.hub_database.proofs.Readings.{says_carried}
use Rattle.hub_threads.specs.Rows.{Changed, Decides as ThreadsDecide, updates_in}
use Rattle.hub_threads.specs.Threads.{IsThreads, thread_counts}
use Rattle.hub_threads.proofs.Steps.{moves_on, goals_stay, stays}
use Rattle.pl_hub.specs.Called.{Called, called_by, called_in, lives_of}
use Rattle.pl_hub.specs.Fronts.{idle}
use Rattle.pl_hub.specs.Settling.{CanMake, CanSettle, Meets, entry, hub_after, kind_of}
use Rattle.pl_hub.specs.State.{IsShared}
use Rattle.pl_hub.specs.Order.{IsInOrder}
use Rattle.pl_hub.proofs.Calling.{begun_called, called_then, calls_after, calls_kept}
use Rattle.pl_hub.proofs.Order.{Begins, order_kept, order_then, seen_after}
use Rattle.pl_hub.proofs.Serving.{IsOfThreads, calls_in, kind_is, made_beside, made_plain, starts_in}

pub after_seen : (e : ℕ) (k : Kind) (row : Row) (f : FrontState) → (hub_after e k row f).seen ≡ seen_after e k row f.seen
after_seen e k (Reads r) f = refl
after_seen e k (Makes r) f = refl
after_seen e k (Waits on) f = refl
after_seen e k (NeedsAtoms p) f = refl
after_seen e k (Retry c) f = refl
after_seen e k (Worn w) f = refl
after_seen e k Memory f = refl

pub after_table : (e : ℕ) (k : Kind) (row : Row) (f : FrontState) → (hub_after e k row f).table ≡ f.table
after_table e k (Reads r) f = refl
after_table e k (Makes r) f = refl
after_table e k (Waits on) f = refl
after_table e k (NeedsAtoms p) f = refl
after_table e k (Retry c) f = refl
after_table e k (Worn w) f = refl
after_table e k Memory f = refl

plus_none : (n : ℕ) → n ≡ n + 0
plus_none n = omega arith

pub after_length : (e : ℕ) (k : Kind) (row : Row) (h : History) → length (seen_after e k row h) ≡ length h + updates_in row
after_length e k (Reads r) h = plus_none (length h)
after_length e k (Makes r) h = length-append h (entry e k ∷ [])
after_length e k (Waits on) h = plus_none (length h)
after_length e k (NeedsAtoms p) h = plus_none (length h)
after_length e k (Retry c) h = plus_none (length h)
after_length e k (Worn w) h = plus_none (length h)
after_length e k Memory h = plus_none (length h)

pub generation_is : (row : Row) (g : ℕ) → generation_after row g ≡ g + updates_in row
generation_is (Reads r) g = plus_none g
generation_is (Makes r) g = omega arith
generation_is (Waits on) g = plus_none g
generation_is (NeedsAtoms p) g = plus_none g
generation_is (Retry c) g = plus_none g
generation_is (Worn w) g = plus_none g
generation_is Memory g = plus_none g

-- THE DATABASE BESIDE A PART THAT CHANGED
pub database_carried : (k l : View) (db : HeldClauses Tree) (goals : ℕ) (h : History)
    → ((t : Tree) → IsWithin t (clause_counts db) → said (kept l) t ≡ said (kept k) t)
    → IsDatabase k db goals h → IsDatabase l db goals h
database_carried k l db goals h same was = record {
  says = says_carried k l db (databases goals h) same was.says;
  flags = was.flags;
  operators = was.operators;
  open_only = was.open_only;
}

upto_later : (n m : ℕ) (db : HeldClauses Tree) → n ≤ m → IsUpTo n db → IsUpTo m db
upto_later n m db le was = record { next = let a = was.next in omega arith; floor = let a = was.floor in omega arith }

-- AN UPDATE OF QUEUES AND THREADS is the one that is picked
module _ (l : View) (m : Names) (e : ℕ) (request : Request) (r : HeldThreads Tree) (d goals : ℕ) (h : History) (of : IsOfThreads request) (reply : Reply Tree)
    (changed : Changed l m e request r d goals h reply) where
  abbrev picked : Kind
  picked = kind_of e goals h request

  update_is : changed.update ≡ picked
  update_is = kind_is e goals h request changed.answers.reply changed.update changed.answers.serves

  beside : (length h < 2 ^ 47) × (is_end changed.update ≡ false) × IsElsewhere changed.update × (called_by changed.update ≡ calls_in request (state_at goals h (length h)))
  beside = made_beside e goals h request of changed.answers.reply changed.update changed.answers.serves

  pub can_make : CanMake picked h
  can_make = subst (λ (k : Kind). CanMake k h) update_is (record { plain = beside.1; new = changed.fresh; early = beside.0 })

  pub is_elsewhere : IsElsewhere picked
  is_elsewhere = subst IsElsewhere update_is beside.2

  pub calls_then : called_by picked ≡ calls_in request (state_at goals h (length h))
  calls_then = subst (λ (k : Kind). called_by k ≡ calls_in request (state_at goals h (length h))) update_is beside.3

  pub begins_then : begun_by picked ≡ starts_in request (state_at goals h (length h))
  begins_then = begun_called picked ∙ ap lives_of calls_then

  pub stands_then : IsThreads l r d goals (h ++ entry e picked ∷ [])
  stands_then = subst (λ (k : Kind). IsThreads l r d goals (h ++ entry e k ∷ [])) update_is changed.stands

  pub answers_then : Answers goals e (text_of m) request h reply (Some picked)
  answers_then = subst (λ (k : Kind). Answers goals e (text_of m) request h reply (Some k)) update_is changed.answers

module _ (l : View) (m : Names) (e : ℕ) (request : Request) (r : HeldThreads Tree) (d goals : ℕ) (h : History) (of : IsOfThreads request) where
  pub threads_can : (row : Row) → ThreadsDecide l m e request r d goals h row → CanSettle (kind_of e goals h request) h row
  threads_can (Reads x) says = tt
  threads_can (Makes x) says = can_make l m e request r d goals h of x says
  threads_can (Waits on) says = tt
  threads_can (NeedsAtoms p) says = tt
  threads_can (Retry c) says = tt
  threads_can (Worn w) says = tt
  threads_can Memory says = tt

  pub threads_meet : (row : Row) → ThreadsDecide l m e request r d goals h row → Meets goals e (text_of m) request h (kind_of e goals h request) row
  threads_meet (Reads x) says = says.0
  threads_meet (Makes x) says = answers_then l m e request r d goals h of x says
  threads_meet (Waits on) says = says.0
  threads_meet (NeedsAtoms p) says = tt
  threads_meet (Retry c) says = tt
  threads_meet (Worn w) says = tt
  threads_meet Memory says = tt

  threads_then : (row : Row) → ThreadsDecide l m e request r d goals h row → IsThreads l r d goals (seen_after e (kind_of e goals h request) row h)
  threads_then (Reads x) says = says.1
  threads_then (Makes x) says = stands_then l m e request r d goals h of x says
  threads_then (Waits on) says = says.1
  threads_then (NeedsAtoms p) says = says
  threads_then (Retry c) says = says
  threads_then (Worn w) says = says
  threads_then Memory says = says

  database_then : (k : View) (db : HeldClauses Tree) (row : Row) → ThreadsDecide l m e request r d goals h row → IsDatabase k db goals h → IsDatabase k db goals (seen_after e (kind_of e goals h request) row h)
  database_then k db (Reads x) says was = was
  database_then k db (Makes x) says was = database_elsewhere k db goals e h (kind_of e goals h request) (is_elsewhere l m e request r d goals h of x says) was
  database_then k db (Waits on) says was = was
  database_then k db (NeedsAtoms p) says was = was
  database_then k db (Retry c) says was = was
  database_then k db (Worn w) says was = was
  database_then k db Memory says was = was

-- WHAT THE HUB'S FRONT CARRIES after a row that begins these engines where it makes an update
abbrev pub lives_after : Row → List Life → List Life → List Life
lives_after (Makes r) ls more = ls ++ more
lives_after _ ls more = ls

pub lives_quiet : (row : Row) (ls : List Life) → lives_after row ls [] ≡ ls
lives_quiet (Reads r) ls = refl
lives_quiet (Makes r) ls = append-nil ls
lives_quiet (Waits on) ls = refl
lives_quiet (NeedsAtoms p) ls = refl
lives_quiet (Retry c) ls = refl
lives_quiet (Worn w) ls = refl
lives_quiet Memory ls = refl

pub lives_begun : (row : Row) (ns : List ℕ) (n : ℕ) → lives_after row (map idle ns) (idle n ∷ []) ≡ map idle (begun_after row n ns)
lives_begun (Reads r) ns n = refl
lives_begun (Makes r) ns n = sym (map-append idle ns (n ∷ []))
lives_begun (Waits on) ns n = refl
lives_begun (NeedsAtoms p) ns n = refl
lives_begun (Retry c) ns n = refl
lives_begun (Worn w) ns n = refl
lives_begun Memory ns n = refl

module _ (l : View) (m : Names) (e : ℕ) (request : Request) (r : HeldThreads Tree) (d goals : ℕ) (f : FrontState) (of : IsOfThreads request) where
  lives_then : (row : Row) → ThreadsDecide l m e request r d goals f.seen row
      → (hub_after e (kind_of e goals f.seen request) row f).lives ≡ lives_after row f.lives (starts_in request (state_at goals f.seen (length f.seen)))
  lives_then (Reads x) says = refl
  lives_then (Makes x) says = ap (λ (ls : List Life). f.lives ++ ls) (begins_then l m e request r d goals f.seen of x says)
  lives_then (Waits on) says = refl
  lives_then (NeedsAtoms p) says = refl
  lives_then (Retry c) says = refl
  lives_then (Worn w) says = refl
  lives_then Memory says = refl

  order_after : (row : Row) → ThreadsDecide l m e request r d goals f.seen row → Begins goals f.seen (starts_in request (state_at goals f.seen (length f.seen))) row → IsInOrder goals f.seen
      → IsInOrder goals (seen_after e (kind_of e goals f.seen request) row f.seen)
  order_after (Reads x) says begin was = was
  order_after (Makes x) says begin was = order_then goals e (kind_of e goals f.seen request) f.seen was (starts_in request (state_at goals f.seen (length f.seen))) begin (begins_then l m e request r d goals f.seen of x says)
  order_after (Waits on) says begin was = was
  order_after (NeedsAtoms p) says begin was = was
  order_after (Retry c) says begin was = was
  order_after (Worn w) says begin was = was
  order_after Memory says begin was = was

  called_next : (row : Row) → ThreadsDecide l m e request r d goals f.seen row
      → called_in (seen_after e (kind_of e goals f.seen request) row f.seen) ≡ calls_after row (called_in f.seen) (calls_in request (state_at goals f.seen (length f.seen)))
  called_next (Reads x) says = refl
  called_next (Makes x) says =
      called_then e (kind_of e goals f.seen request) f.seen ∙ ap (λ (cs : List Called). called_in f.seen ++ cs) (calls_then l m e request r d goals f.seen of x says)
  called_next (Waits on) says = refl
  called_next (NeedsAtoms p) says = refl
  called_next (Retry c) says = refl
  called_next (Worn w) says = refl
  called_next Memory says = refl

-- WHAT IS SHARED after a row of queues and threads
module _ (atoms : TableId) (size : Size) (table : TableId) (goals : ℕ) (f : FrontState) (keeper new_keeper : Option Keeper) (db : HeldClauses Tree) (q r : HeldThreads Tree) (c d : ℕ) (b now : List Called)
    (was : IsShared atoms size table goals f keeper db q c b) (at : KeeperAt atoms size new_keeper) where
  pub threads_shared : (e : ℕ) (m : Names) (request : Request) → IsOfThreads request → (row : Row)
      → Restored (thread_counts q) (thread_counts r) (keeper_view keeper) (keeper_view new_keeper) (length f.seen) (length f.seen + updates_in row)
      → IsBelow d (length f.seen + updates_in row) r
      → ThreadsDecide (keeper_view new_keeper) m e request r d goals f.seen row
      → lives_after row (map idle (goal_numbers q.goals)) (starts_in request (state_at goals f.seen (length f.seen))) ≡ map idle (goal_numbers r.goals)
      → Begins goals f.seen (starts_in request (state_at goals f.seen (length f.seen))) row
      → now ≡ calls_after row b (calls_in request (state_at goals f.seen (length f.seen)))
      → IsShared atoms size table goals (hub_after e (kind_of e goals f.seen request) row f) new_keeper db r d now
  threads_shared e m request of row restored below says begins begin noted =
      let k = kind_of e goals f.seen request in
      let old = keeper_view keeper in
      let new = keeper_view new_keeper in
      let sums : Sums (thread_counts q) (clause_counts db) old = swapped (clause_counts db) (thread_counts q) old was.exact in
      let g : length f.seen + updates_in row ≡ length (hub_after e k row f).seen = sym (ap (λ (h : History). length h) (after_seen e k row f) ∙ after_length e k row f.seen) in
      let carried = database_carried old new db goals f.seen (restored.says (clause_counts db) sums) was.database in
      record {
        table = after_table e k row f ∙ was.table;
        keeper_is = at;
        exact = swapped (thread_counts r) (clause_counts db) new (restored.exact (clause_counts db) sums);
        few = subst (λ (n : ℕ). IsFew n new) g (restored.few was.few);
        database = subst (λ (h : History). IsDatabase new db goals h) (sym (after_seen e k row f)) (database_then new m e request r d goals f.seen of new db row says carried);
        upto = upto_later (length f.seen) (length (hub_after e k row f).seen) db (let a = g in omega arith) was.upto;
        floor = was.floor;
        threads = subst (λ (h : History). IsThreads new r d goals h) (sym (after_seen e k row f)) (threads_then new m e request r d goals f.seen of row says);
        below = subst (λ (n : ℕ). IsBelow d n r) g below;
        order = subst (IsInOrder goals) (sym (after_seen e k row f)) (order_after new m e request r d goals f of row says begin was.order);
        called =
            noted
            ∙ ap (λ (cs : List Called). calls_after row cs (calls_in request (state_at goals f.seen (length f.seen)))) was.called
            ∙ sym (called_next new m e request r d goals f of row says)
            ∙ ap called_in (sym (after_seen e k row f));
        waiting =
            lives_then new m e request r d goals f of row says
            ∙ ap (λ (ls : List Life). lives_after row ls (starts_in request (state_at goals f.seen (length f.seen)))) was.waiting
            ∙ begins;
      }

-- THE DATABASE'S UPDATES leave queues and threads
abbrev pub IsOfClauses : Kind → Type 0
IsOfClauses (add_first p c o) = Unit {0}
IsOfClauses (add_last p c o) = Unit {0}
IsOfClauses (erase j) = Unit {0}
IsOfClauses (abolish p) = Unit {0}
IsOfClauses (set_dynamic ps) = Unit {0}
IsOfClauses (set_flag f v) = Unit {0}
IsOfClauses (set_op os) = Unit {0}
IsOfClauses _ = ⊥

module _ (b : ℕ) where
  begins_none : (k : Kind) → IsOfClauses k → begins b k ≡ false
  begins_none (add_first p c o) of = refl
  begins_none (add_last p c o) of = refl
  begins_none (erase j) of = refl
  begins_none (abolish p) of = refl
  begins_none (set_dynamic ps) of = refl
  begins_none (set_flag f v) of = refl
  begins_none (set_op os) of = refl
  begins_none (make_queue n a) of = absurd of
  begins_none (drop_queue n) of = absurd of
  begins_none (send n t) of = absurd of
  begins_none (entries.take j) of = absurd of
  begins_none (start n t a) of = absurd of
  begins_none (finish how steps) of = absurd of
  begins_none (join n) of = absurd of

pub begun_none : (k : Kind) → IsOfClauses k → begun_by k ≡ []
begun_none (add_first p c o) of = refl
begun_none (add_last p c o) of = refl
begun_none (erase j) of = refl
begun_none (abolish p) of = refl
begun_none (set_dynamic ps) of = refl
begun_none (set_flag f v) of = refl
begun_none (set_op os) of = refl
begun_none (make_queue n a) of = absurd of
begun_none (drop_queue n) of = absurd of
begun_none (send n t) of = absurd of
begun_none (entries.take j) of = absurd of
begun_none (start n t a) of = absurd of
begun_none (finish how steps) of = absurd of
begun_none (join n) of = absurd of

lives_left : (e : ℕ) (k : Kind) → IsOfClauses k → (row : Row) (f : FrontState) → (hub_after e k row f).lives ≡ f.lives
lives_left e k of (Reads r) f = refl
lives_left e k of (Makes r) f = ap (λ (ls : List Life). f.lives ++ ls) (begun_none k of) ∙ append-nil f.lives
lives_left e k of (Waits on) f = refl
lives_left e k of (NeedsAtoms p) f = refl
lives_left e k of (Retry c) f = refl
lives_left e k of (Worn w) f = refl
lives_left e k of Memory f = refl

module _ (n e : ℕ) (s : SharedState) where
  threads_left : (k : Kind) → IsOfClauses k → (change n e k s).threads ≡ s.threads
  threads_left (add_first p c o) of = refl
  threads_left (add_last p c o) of = refl
  threads_left (erase j) of = refl
  threads_left (abolish p) of = refl
  threads_left (set_dynamic ps) of = refl
  threads_left (set_flag f v) of = refl
  threads_left (set_op os) of = refl
  threads_left (make_queue i a) of = absurd of
  threads_left (drop_queue i) of = absurd of
  threads_left (send i t) of = absurd of
  threads_left (entries.take j) of = absurd of
  threads_left (start i t a) of = absurd of
  threads_left (finish how steps) of = absurd of
  threads_left (join i) of = absurd of

  count_left : (k : Kind) → IsOfClauses k → (change n e k s).count ≡ s.count
  count_left (add_first p c o) of = refl
  count_left (add_last p c o) of = refl
  count_left (erase j) of = refl
  count_left (abolish p) of = refl
  count_left (set_dynamic ps) of = refl
  count_left (set_flag f v) of = refl
  count_left (set_op os) of = refl
  count_left (make_queue i a) of = absurd of
  count_left (drop_queue i) of = absurd of
  count_left (send i t) of = absurd of
  count_left (entries.take j) of = absurd of
  count_left (start i t a) of = absurd of
  count_left (finish how steps) of = absurd of
  count_left (join i) of = absurd of

or_none : (b c : Bool) → c ≡ false → (b || c) ≡ b
or_none true c e = refl
or_none false c e = e

pub threads_elsewhere : (k : View) (q : HeldThreads Tree) (c goals e : ℕ) (h : History) (kind : Kind) → IsSound q → IsOfClauses kind → IsThreads k q c goals h → IsThreads k q c goals (h ++ entry e kind ∷ [])
threads_elsewhere k q c goals e h kind sound of was =
    moves_on k k q c goals h sound (λ t stored. refl) was e kind (λ t. t) (λ n. n) q
    (λ s. threads_left (length h) e s kind of) (λ s. count_left (length h) e s kind of) refl
    (λ b. or_none _ (begins b kind) (begins_none b kind of))
    (goals_stay k k q c goals h sound (λ t stored. refl) was e kind (λ t. t) (λ n. n) q (entry e kind) (λ n. refl))

-- A ROW OF CLAUSES
clauses_made : (goals e : ℕ) (text : ℕ → Chars) (q : Request) (h : History) (kind : Kind) → is_end kind ≡ false → IsOfClauses kind → (r : Reply Tree) → Answers goals e text q h r (Some kind) → CanMake kind h
clauses_made goals e text q h kind plain of r answers_it = record {
  plain = plain;
  new = λ b begun. absurd (false≢true (sym (begins_none b kind of) ∙ begun));
  early = (made_plain e goals h q answers_it.reply kind answers_it.serves).0;
}

module _ (goals e : ℕ) (text : ℕ → Chars) (q : Request) (h : History) (kind : Kind) (plain : is_end kind ≡ false) (of : IsOfClauses kind) (k : View) (db : HeldClauses Tree) where
  pub clauses_can : (row : Row) → DatabaseDecides goals e text q h kind k db row → CanSettle kind h row
  clauses_can (Reads x) says = tt
  clauses_can (Makes x) says = clauses_made goals e text q h kind plain of x says.0
  clauses_can (Waits on) says = tt
  clauses_can (NeedsAtoms p) says = tt
  clauses_can (Retry c) says = tt
  clauses_can (Worn w) says = tt
  clauses_can Memory says = tt

  pub clauses_meet : (row : Row) → DatabaseDecides goals e text q h kind k db row → Meets goals e text q h kind row
  clauses_meet (Reads x) says = says.0
  clauses_meet (Makes x) says = says.0
  clauses_meet (Waits on) says = absurd says
  clauses_meet (NeedsAtoms p) says = tt
  clauses_meet (Retry c) says = tt
  clauses_meet (Worn w) says = tt
  clauses_meet Memory says = tt

  clauses_then : (row : Row) → DatabaseDecides goals e text q h kind k db row → IsDatabase k db goals (seen_after e kind row h)
  clauses_then (Reads x) says = says.1
  clauses_then (Makes x) says = says.1
  clauses_then (Waits on) says = absurd says
  clauses_then (NeedsAtoms p) says = says
  clauses_then (Retry c) says = says
  clauses_then (Worn w) says = says
  clauses_then Memory says = says

queues_then : (k : View) (r : HeldThreads Tree) (c goals e : ℕ) (h : History) (kind : Kind) → IsSound r → IsOfClauses kind → (row : Row) → IsThreads k r c goals h → IsThreads k r c goals (seen_after e kind row h)
queues_then k r c goals e h kind sound of (Reads x) was = was
queues_then k r c goals e h kind sound of (Makes x) was = threads_elsewhere k r c goals e h kind sound of was
queues_then k r c goals e h kind sound of (Waits on) was = was
queues_then k r c goals e h kind sound of (NeedsAtoms p) was = was
queues_then k r c goals e h kind sound of (Retry x) was = was
queues_then k r c goals e h kind sound of (Worn w) was = was
queues_then k r c goals e h kind sound of Memory was = was

-- WHAT IS SHARED after a row of clauses
module _ (atoms : TableId) (size : Size) (table : TableId) (goals : ℕ) (f : FrontState) (keeper new_keeper : Option Keeper) (db new_db : HeldClauses Tree) (q : HeldThreads Tree) (c : ℕ) (b : List Called)
    (was : IsShared atoms size table goals f keeper db q c b) (sound : IsSound q) (at : KeeperAt atoms size new_keeper) where
  pub database_shared : (e : ℕ) (kind : Kind) → IsOfClauses kind → (row : Row)
      → Restored (clause_counts db) (clause_counts new_db) (keeper_view keeper) (keeper_view new_keeper) (length f.seen) (generation_after row (length f.seen))
      → IsUpTo (generation_after row (length f.seen)) new_db
      → new_db.floor ≡ db.floor
      → IsDatabase (keeper_view new_keeper) new_db goals (seen_after e kind row f.seen)
      → IsShared atoms size table goals (hub_after e kind row f) new_keeper new_db q c b
  database_shared e kind of row restored upto floor after =
      let old = keeper_view keeper in
      let new = keeper_view new_keeper in
      let more : length (hub_after e kind row f).seen ≡ length f.seen + updates_in row = ap (λ (h : History). length h) (after_seen e kind row f) ∙ after_length e kind row f.seen in
      let g : generation_after row (length f.seen) ≡ length (hub_after e kind row f).seen = generation_is row (length f.seen) ∙ sym more in
      let carried = stays old new q c goals f.seen sound (λ t stored. restored.says (thread_counts q) was.exact t (λ a. stored (naming a))) was.threads in
      record {
        table = after_table e kind row f ∙ was.table;
        keeper_is = at;
        exact = restored.exact (thread_counts q) was.exact;
        few = subst (λ (n : ℕ). IsFew n new) g (restored.few was.few);
        database = subst (λ (h : History). IsDatabase new new_db goals h) (sym (after_seen e kind row f)) after;
        upto = subst (λ (n : ℕ). IsUpTo n new_db) g upto;
        floor = floor ∙ was.floor;
        threads = subst (λ (h : History). IsThreads new q c goals h) (sym (after_seen e kind row f)) (queues_then new q c goals e f.seen kind sound of row carried);
        below = let le : length f.seen ≤ length (hub_after e kind row f).seen = omega (arith, more) in later_below c (length f.seen) (length (hub_after e kind row f).seen) q le was.below;
        order = subst (IsInOrder goals) (sym (after_seen e kind row f)) (order_kept goals e kind f.seen (begun_none kind of) was.order row);
        called = was.called ∙ sym (calls_kept e kind f.seen (begun_none kind of) row) ∙ ap called_in (sym (after_seen e kind row f));
        waiting = lives_left e kind of row f ∙ was.waiting;
      }
    where
      later_below : (n a b : ℕ) (x : HeldThreads Tree) → a ≤ b → IsBelow n a x → IsBelow n b x
      later_below n a b x le low = record { numbers = low.numbers; unjoined = low.unjoined; places = λ p high. low.places p (omega (arith, high, le)) }

  pub clauses_shared : (e : ℕ) (text : ℕ → Chars) (request : Request) (kind : Kind) → is_end kind ≡ false → IsOfClauses kind → (row : Row)
      → Restored (clause_counts db) (clause_counts new_db) (keeper_view keeper) (keeper_view new_keeper) (length f.seen) (generation_after row (length f.seen))
      → IsUpTo (generation_after row (length f.seen)) new_db
      → new_db.floor ≡ db.floor
      → DatabaseDecides goals e text request f.seen kind (keeper_view new_keeper) new_db row
      → IsShared atoms size table goals (hub_after e kind row f) new_keeper new_db q c b
  clauses_shared e text request kind plain of row restored upto floor says =
      database_shared e kind of row restored upto floor (clauses_then goals e text request f.seen kind plain of (keeper_view new_keeper) new_db row says)

-- the counts are the same, and so are the clauses that count
pub steady_restores : (part new : ℕ → ℕ) (k l : View) (n m : ℕ) → IsSteady k l → ((a : ℕ) → new a ≡ part a) → n ≤ m → Restored part new k l n m
steady_restores part new k l n m steady same le = record {
  exact = λ rest sums a. let s = sums a in let c = steady.counts a in let e = same a in omega arith;
  says = λ rest sums t within. ap (λ (names : Names). said names t) steady.keeps;
  few = λ few a. let f = few a in let c = steady.counts a in omega arith;
}

-- WHERE A ROW OF CLAUSES CHANGES NOTHING
module _ (goals e : ℕ) (text : ℕ → Chars) (q : Request) (h : History) (kind : Kind) where
  pub told_can : (row : Row) → Tells goals e text q h row → CanSettle kind h row
  told_can (Reads x) says = tt
  told_can (Makes x) says = absurd says
  told_can (Waits on) says = absurd says
  told_can (NeedsAtoms p) says = tt
  told_can (Retry c) says = tt
  told_can (Worn w) says = tt
  told_can Memory says = tt

  pub told_meets : (row : Row) → Tells goals e text q h row → Meets goals e text q h kind row
  told_meets (Reads x) says = says
  told_meets (Makes x) says = absurd says
  told_meets (Waits on) says = absurd says
  told_meets (NeedsAtoms p) says = tt
  told_meets (Retry c) says = tt
  told_meets (Worn w) says = tt
  told_meets Memory says = tt

-- THE HISTORY AFTER A ROW of clauses
pub history_is : (e : ℕ) (kind : Kind) (row : Row) (h : History) → history_after e row kind h ≡ seen_after e kind row h
history_is e kind (Reads r) h = refl
history_is e kind (Makes r) h = refl
history_is e kind (Waits on) h = refl
history_is e kind (NeedsAtoms p) h = refl
history_is e kind (Retry c) h = refl
history_is e kind (Worn w) h = refl
history_is e kind Memory h = refl

-- a reply with the change made, below 2^47
pub early_can : (kind : Kind) → is_end kind ≡ false → IsOfClauses kind → (h : History) (row : Row) → IsReplyOrMade row → (generation_after row (length h) ≢ length h → length h < 2 ^ 47) → CanSettle kind h row
early_can kind plain of h (Reads r) is early = tt
early_can kind plain of h (Makes r) is early = record {
  plain = plain;
  new = λ b begun. absurd (false≢true (sym (begins_none b kind of) ∙ begun));
  early = early (λ same. let e = same in absurd (omega (arith, e)));
}
early_can kind plain of h (Waits on) is early = absurd is
early_can kind plain of h (NeedsAtoms p) is early = absurd is
early_can kind plain of h (Retry c) is early = absurd is
early_can kind plain of h (Worn w) is early = absurd is
early_can kind plain of h Memory is early = tt
