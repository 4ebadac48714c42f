-- A row of queues and threads, with the update that was picked before it.
use Rattle.std.proofs.Common.{◌≡◌, ℕ, suc, ◌+◌, List, [], ◌∷◌, ◌++◌, map, length, Option, Some, refl, sym, ap, subst, ◌∙◌, arith}
use Rattle.std.specs.Prelude.{IsSome}
use Rattle.std.specs.List.{All}
use Rattle.atomic_table.specs.Seated.{TableId}
use Rattle.pl_term.specs.Tree.{Chars, Tree}
use Rattle.pl_model.specs.History.{History, Kind}
use Rattle.pl_model.specs.Requests.{Request}
use Rattle.pl_model.specs.SharedState.{state_at}
use Rattle.pl_history.specs.Fronts.{FrontState, Life}
use Rattle.atom_api.specs.Names.{Names}
use Rattle.atom_words.specs.declared.size.Size.{Size}
use Rattle.atom_words.specs.declared.view.View.{View}
use Rattle.atom_table.specs.declared.seats.Keeper.{Keeper}
use Rattle.atom_table.specs.Naming.{names, requests}
use Rattle.clause_db.specs.Parts.{Held as HeldClauses}
use Rattle.hub_threads.specs.Goals.{begun_after, called_after}
use Rattle.hub_threads.specs.Held.{Held as HeldThreads, goal_numbers}
use Rattle.hub_threads.specs.Weights.{IsBelow, weigh}
use Rattle.term_store.specs.ArgumentKeys.{clause_key}
use Rattle.term_store.specs.NumberedNames.{term_by}
use Rattle.term_store.specs.declared.argument_key.ArgumentKey.{ArgumentKey}
use Rattle.world_api.specs.declared.answer.Answer.{Answer}
use Rattle.world_api.specs.declared.visit.Visit.{Visit}
use Rattle.world_api.specs.Asked.{IsInAnswer}
use Rattle.world_api.specs.Gains.{Gains}
use Rattle.world_api.specs.Texts.{Holds, text_of}
use Rattle.world_api.specs.Visits.{Asks}
use Rattle.counted_terms.specs.CountedTerms.{naming}
use Rattle.counted_terms.specs.Keeping.{KeeperAt, keeper_view}
use Rattle.counted_terms.specs.Sharing.{Counts, Restored}
use Rattle.counted_terms.specs.declared.row.Row.{Row}
use Rattle.counted_terms.specs.declared.row.Row.TheVariants.{Reads, Makes, Waits, NeedsAtoms, Retry, Worn, Memory}
use Rattle.counted_terms.specs.Rows.{row_names, row_refusals}
use Rattle.counted_terms.proofs.Sharing.{restored_as, restored_same, restored_wider, swapped}
use Rattle.hub_threads.specs.Rows.{Decides as ThreadsDecide, updates_in}
use Rattle.hub_threads.specs.Threads.{thread_counts}
use Rattle.hub_database.specs.Database.{clause_counts}
use Rattle.pl_hub.specs.Called.{Called, lives_of}
use Rattle.pl_hub.specs.Fronts.{IsOwn, idle, told_of}
use Rattle.pl_hub.specs.Settling.{CanSettle, Meets, Sees, answer_of, front_after, hub_after, kind_of}
use Rattle.pl_hub.specs.State.{IsShared}
use Rattle.pl_hub.specs.Visits.{IsVisit}
use Rattle.pl_hub.proofs.Answering.{is_visit_of, none_asked}
use Rattle.pl_hub.proofs.Calling.{calls_after, calls_noted, calls_quiet, calls_read, no_lives}
use Rattle.pl_hub.proofs.Order.{Begins, quiet_begins, reads_begin}
use Rattle.pl_hub.proofs.Serving.{IsOfThreads, calls_in, starts_in}
use Rattle.pl_hub.proofs.States.{lives_after, lives_begun, lives_quiet, threads_can, threads_meet, threads_shared}
use Rattle.pl_hub.proofs.Visiting.{IsPlainVisit}

-- THE COUNTS that a row is given
pub thread_counts_of : {atoms : TableId} {size : Size} {table : TableId} {goals : ℕ} {f : FrontState} {keeper : Option Keeper} {db : HeldClauses Tree} {q : HeldThreads Tree} {c : ℕ} {b : List Called}
    → IsShared atoms size table goals f keeper db q c b → (n : ℕ) → n ≡ length f.seen → Counts (thread_counts q) (keeper_view keeper) n
thread_counts_of {keeper = keeper} {db = db} {q = q} was n is = record {
  rest = clause_counts db;
  exact = swapped (clause_counts db) (thread_counts q) (keeper_view keeper) was.exact;
  few = λ a. let low = was.few a in omega (arith, low, is);
}

-- A row that stores and forgets nothing
pub nothing_stored : (k : View) (q r : HeldThreads Tree) (n u : ℕ) → ((w : Tree → ℕ) → weigh w r ≡ weigh w q) → Restored (thread_counts q) (thread_counts r) k k n (n + u)
nothing_stored k q r n u same =
    restored_wider (thread_counts q) (thread_counts r) k k n n (n + u)
    (restored_as (thread_counts q) (thread_counts q) (thread_counts r) k k n n (restored_same (thread_counts q) k k n refl (λ a. refl)) (λ a. same (naming a))) (omega arith)

module _ (goals e : ℕ) (j : Kind) (f now : FrontState) (is : f ≡ now) (q : Request) (of : IsOfThreads q) (picked : j ≡ kind_of e goals now.seen q)
    (w l : View) (r : HeldThreads Tree) (d : ℕ) (row : Row) (says : ThreadsDecide l (names w) e q r d goals f.seen row) where
  kind_here : kind_of e goals f.seen q ≡ j
  kind_here = ap (λ (x : FrontState). kind_of e goals x.seen q) is ∙ sym picked

  -- THE STEP on the history may be made
  pub can_settle : CanSettle j f.seen row
  can_settle = subst (λ (k : Kind). CanSettle k f.seen row) kind_here (threads_can l (names w) e q r d goals f.seen of row says)

  -- AFTER IT the row is a visit
  pub threads_visit : (table : TableId) (v : View) (visit : Visit Tree ArgumentKey)
      → IsPlainVisit (text_of (names v)) (text_of (names w)) visit
      → Asks term_by clause_key (text_of (names v)) visit q
      → ((z : Request) → Asks term_by clause_key (text_of (names v)) visit z → z ≡ q)
      → (front : FrontState) → IsOwn table e front
      → (a : Answer Tree) (g new : FrontState) → a ≡ answer_of row (length f.seen) → g ≡ front_after e j row f.seen front → new ≡ hub_after e j row f
      → Sees f.seen front row
      → All (λ x. IsSome (names w x)) (row_names row)
      → Holds (names v) (names w)
      → w.refusals ≡ v.refusals ++ row_refusals row
      → requests w ≡ requests v
      → IsVisit table goals e v w visit a front g now new
  threads_visit table v visit plain asks only front own a g new a_is g_is new_is sees named holds refusals asked =
      subst (λ (x : FrontState). IsVisit table goals e v w visit a front g x new) is
      (is_visit_of table goals e v w visit plain front own f j row q asks only a g new a_is g_is new_is can_settle sees
      (subst (λ (k : Kind). Meets goals e (text_of (names w)) q f.seen k row) kind_here (threads_meet l (names w) e q r d goals f.seen of row says))
      named holds refusals (none_asked _ v w asked))

  pub threads_visit_asking : (table : TableId) (v : View) (visit : Visit Tree ArgumentKey)
      → IsPlainVisit (text_of (names v)) (text_of (names w)) visit
      → Asks term_by clause_key (text_of (names v)) visit q
      → ((z : Request) → Asks term_by clause_key (text_of (names v)) visit z → z ≡ q)
      → (front : FrontState) → IsOwn table e front
      → (a : Answer Tree) (g new : FrontState) → a ≡ answer_of row (length f.seen) → g ≡ front_after e j row f.seen front → new ≡ hub_after e j row f
      → Sees f.seen front row
      → All (λ x. IsSome (names w x)) (row_names row)
      → Holds (names v) (names w)
      → w.refusals ≡ v.refusals ++ row_refusals row
      → Gains (IsInAnswer term_by clause_key (text_of (names v)) visit (told_of goals front)) (Some (requests v)) (Some (requests w))
      → IsVisit table goals e v w visit a front g now new
  threads_visit_asking table v visit plain asks only front own a g new a_is g_is new_is sees named holds refusals asked =
      subst (λ (x : FrontState). IsVisit table goals e v w visit a front g x new) is
      (is_visit_of table goals e v w visit plain front own f j row q asks only a g new a_is g_is new_is can_settle sees
      (subst (λ (k : Kind). Meets goals e (text_of (names w)) q f.seen k row) kind_here (threads_meet l (names w) e q r d goals f.seen of row says))
      named holds refusals asked)

  -- AND WHAT IS SHARED is the state after the history
  shared_by : {atoms : TableId} {size : Size} {table : TableId} {keeper new_keeper : Option Keeper} {db : HeldClauses Tree} {p : HeldThreads Tree} {c : ℕ} {b : List Called} (b₁ : List Called)
      → IsShared atoms size table goals f keeper db p c b → KeeperAt atoms size new_keeper → l ≡ keeper_view new_keeper
      → (n : ℕ) → n ≡ length f.seen
      → Restored (thread_counts p) (thread_counts r) (keeper_view keeper) (keeper_view new_keeper) n (n + updates_in row)
      → IsBelow d (n + updates_in row) r
      → lives_after row (map idle (goal_numbers p.goals)) (starts_in q (state_at goals f.seen (length f.seen))) ≡ map idle (goal_numbers r.goals)
      → Begins goals f.seen (starts_in q (state_at goals f.seen (length f.seen))) row
      → b₁ ≡ calls_after row b (calls_in q (state_at goals f.seen (length f.seen)))
      → (new : FrontState) → new ≡ hub_after e j row f
      → IsShared atoms size table goals new new_keeper db r d b₁
  shared_by {atoms} {size} {table} {keeper} {new_keeper} {db} {p} {c} {b} b₁ was at same n is_n restored below begins begin noted new new_is =
      subst (λ (x : FrontState). IsShared atoms size table goals x new_keeper db r d b₁) (sym new_is)
      (subst (λ (k : Kind). IsShared atoms size table goals (hub_after e k row f) new_keeper db r d b₁) kind_here
      (threads_shared atoms size table goals f keeper new_keeper db p r c d b b₁ was at e (names w) q of row
      (subst (λ (x : ℕ). Restored (thread_counts p) (thread_counts r) (keeper_view keeper) (keeper_view new_keeper) x (x + updates_in row)) is_n restored)
      (subst (λ (x : ℕ). IsBelow d (x + updates_in row) r) is_n below)
      (subst (λ (k : View). ThreadsDecide k (names w) e q r d goals f.seen row) same says)
      begins begin noted))

  -- of a request that begins no engine
  pub shared_then : starts_in q (state_at goals f.seen (length f.seen)) ≡ []
      → {atoms : TableId} {size : Size} {table : TableId} {keeper new_keeper : Option Keeper} {db : HeldClauses Tree} {p : HeldThreads Tree} {c : ℕ} {b : List Called}
      → IsShared atoms size table goals f keeper db p c b → KeeperAt atoms size new_keeper → l ≡ keeper_view new_keeper
      → (n : ℕ) → n ≡ length f.seen
      → Restored (thread_counts p) (thread_counts r) (keeper_view keeper) (keeper_view new_keeper) n (n + updates_in row)
      → IsBelow d (n + updates_in row) r
      → r.goals ≡ p.goals
      → (new : FrontState) → new ≡ hub_after e j row f
      → IsShared atoms size table goals new new_keeper db r d b
  shared_then quiet {p = p} {b = b} was at same n is_n restored below kept new new_is =
      shared_by b was at same n is_n restored below
      (ap (lives_after row (map idle (goal_numbers p.goals))) quiet ∙ lives_quiet row (map idle (goal_numbers p.goals)) ∙ ap (λ (gs : List (ℕ × Tree)). map idle (goal_numbers gs)) (sym kept))
      (subst (λ (ls : List Life). Begins goals f.seen ls row) (sym quiet) (quiet_begins goals f.seen row))
      (sym (ap (calls_after row b) (no_lives (calls_in q (state_at goals f.seen (length f.seen))) quiet) ∙ calls_quiet row b)) new new_is

  -- of one that begins an engine with this number and alias
  pub shared_begun : (i : ℕ) (a : Option Chars) → calls_in q (state_at goals f.seen (length f.seen)) ≡ (i, a) ∷ []
      → {atoms : TableId} {size : Size} {table : TableId} {keeper new_keeper : Option Keeper} {db : HeldClauses Tree} {p : HeldThreads Tree} {c : ℕ} {b : List Called} (b₁ : List Called)
      → IsShared atoms size table goals f keeper db p c b → KeeperAt atoms size new_keeper → l ≡ keeper_view new_keeper
      → (n : ℕ) → n ≡ length f.seen
      → Restored (thread_counts p) (thread_counts r) (keeper_view keeper) (keeper_view new_keeper) n (n + updates_in row)
      → IsBelow d (n + updates_in row) r
      → goal_numbers r.goals ≡ begun_after row i (goal_numbers p.goals)
      → b₁ ≡ called_after row i a b
      → Begins goals f.seen (idle i ∷ []) row
      → (new : FrontState) → new ≡ hub_after e j row f
      → IsShared atoms size table goals new new_keeper db r d b₁
  shared_begun i a calls {p = p} {b = b} b₁ was at same n is_n restored below kept noted begin new new_is =
      let starts : starts_in q (state_at goals f.seen (length f.seen)) ≡ idle i ∷ [] = ap lives_of calls in
      shared_by b₁ was at same n is_n restored below
      (ap (lives_after row (map idle (goal_numbers p.goals))) starts ∙ lives_begun row (goal_numbers p.goals) i ∙ ap (map idle) (sym kept))
      (subst (λ (ls : List Life). Begins goals f.seen ls row) (sym starts) begin)
      (noted ∙ calls_noted row i a b ∙ ap (calls_after row b) (sym calls)) new new_is

-- A ROW THAT MAKES NO UPDATE, whatever update was picked
no_update : (n : ℕ) → suc n ≡ 0 → ⊥
no_update n e = omega (arith, e)

pub reads_can : (j : Kind) (h : History) (row : Row) → updates_in row ≡ 0 → CanSettle j h row
reads_can j h (Reads r) reads = tt
reads_can j h (Makes r) reads = absurd (no_update 0 reads)
reads_can j h (Waits on) reads = tt
reads_can j h (NeedsAtoms p) reads = tt
reads_can j h (Retry c) reads = tt
reads_can j h (Worn w) reads = tt
reads_can j h Memory reads = tt

pub reads_after : (e : ℕ) (j : Kind) (row : Row) (f : FrontState) → updates_in row ≡ 0 → hub_after e j row f ≡ f
reads_after e j (Reads r) f reads = refl
reads_after e j (Makes r) f reads = absurd (no_update 0 reads)
reads_after e j (Waits on) f reads = refl
reads_after e j (NeedsAtoms p) f reads = refl
reads_after e j (Retry c) f reads = refl
reads_after e j (Worn w) f reads = refl
reads_after e j Memory f reads = refl

reads_lives : (row : Row) (ls more : List Life) → updates_in row ≡ 0 → lives_after row ls more ≡ ls
reads_lives (Reads r) ls more reads = refl
reads_lives (Makes r) ls more reads = absurd (no_update 0 reads)
reads_lives (Waits on) ls more reads = refl
reads_lives (NeedsAtoms p) ls more reads = refl
reads_lives (Retry c) ls more reads = refl
reads_lives (Worn w) ls more reads = refl
reads_lives Memory ls more reads = refl

module _ (l : View) (m : Names) (e : ℕ) (q : Request) (r : HeldThreads Tree) (d goals : ℕ) (h : History) (j : Kind) where
  reads_meet : (row : Row) → updates_in row ≡ 0 → ThreadsDecide l m e q r d goals h row → Meets goals e (text_of m) q h j row
  reads_meet (Reads x) reads says = says.0
  reads_meet (Makes x) reads says = absurd (no_update 0 reads)
  reads_meet (Waits on) reads says = says.0
  reads_meet (NeedsAtoms p) reads says = tt
  reads_meet (Retry c) reads says = tt
  reads_meet (Worn w) reads says = tt
  reads_meet Memory reads says = tt

module _ (goals e : ℕ) (j : Kind) (f now : FrontState) (is : f ≡ now) (q : Request) (of : IsOfThreads q)
    (w l : View) (r : HeldThreads Tree) (d : ℕ) (row : Row) (reads : updates_in row ≡ 0) (says : ThreadsDecide l (names w) e q r d goals f.seen row) where
  pub reads_visit : (table : TableId) (v : View) (visit : Visit Tree ArgumentKey)
      → IsPlainVisit (text_of (names v)) (text_of (names w)) visit
      → Asks term_by clause_key (text_of (names v)) visit q
      → ((z : Request) → Asks term_by clause_key (text_of (names v)) visit z → z ≡ q)
      → (front : FrontState) → IsOwn table e front
      → (a : Answer Tree) (g new : FrontState) → a ≡ answer_of row (length f.seen) → g ≡ front_after e j row f.seen front → new ≡ hub_after e j row f
      → Sees f.seen front row
      → All (λ x. IsSome (names w x)) (row_names row)
      → Holds (names v) (names w)
      → w.refusals ≡ v.refusals ++ row_refusals row
      → requests w ≡ requests v
      → IsVisit table goals e v w visit a front g now new
  reads_visit table v visit plain asks only front own a g new a_is g_is new_is sees named holds refusals asked =
      subst (λ (x : FrontState). IsVisit table goals e v w visit a front g x new) is
      (is_visit_of table goals e v w visit plain front own f j row q asks only a g new a_is g_is new_is (reads_can j f.seen row reads) sees
      (reads_meet l (names w) e q r d goals f.seen j row reads says)
      named holds refusals (none_asked _ v w asked))

  pub reads_visit_asking : (table : TableId) (v : View) (visit : Visit Tree ArgumentKey)
      → IsPlainVisit (text_of (names v)) (text_of (names w)) visit
      → Asks term_by clause_key (text_of (names v)) visit q
      → ((z : Request) → Asks term_by clause_key (text_of (names v)) visit z → z ≡ q)
      → (front : FrontState) → IsOwn table e front
      → (a : Answer Tree) (g new : FrontState) → a ≡ answer_of row (length f.seen) → g ≡ front_after e j row f.seen front → new ≡ hub_after e j row f
      → Sees f.seen front row
      → All (λ x. IsSome (names w x)) (row_names row)
      → Holds (names v) (names w)
      → w.refusals ≡ v.refusals ++ row_refusals row
      → Gains (IsInAnswer term_by clause_key (text_of (names v)) visit (told_of goals front)) (Some (requests v)) (Some (requests w))
      → IsVisit table goals e v w visit a front g now new
  reads_visit_asking table v visit plain asks only front own a g new a_is g_is new_is sees named holds refusals asked =
      subst (λ (x : FrontState). IsVisit table goals e v w visit a front g x new) is
      (is_visit_of table goals e v w visit plain front own f j row q asks only a g new a_is g_is new_is (reads_can j f.seen row reads) sees
      (reads_meet l (names w) e q r d goals f.seen j row reads says)
      named holds refusals asked)

  pub reads_shared : {atoms : TableId} {size : Size} {table : TableId} {keeper new_keeper : Option Keeper} {db : HeldClauses Tree} {p : HeldThreads Tree} {c : ℕ} {b : List Called}
      → IsShared atoms size table goals f keeper db p c b → KeeperAt atoms size new_keeper → l ≡ keeper_view new_keeper
      → Restored (thread_counts p) (thread_counts r) (keeper_view keeper) (keeper_view new_keeper) (length f.seen) (length f.seen)
      → IsBelow d (length f.seen) r
      → r.goals ≡ p.goals
      → (new : FrontState) → new ≡ hub_after e j row f
      → IsShared atoms size table goals new new_keeper db r d b
  reads_shared {atoms} {size} {table} {keeper} {new_keeper} {db} {p} {c} {b} was at same restored below kept new new_is =
      let none_made : length f.seen ≡ length f.seen + updates_in row = omega (arith, reads) in
      let same_hub : hub_after e (kind_of e goals f.seen q) row f ≡ new = reads_after e (kind_of e goals f.seen q) row f reads ∙ sym (reads_after e j row f reads) ∙ sym new_is in
      subst (λ (x : FrontState). IsShared atoms size table goals x new_keeper db r d b) same_hub
      (threads_shared atoms size table goals f keeper new_keeper db p r c d b b was at e (names w) q of row
      (subst (λ (x : ℕ). Restored (thread_counts p) (thread_counts r) (keeper_view keeper) (keeper_view new_keeper) (length f.seen) x) none_made restored)
      (subst (λ (x : ℕ). IsBelow d x r) none_made below)
      (subst (λ (k : View). ThreadsDecide k (names w) e q r d goals f.seen row) same says)
      (reads_lives row (map idle (goal_numbers p.goals)) (starts_in q (state_at goals f.seen (length f.seen))) reads ∙ ap (λ (gs : List (ℕ × Tree)). map idle (goal_numbers gs)) (sym kept))
      (reads_begin goals f.seen (starts_in q (state_at goals f.seen (length f.seen))) row reads)
      (sym (calls_read row b (calls_in q (state_at goals f.seen (length f.seen))) reads)))
