-- A row of clauses, with the update that was picked before it.
use Rattle.std.proofs.Common.{◌≡◌, ◌≢◌, ◌≤◌, ◌<◌, ℕ, List, [], ◌++◌, false, length, Option, Some, None, refl, sym, ap, subst, ◌∙◌, arith, append-nil}
use Rattle.std.specs.Prelude.{IsSome, ◌^◌}
use Rattle.std.specs.List.{All}
use Rattle.atomic_table.specs.Seated.{TableId}
use Rattle.pl_term.specs.Tree.{Chars, Tree}
use Rattle.pl_model.specs.History.{History, Kind, erase, is_end}
use Rattle.pl_model.specs.Predicates.{proc_of}
use Rattle.pl_model.specs.Requests.{Request, look}
use Rattle.pl_history.specs.Fronts.{FrontState}
use Rattle.atom_words.specs.declared.size.Size.{Size}
use Rattle.atom_words.specs.declared.view.View.{View}
use Rattle.atom_words.specs.declared.view.Refusal.{Refusal}
use Rattle.atom_table.specs.declared.seats.Keeper.{Keeper}
use Rattle.atom_table.specs.Naming.{names, requests}
use Rattle.clause_db.specs.Parts.{Held as HeldClauses}
use Rattle.hub_threads.specs.Held.{Held as HeldThreads, IsSound}
use Rattle.term_store.specs.ArgumentKeys.{clause_key}
use Rattle.term_store.specs.NumberedNames.{term_by}
use Rattle.term_store.specs.declared.argument_key.ArgumentKey.{ArgumentKey}
use Rattle.world_api.specs.declared.answer.Answer.{Answer}
use Rattle.world_api.specs.declared.visit.Visit.{Visit}
use Rattle.world_api.specs.Asked.{IsInAnswer}
use Rattle.world_api.specs.Gains.{Gains}
use Rattle.world_api.specs.Texts.{Holds, text_of}
use Rattle.world_api.specs.declared.visit.Procedure.{Procedure}
use Rattle.world_api.specs.Visits.{Asks, IsGoal, proc_named}
use Rattle.counted_terms.specs.CountedTerms.{said}
use Rattle.counted_terms.specs.Keeping.{KeeperAt, keeper_view}
use Rattle.counted_terms.specs.Sharing.{Counts, Restored}
use Rattle.counted_terms.specs.declared.row.Row.{Row}
use Rattle.counted_terms.specs.declared.row.Row.TheVariants.{Reads, Makes, Waits, NeedsAtoms, Retry, Worn, Memory}
use Rattle.counted_terms.specs.Rows.{row_names, row_refusals}
use Rattle.hub_database.specs.Database.{IsDatabase, IsUpTo, clause_counts}
use Rattle.hub_database.specs.Rows.{Decides as DatabaseDecides, IsQuiet, IsReply, IsReplyOrMade, IsSteady, RepliesBy, Tells, generation_after, history_after}
use Rattle.hub_database.proofs.Deciding.{steady_database}
use Rattle.hub_threads.specs.Threads.{thread_counts}
use Rattle.world_api.specs.Replies.{Suits}
use Rattle.world_api.specs.declared.reply.Reply.{Reply}
use Rattle.pl_hub.specs.Called.{Called}
use Rattle.pl_hub.specs.Fronts.{IsOwn, told_of}
use Rattle.pl_hub.specs.Settling.{CanSettle, Meets, Sees, answer_of, front_after, hub_after}
use Rattle.pl_hub.specs.State.{IsShared}
use Rattle.pl_hub.specs.Visits.{IsVisit}
use Rattle.pl_hub.proofs.Answering.{is_visit, is_visit_of, none_asked, suited_visit}
use Rattle.pl_hub.proofs.States.{IsOfClauses, clauses_can, clauses_meet, clauses_shared, database_shared, early_can, history_is, steady_restores, told_can, told_meets}
use Rattle.pl_hub.proofs.Visiting.{IsAsked, IsFreshVisit, IsPlainVisit}

-- THE COUNTS that a row is given
pub clause_counts_of : {atoms : TableId} {size : Size} {table : TableId} {goals : ℕ} {f : FrontState} {keeper : Option Keeper} {db : HeldClauses Tree} {q : HeldThreads Tree} {c : ℕ} {b : List Called}
    → IsShared atoms size table goals f keeper db q c b → (n : ℕ) → n ≡ length f.seen → Counts (clause_counts db) (keeper_view keeper) n
clause_counts_of {q = q} was n is = record {
  rest = thread_counts q;
  exact = was.exact;
  few = λ a. let low = was.few a in omega (arith, low, is);
}

pub upto_of : {atoms : TableId} {size : Size} {table : TableId} {goals : ℕ} {f : FrontState} {keeper : Option Keeper} {db : HeldClauses Tree} {q : HeldThreads Tree} {c : ℕ} {b : List Called}
    → IsShared atoms size table goals f keeper db q c b → (n : ℕ) → n ≡ length f.seen → IsUpTo n db
upto_of {db = db} was n is = subst (λ (x : ℕ). IsUpTo x db) (sym is) was.upto

-- WHERE NOTHING BUT THE KEEPER'S SEAT HAS CHANGED
pub shared_steady : (atoms : TableId) (size : Size) (table : TableId) (goals : ℕ) (f : FrontState) (keeper new_keeper : Option Keeper) (db : HeldClauses Tree) (q : HeldThreads Tree) (c : ℕ) (b : List Called)
    → IsShared atoms size table goals f keeper db q c b → IsSound q → KeeperAt atoms size new_keeper → IsSteady (keeper_view keeper) (keeper_view new_keeper)
    → IsShared atoms size table goals f new_keeper db q c b
shared_steady atoms size table goals f keeper new_keeper db q c b was sound at steady =
    clauses_shared atoms size table goals f keeper new_keeper db db q c b was sound at 0 (text_of (λ a. None)) look (erase 0) refl tt Memory
    (steady_restores (clause_counts db) (clause_counts db) (keeper_view keeper) (keeper_view new_keeper) (length f.seen) (length f.seen) steady (λ a. refl) (omega arith))
    was.upto refl (steady_database (keeper_view keeper) (keeper_view new_keeper) db goals f.seen steady.keeps was.database)

-- A row that tells makes no update
pub told_after : (goals e : ℕ) (text : ℕ → Chars) (q : Request) (h : History) (j : Kind) (row : Row) (f : FrontState) → Tells goals e text q h row → hub_after e j row f ≡ f
told_after goals e text q h j (Reads r) f says = refl
told_after goals e text q h j (Makes r) f says = absurd says
told_after goals e text q h j (Waits on) f says = absurd says
told_after goals e text q h j (NeedsAtoms p) f says = refl
told_after goals e text q h j (Retry c) f says = refl
told_after goals e text q h j (Worn w) f says = refl
told_after goals e text q h j Memory f says = refl

told_asked : (goals e : ℕ) (text old_text : ℕ → Chars) (q : Request) (h : History) (visit : Visit Tree ArgumentKey) (row : Row) → Tells goals e text q h row → IsAsked old_text visit row
told_asked goals e text old_text q h visit (Reads r) says = tt
told_asked goals e text old_text q h visit (Makes r) says = tt
told_asked goals e text old_text q h visit (Waits on) says = absurd says
told_asked goals e text old_text q h visit (NeedsAtoms p) says = tt
told_asked goals e text old_text q h visit (Retry c) says = tt
told_asked goals e text old_text q h visit (Worn w) says = tt
told_asked goals e text old_text q h visit Memory says = tt

-- No refusal of an atom is handed on
pub none_refused : (v w : View) (row : Row) → IsQuiet v w → row_refusals row ≡ [] → w.refusals ≡ v.refusals ++ row_refusals row
none_refused v w row quiet unrefused = quiet.refusals ∙ sym (append-nil v.refusals) ∙ ap (λ (l : List Refusal). v.refusals ++ l) (sym unrefused)

-- A ROW THAT TELLS is a visit, for the requests that the visit stands for
module _ (goals e : ℕ) (j : Kind) (f now : FrontState) (is : f ≡ now) (v w : View) (visit : Visit Tree ArgumentKey) (row : Row) where
  pub told_visit : (table : TableId) → IsFreshVisit (text_of (names v)) (text_of (names w)) visit → RepliesBy (λ (r : Reply Tree). Suits visit r) row
      → (any : Request) → Tells goals e (text_of (names w)) any f.seen row
      → ((q : Request) → Asks term_by clause_key (text_of (names v)) visit q → Tells goals e (text_of (names w)) q f.seen row)
      → (front : FrontState) → IsOwn table e front
      → (a : Answer Tree) (g new : FrontState) → a ≡ answer_of row (length f.seen) → g ≡ front_after e j row f.seen front → new ≡ hub_after e j row f
      → Sees f.seen front row
      → All (λ x. IsSome (names w x)) (row_names row)
      → Holds (names v) (names w)
      → w.refusals ≡ v.refusals ++ row_refusals row
      → requests w ≡ requests v
      → IsVisit table goals e v w visit a front g now new
  told_visit table fresh suits any one says front own a g new a_is g_is new_is sees named holds refusals asked =
      subst (λ (x : FrontState). IsVisit table goals e v w visit a front g x new) is
      (suited_visit table goals e v w visit fresh front own f j row suits a g new a_is g_is new_is (told_can goals e (text_of (names w)) any f.seen j row one) sees
      (told_asked goals e (text_of (names w)) (text_of (names v)) any f.seen visit row one)
      (λ q asks. told_meets goals e (text_of (names w)) q f.seen j row (says q asks))
      named holds refusals (none_asked _ v w asked))

  pub told_visit_asking : (table : TableId) → IsFreshVisit (text_of (names v)) (text_of (names w)) visit → RepliesBy (λ (r : Reply Tree). Suits visit r) row
      → (any : Request) → Tells goals e (text_of (names w)) any f.seen row
      → ((q : Request) → Asks term_by clause_key (text_of (names v)) visit q → Tells goals e (text_of (names w)) q f.seen row)
      → (front : FrontState) → IsOwn table e front
      → (a : Answer Tree) (g new : FrontState) → a ≡ answer_of row (length f.seen) → g ≡ front_after e j row f.seen front → new ≡ hub_after e j row f
      → Sees f.seen front row
      → All (λ x. IsSome (names w x)) (row_names row)
      → Holds (names v) (names w)
      → w.refusals ≡ v.refusals ++ row_refusals row
      → Gains (IsInAnswer term_by clause_key (text_of (names v)) visit (told_of goals front)) (Some (requests v)) (Some (requests w))
      → IsVisit table goals e v w visit a front g now new
  told_visit_asking table fresh suits any one says front own a g new a_is g_is new_is sees named holds refusals asked =
      subst (λ (x : FrontState). IsVisit table goals e v w visit a front g x new) is
      (suited_visit table goals e v w visit fresh front own f j row suits a g new a_is g_is new_is (told_can goals e (text_of (names w)) any f.seen j row one) sees
      (told_asked goals e (text_of (names w)) (text_of (names v)) any f.seen visit row one)
      (λ q asks. told_meets goals e (text_of (names w)) q f.seen j row (says q asks))
      named holds refusals asked)

-- A ROW THAT CHANGES CLAUSES is a visit, for the one request that the visit stands for
module _ (goals e : ℕ) (j kind : Kind) (picked : j ≡ kind) (plain_kind : is_end kind ≡ false) (of : IsOfClauses kind) (f now : FrontState) (is : f ≡ now) (q : Request) (w l : View) (db : HeldClauses Tree) (row : Row)
    (says : DatabaseDecides goals e (text_of (names w)) q f.seen kind l db row) where
  pub changes_can : CanSettle j f.seen row
  changes_can = subst (λ (k : Kind). CanSettle k f.seen row) (sym picked) (clauses_can goals e (text_of (names w)) q f.seen kind plain_kind of l db row says)

  changes_meet : Meets goals e (text_of (names w)) q f.seen j row
  changes_meet = subst (λ (k : Kind). Meets goals e (text_of (names w)) q f.seen k row) (sym picked) (clauses_meet goals e (text_of (names w)) q f.seen kind plain_kind of l db row says)

  pub changes_visit : (table : TableId) (v : View) (visit : Visit Tree ArgumentKey)
      → IsPlainVisit (text_of (names v)) (text_of (names w)) visit
      → Asks term_by clause_key (text_of (names v)) visit q
      → ((z : Request) → Asks term_by clause_key (text_of (names v)) visit z → z ≡ q)
      → (front : FrontState) → IsOwn table e front
      → (a : Answer Tree) (g new : FrontState) → a ≡ answer_of row (length f.seen) → g ≡ front_after e j row f.seen front → new ≡ hub_after e j row f
      → Sees f.seen front row
      → All (λ x. IsSome (names w x)) (row_names row)
      → IsQuiet v w
      → row_refusals row ≡ []
      → IsVisit table goals e v w visit a front g now new
  changes_visit table v visit plain asks only front own a g new a_is g_is new_is sees named quiet unrefused =
      subst (λ (x : FrontState). IsVisit table goals e v w visit a front g x new) is
      (is_visit_of table goals e v w visit plain front own f j row q asks only a g new a_is g_is new_is changes_can sees changes_meet
      named quiet.holds (none_refused v w row quiet unrefused) (none_asked _ v w quiet.requests))

  pub changes_shared : {atoms : TableId} {size : Size} {table : TableId} {keeper new_keeper : Option Keeper} {old : HeldClauses Tree} {p : HeldThreads Tree} {c : ℕ} {b : List Called}
      → IsShared atoms size table goals f keeper old p c b → IsSound p → KeeperAt atoms size new_keeper → l ≡ keeper_view new_keeper
      → (n : ℕ) → n ≡ length f.seen
      → Restored (clause_counts old) (clause_counts db) (keeper_view keeper) (keeper_view new_keeper) n (generation_after row n)
      → IsUpTo (generation_after row n) db
      → db.floor ≡ old.floor
      → (new : FrontState) → new ≡ hub_after e j row f
      → IsShared atoms size table goals new new_keeper db p c b
  changes_shared {atoms} {size} {table} {keeper} {new_keeper} {old} {p} {c} {b} was sound at same n is_n restored upto floor new new_is =
      subst (λ (x : FrontState). IsShared atoms size table goals x new_keeper db p c b) (sym new_is)
      (subst (λ (k : Kind). IsShared atoms size table goals (hub_after e k row f) new_keeper db p c b) (sym picked)
      (clauses_shared atoms size table goals f keeper new_keeper old db p c b was sound at e (text_of (names w)) q kind plain_kind of row
      (subst (λ (x : ℕ). Restored (clause_counts old) (clause_counts db) (keeper_view keeper) (keeper_view new_keeper) x (generation_after row x)) is_n restored)
      (subst (λ (x : ℕ). IsUpTo (generation_after row x) db) is_n upto)
      floor
      (subst (λ (k : View). DatabaseDecides goals e (text_of (names w)) q f.seen kind k db row) same says)))

pub generation_le : (row : Row) (g : ℕ) → g ≤ generation_after row g
generation_le (Reads r) g = omega arith
generation_le (Makes r) g = omega arith
generation_le (Waits on) g = omega arith
generation_le (NeedsAtoms p) g = omega arith
generation_le (Retry c) g = omega arith
generation_le (Worn w) g = omega arith
generation_le Memory g = omega arith

-- A REPLY to a goal that is known by its predicate and its key
module _ (goals e : ℕ) (h : History) where
  goals_tell : (n w : View) (p : Procedure) (k : ArgumentKey) (row : Row) (asks : Tree → Request)
      → ((t : Tree) → proc_of (said (names n) t) ≡ proc_named (text_of (names n)) p → clause_key t ≡ k → Tells goals e (text_of (names w)) (asks (said (names n) t)) h row)
      → (q : Request) (goal : Tree) → IsGoal term_by clause_key (text_of (names n)) p k goal → q ≡ asks goal → Tells goals e (text_of (names w)) q h row
  goals_tell n w p k row asks says q goal is same =
      subst (λ (z : Request). Tells goals e (text_of (names w)) z h row) (sym same)
      (subst (λ (x : Tree). Tells goals e (text_of (names w)) (asks x) h row) is.stands (says is.kept (ap proc_of is.stands ∙ is.predicate) is.key_is))

  goals_decide : (n w l : View) (p : Procedure) (k : ArgumentKey) (kind : Kind) (db : HeldClauses Tree) (row : Row) (asks : Tree → Request)
      → ((t : Tree) → proc_of (said (names n) t) ≡ proc_named (text_of (names n)) p → clause_key t ≡ k → DatabaseDecides goals e (text_of (names w)) (asks (said (names n) t)) h kind l db row)
      → (q : Request) (goal : Tree) → IsGoal term_by clause_key (text_of (names n)) p k goal → q ≡ asks goal → DatabaseDecides goals e (text_of (names w)) q h kind l db row
  goals_decide n w l p k kind db row asks says q goal is same =
      subst (λ (z : Request). DatabaseDecides goals e (text_of (names w)) z h kind l db row) (sym same)
      (subst (λ (x : Tree). DatabaseDecides goals e (text_of (names w)) (asks x) h kind l db row) is.stands (says is.kept (ap proc_of is.stands ∙ is.predicate) is.key_is))

pub reply_can : (j : Kind) (h : History) (row : Row) → IsReply row → CanSettle j h row
reply_can j h (Reads r) is = tt
reply_can j h (Makes r) is = absurd is
reply_can j h (Waits on) is = tt
reply_can j h (NeedsAtoms p) is = tt
reply_can j h (Retry c) is = tt
reply_can j h (Worn w) is = tt
reply_can j h Memory is = tt

pub reply_after : (e : ℕ) (j : Kind) (row : Row) (f : FrontState) → IsReply row → hub_after e j row f ≡ f
reply_after e j (Reads r) f is = refl
reply_after e j (Makes r) f is = absurd is
reply_after e j (Waits on) f is = refl
reply_after e j (NeedsAtoms p) f is = refl
reply_after e j (Retry c) f is = refl
reply_after e j (Worn w) f is = refl
reply_after e j Memory f is = refl

reply_asked : (text : ℕ → Chars) (visit : Visit Tree ArgumentKey) (row : Row) → IsReply row → IsAsked text visit row
reply_asked text visit (Reads r) is = tt
reply_asked text visit (Makes r) is = tt
reply_asked text visit (Waits on) is = absurd is
reply_asked text visit (NeedsAtoms p) is = tt
reply_asked text visit (Retry c) is = tt
reply_asked text visit (Worn w) is = tt
reply_asked text visit Memory is = tt

made_asked : (text : ℕ → Chars) (visit : Visit Tree ArgumentKey) (row : Row) → IsReplyOrMade row → IsAsked text visit row
made_asked text visit (Reads r) is = tt
made_asked text visit (Makes r) is = tt
made_asked text visit (Waits on) is = absurd is
made_asked text visit (NeedsAtoms p) is = tt
made_asked text visit (Retry c) is = tt
made_asked text visit (Worn w) is = tt
made_asked text visit Memory is = tt

-- GOALS that only read
module _ (goals e : ℕ) (j : Kind) (f now : FrontState) (is : f ≡ now) (v w : View) (visit : Visit Tree ArgumentKey) (p : Procedure) (k : ArgumentKey) (asks : Tree → Request) (row : Row) (replies : IsReply row)
    (says : (t : Tree) → proc_of (said (names v) t) ≡ proc_named (text_of (names v)) p → clause_key t ≡ k → Tells goals e (text_of (names w)) (asks (said (names v) t)) f.seen row) where
  pub goal_visit : (table : TableId) → IsPlainVisit (text_of (names v)) (text_of (names w)) visit
      → ((q : Request) → Asks term_by clause_key (text_of (names v)) visit q → (goal : Tree) × IsGoal term_by clause_key (text_of (names v)) p k goal × (q ≡ asks goal))
      → (front : FrontState) → IsOwn table e front
      → (a : Answer Tree) (g new : FrontState) → a ≡ answer_of row (length f.seen) → g ≡ front_after e j row f.seen front → new ≡ hub_after e j row f
      → Sees f.seen front row
      → All (λ x. IsSome (names w x)) (row_names row)
      → IsQuiet v w
      → row_refusals row ≡ []
      → IsVisit table goals e v w visit a front g now new
  goal_visit table plain of front own a g new a_is g_is new_is sees named quiet unrefused =
      subst (λ (x : FrontState). IsVisit table goals e v w visit a front g x new) is
      (is_visit table goals e v w visit plain front own f j row a g new a_is g_is new_is (reply_can j f.seen row replies) sees
      (reply_asked (text_of (names v)) visit row replies)
      (λ q asked. let x = of q asked in told_meets goals e (text_of (names w)) q f.seen j row (goals_tell goals e f.seen v w p k row asks says q x.0 x.1 x.2))
      named quiet.holds (none_refused v w row quiet unrefused) (none_asked _ v w quiet.requests))

-- A GOAL that makes its procedure dynamic, where it is not there
module _ (goals e : ℕ) (j kind : Kind) (picked : j ≡ kind) (plain_kind : is_end kind ≡ false) (of : IsOfClauses kind) (f now : FrontState) (is : f ≡ now) (row : Row) (replies : IsReplyOrMade row)
    (early : generation_after row (length f.seen) ≢ length f.seen → length f.seen < 2 ^ 47) where
  pub made_can : CanSettle j f.seen row
  made_can = subst (λ (k : Kind). CanSettle k f.seen row) (sym picked) (early_can kind plain_kind of f.seen row replies early)

  pub made_visit : (v w l : View) (db : HeldClauses Tree) (visit : Visit Tree ArgumentKey) (p : Procedure) (k : ArgumentKey) (asks : Tree → Request)
      → ((t : Tree) → proc_of (said (names v) t) ≡ proc_named (text_of (names v)) p → clause_key t ≡ k → DatabaseDecides goals e (text_of (names w)) (asks (said (names v) t)) f.seen kind l db row)
      → (table : TableId) → IsPlainVisit (text_of (names v)) (text_of (names w)) visit
      → ((q : Request) → Asks term_by clause_key (text_of (names v)) visit q → (goal : Tree) × IsGoal term_by clause_key (text_of (names v)) p k goal × (q ≡ asks goal))
      → (front : FrontState) → IsOwn table e front
      → (a : Answer Tree) (g new : FrontState) → a ≡ answer_of row (length f.seen) → g ≡ front_after e j row f.seen front → new ≡ hub_after e j row f
      → Sees f.seen front row
      → All (λ x. IsSome (names w x)) (row_names row)
      → IsQuiet v w
      → row_refusals row ≡ []
      → IsVisit table goals e v w visit a front g now new
  made_visit v w l db visit p k asks says table plain wanted front own a g new a_is g_is new_is sees named quiet unrefused =
      subst (λ (x : FrontState). IsVisit table goals e v w visit a front g x new) is
      (is_visit table goals e v w visit plain front own f j row a g new a_is g_is new_is made_can sees
      (made_asked (text_of (names v)) visit row replies)
      (λ q asked. let x = wanted q asked in
      subst (λ (z : Kind). Meets goals e (text_of (names w)) q f.seen z row) (sym picked)
      (clauses_meet goals e (text_of (names w)) q f.seen kind plain_kind of l db row (goals_decide goals e f.seen v w l p k kind db row asks says q x.0 x.1 x.2)))
      named quiet.holds (none_refused v w row quiet unrefused) (none_asked _ v w quiet.requests))

  pub made_shared : {atoms : TableId} {size : Size} {table : TableId} {keeper new_keeper : Option Keeper} {old new_db : HeldClauses Tree} {p : HeldThreads Tree} {c : ℕ} {b : List Called}
      → IsShared atoms size table goals f keeper old p c b → IsSound p → KeeperAt atoms size new_keeper
      → Restored (clause_counts old) (clause_counts new_db) (keeper_view keeper) (keeper_view new_keeper) (length f.seen) (generation_after row (length f.seen))
      → IsUpTo (generation_after row (length f.seen)) new_db
      → new_db.floor ≡ old.floor
      → IsDatabase (keeper_view new_keeper) new_db goals (history_after e row kind f.seen)
      → (new : FrontState) → new ≡ hub_after e j row f
      → IsShared atoms size table goals new new_keeper new_db p c b
  made_shared {atoms} {size} {table} {keeper} {new_keeper} {old} {new_db} {p} {c} {b} was sound at restored upto floor after new new_is =
      subst (λ (x : FrontState). IsShared atoms size table goals x new_keeper new_db p c b) (sym new_is)
      (subst (λ (k : Kind). IsShared atoms size table goals (hub_after e k row f) new_keeper new_db p c b) (sym picked)
      (database_shared atoms size table goals f keeper new_keeper old new_db p c b was sound at e kind of row restored upto floor
      (subst (λ (h : History). IsDatabase (keeper_view new_keeper) new_db goals h) (history_is e kind row f.seen) after)))
