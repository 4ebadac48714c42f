-- Tasks.
use Rattle.std.specs.Prelude.{◌≡◌, ℕ, ◌∷◌, Some}
use Rattle.pl_term.specs.Tree.{Chars}
use Rattle.pl_model.specs.Control.{construct}
use Rattle.atom_api.specs.Fixed.{fixed}
use Rattle.iso_search.specs.declared.frames.Task.{Task}
use Rattle.iso_search.specs.declared.frames.Task.TheVariants.{Goal, Commit, Refute, Leave, Collect}
use Rattle.term_store.specs.declared.words.Place.{Place}
use Rattle.term_store.specs.Contents.{Contents}
use Rattle.iso_search.specs.declared.construct.Construct.{Construct}
use Rattle.iso_search.specs.declared.construct.Construct.TheVariants.{Exits, Clears, Retracts, Inspects}
use Rattle.iso_search.specs.declared.search.Search.{Search}
use Rattle.iso_search.specs.Constructs.{IsConstructIn, construction}
use Rattle.iso_search.specs.Frames.{tasks}
use Rattle.iso_search.specs.Reading.{IsView, View, reads}
use Rattle.iso_engine.specs.declared.doing.Doing.TheVariants.{Running}
use Rattle.iso_engine.specs.declared.running.Did.{Did}
use Rattle.iso_engine.specs.declared.running.Did.TheVariants.{Next, Call as CallDid, Row as RowDid, Ask as AskDid, Write as WriteDid, Look as LookDid, Exit as ExitDid, Collect as CollectDid, Clear as ClearDid}
use Rattle.iso_engine.specs.declared.state.looks.Look.TheVariants as looks
use Rattle.iso_engine.specs.Calling.{IsCallAt}
use Rattle.iso_engine.specs.ClauseLooks.{IsLookAt}
use Rattle.iso_engine.specs.Clearing.{IsClearAt}
use Rattle.iso_engine.specs.Collections.{IsCollectAt}
use Rattle.iso_engine.specs.Leaving.{IsExitAt}
use Rattle.iso_engine.specs.Following.{StepsTo}
use Rattle.iso_engine.specs.Rows.{IsRowAt}
use Rattle.iso_engine.specs.State.{IsStateAt}
use Rattle.iso_engine.specs.Writes.{IsWriteAt}

abbrev pub IsFixed : ℕ → Type 0
IsFixed a = (t : Chars) × (fixed a ≡ Some t)

-- It is a goal, or a copy is to be collected.
abbrev pub IsForOthers : Task → Type 0
IsForOthers (Goal w h) = Unit {0}
IsForOthers (Commit h) = ⊥
IsForOthers (Refute h) = ⊥
IsForOthers (Leave h) = ⊥
IsForOthers (Collect w h) = Unit {0}

-- The task is to run the goal at the place.
abbrev pub IsGoalAt : Task → Place → Type 0
IsGoalAt x goal = (cut : ℕ) × (x ≡ Goal goal cut)

-- The goal at the place is of this kind.
abbrev pub IsKindAt : Contents → Place → Construct → Type 0
IsKindAt s goal kind = IsConstructIn s kind × ((v : View) → IsView v → construction v s kind ≡ construct (reads v s goal))

-- Where the task is to run a goal, the goal is of this kind.
abbrev pub IsKindOf : Contents → Task → Construct → Type 0
IsKindOf s x kind = (goal : Place) (cut : ℕ) → x ≡ Goal goal cut → IsKindAt s goal kind

-- Terms can be read.
abbrev pub IsViewed : Type 0
IsViewed = (v : View) × IsView v

-- A step was made from the lists that begin with the task and go on as another one; or the task is a call of the program's
-- clauses, or of a predicate that is a function of its arguments, or of one of the shared state, or writes, or looks through the
-- clauses, or leaves a thread, or asks for a collection, or erases clauses. Then nothing has changed.
abbrev pub IsDone : Search → Task → ℕ → Search → Did → Type 0
IsDone e task rest f (Next d) =
    (list : ℕ) → tasks e.frames.items list ≡ task ∷ tasks e.frames.items rest → StepsTo e (Running list) f d
IsDone e task rest f (CallDid goal p) = (f ≡ e) × IsGoalAt task goal × IsCallAt e.store goal p
IsDone e task rest f (RowDid r) = (f ≡ e) × IsGoalAt task r.place × IsRowAt e.store r
IsDone e task rest f (AskDid x) = (f ≡ e) × IsGoalAt task x.place × IsStateAt e.store x
IsDone e task rest f (WriteDid goal p) = (f ≡ e) × IsGoalAt task goal × IsWriteAt e.store goal p
IsDone e task rest f (LookDid x) = (f ≡ e) × IsGoalAt task x.place × IsLookAt e.store x
IsDone e task rest f (ExitDid goal t) = (f ≡ e) × IsGoalAt task goal × IsExitAt e.store goal t
IsDone e task rest f (CollectDid goal x) = (f ≡ e) × IsGoalAt task goal × IsCollectAt e.store goal x
IsDone e task rest f (ClearDid goal head) = (f ≡ e) × IsGoalAt task goal × IsClearAt e.store goal head

-- What is left over of the goals at the place: a call, a function of its arguments, one of the shared state, one that writes, or one
-- that looks through the clauses, leaves a thread, asks for a collection or erases clauses.
abbrev pub IsLeftOver : Contents → Place → Did → Type 0
IsLeftOver s goal (Next d) = ⊥
IsLeftOver s goal (CallDid w p) = (w ≡ goal) × IsCallAt s goal p
IsLeftOver s goal (RowDid r) = (r.place ≡ goal) × IsRowAt s r
IsLeftOver s goal (AskDid x) = (x.place ≡ goal) × IsStateAt s x
IsLeftOver s goal (WriteDid w p) = (w ≡ goal) × IsWriteAt s goal p
IsLeftOver s goal (LookDid x) = (x.place ≡ goal) × IsLookAt s x
IsLeftOver s goal (ExitDid w t) = (w ≡ goal) × IsExitAt s goal t
IsLeftOver s goal (CollectDid w x) = (w ≡ goal) × IsCollectAt s goal x
IsLeftOver s goal (ClearDid w head) = (w ≡ goal) × IsClearAt s goal head

-- A goal of this kind looks through the clauses, leaves a thread or erases clauses.
abbrev pub IsOwnKind : Construct → Type 0
IsOwnKind (Exits t) = Unit {0}
IsOwnKind (Clears t) = Unit {0}
IsOwnKind (Retracts t) = Unit {0}
IsOwnKind (Inspects h b) = Unit {0}
IsOwnKind _ = ⊥

-- What such a goal at the place is then.
abbrev pub IsOwnDid : Place → Construct → Did → Type 0
IsOwnDid goal (Exits t) d = d ≡ ExitDid goal t
IsOwnDid goal (Clears t) d = d ≡ ClearDid goal t
IsOwnDid goal (Retracts t) d = d ≡ LookDid (record { place = goal; look = looks.Retracts t })
IsOwnDid goal (Inspects h b) d = d ≡ LookDid (record { place = goal; look = looks.Inspects h b })
IsOwnDid goal _ d = ⊥
