-- Goals of retractall/1, and what they lead to.
use Rattle.std.specs.Prelude.{◌≡◌, ℕ, [], ◌∷◌, List, Option, None, IsSome}
use Rattle.std.specs.List.{All}
use Rattle.pl_term.specs.Tree.{Tree, comp, none}
use Rattle.pl_model.specs.Checks.{bound_error, callable_error, first_error}
use Rattle.pl_model.specs.Control.{clear_next, cleared, raised, retractall_proc}
use Rattle.pl_model.specs.Database.{Stored}
use Rattle.pl_model.specs.History.{Clause, History}
use Rattle.pl_model.specs.Requests.{erase_clause}
use Rattle.pl_model.specs.Resolution.{Next, State, asks, clearing, goes}
use Rattle.atom_api.specs.FixedNames.{retractall_name}
use Rattle.atom_api.specs.Names.{Names}
use Rattle.term_store.specs.declared.words.Place.{Place}
use Rattle.term_store.specs.Contents.{Contents, Holds, term_at}
use Rattle.term_store.specs.Heap.{atom_name}
use Rattle.term_store.specs.NumberedNames.{names_of, term_by}
use Rattle.world_api.specs.Answers.{seen_as}
use Rattle.world_api.specs.Replies.{found_names}
use Rattle.world_api.specs.Texts as worlds
use Rattle.world_api.specs.Told.{Told, Follows}
use Rattle.world_api.specs.Visits.{clause_in}
use Rattle.world_api.specs.declared.reply.Found.{Found}
use Rattle.world_api.specs.declared.reply.Reply.{Reply as WorldReply}
use Rattle.world_api.specs.declared.reply.Reply.TheVariants as replies
use Rattle.world_api.specs.declared.visit.Procedure.{Procedure}
use Rattle.iso_search.specs.declared.frames.Task.TheVariants.{Goal}
use Rattle.iso_search.specs.Errors.{IsOfBudget}
use Rattle.iso_search.specs.declared.search.Search.{Search}
use Rattle.iso_search.specs.Frames.{tasks}
use Rattle.iso_search.specs.Outcomes.{Setting, fault_term, limits_in, state_in}
use Rattle.iso_search.specs.Reading.{IsView, View, reads}
use Rattle.iso_search.specs.Searching.{node_of, state_of}
use Rattle.iso_engine.specs.declared.doing.Doing.{Doing}
use Rattle.iso_engine.specs.declared.doing.Doing.TheVariants.{Clearing, Throwing}
use Rattle.iso_engine.specs.declared.doing.Left.{Left}
use Rattle.iso_engine.specs.declared.engine.Engine.{Engine}
use Rattle.iso_engine.specs.declared.state.clearing.Cleared.{Cleared}
use Rattle.iso_engine.specs.declared.state.clearing.Cleared.TheVariants.{Lists, Ran, Refused}
use Rattle.iso_engine.specs.declared.state.meeting.Met.{Met}
use Rattle.iso_engine.specs.declared.state.meeting.Met.TheVariants.{Meets, Differs, Raises}
use Rattle.iso_engine.specs.Calling.{IsErrorBall}
use Rattle.iso_engine.specs.Lists.{IsListed, IsOpenBehind}
use Rattle.iso_engine.specs.Parts.{IsOverAtoms}
use Rattle.iso_engine.specs.Views.{IsViewFrom}
use Rattle.iso_engine.specs.GoalSteps.{IsStepAlone, IsStepAnswered, step_refused}
use Rattle.iso_engine.specs.Standing.{left_clauses, left_of}

abbrev pub clear_procedure : Procedure
clear_procedure = record { name = retractall_name; arity = 1 }

-- The goal at the place is one of retractall/1 with this head.
pub record IsClearAt (s : Contents) (goal head : Place) : Type 0 where
  pub holds : Holds s goal
  pub inside : Holds s head
  pub means : term_at s goal ≡ comp (atom_name retractall_name) (term_at s head) none

-- The tasks of the list begin with such a goal, and go on as another list.
pub record ClearsAt (e : Search) (list : ℕ) (head : Place) (rest : ℕ) : Type 0 where
  pub goal : Place
  pub cut : ℕ
  pub first : tasks e.frames.items list ≡ Goal goal cut ∷ tasks e.frames.items rest
  pub at : IsClearAt e.store goal head

-- The error for which the goal is refused.
abbrev pub clear_error : View → Contents → Place → Option Tree
clear_error v s head = first_error (bound_error (reads v s head) ∷ (callable_error (reads v s head) ∷ []))

-- These clauses are still to be looked at, before the tasks of a list.
abbrev pub cleared_state : Setting → Search → Place → ℕ → ℕ → Left → State
cleared_state s d head rest g left =
    let h = reads s.view d.store head in state_of s.view d (clearing h (left_clauses s.view h g left) (node_of s.view d rest)) s.output

-- What the goal leads to.
abbrev pub IsClearDone : Told → Search → Place → Place → ℕ → Names → Told → Search → Cleared → Type 0
IsClearDone t e goal head rest n u d (Lists g found) =
    IsStepAnswered t e goal rest n u (λ s. cleared_state s d head rest g (left_of None found)) × (d ≡ record e { inferences = d.inferences })
IsClearDone t e goal head rest n u d (Ran o) = (u ≡ t) × IsStepAlone n e goal rest d o
IsClearDone t e goal head rest n u d (Refused error) =
    IsStepAnswered t e goal rest n u (λ s. step_refused s e goal rest d error n)
    × (All (λ a. IsSome (n a)) (names_of error) × (d ≡ record e { inferences = d.inferences }))

-- What comes of a clause that is looked at, by the definition: it is to be erased, or the clauses after it are next, or there were no
-- numbers or no cells for it.
abbrev pub IsMetBy : Setting → Search → Place → ℕ → Search → Met → Stored Clause → List (Stored Clause) → Next → Type 0
IsMetBy s e head rest d Meets c cs x =
    let h = reads s.view e.store head in x ≡ asks (erase_clause c.place) (cleared (state_in s d) (node_of s.view e rest) h cs)
IsMetBy s e head rest d Differs c cs x =
    let h = reads s.view e.store head in x ≡ goes (let y : State = record (state_in s d) { doing = clearing h cs (node_of s.view e rest) } in y)
IsMetBy s e head rest d (Raises f) c cs x =
    (d ≡ e) × (x ≡ goes (raised (state_in s e) (node_of s.view e rest) (fault_term (reads s.view e.store) f) retractall_proc))

-- Nothing is of the store of what is raised.
abbrev pub IsMetFault : Met → Type 0
IsMetFault Meets = Unit {0}
IsMetFault Differs = Unit {0}
IsMetFault (Raises f) = IsOfBudget f

abbrev pub IsMet : Search → Place → Tree → Search → Met → Type 0
IsMet e head clause d m =
    (s : Setting) (rest : ℕ) (c : Stored Clause) (cs : List (Stored Clause))
    → IsView s.view
    → c.clause ≡ clause_in (term_by (worlds.text_of s.view.names) clause)
    → IsMetBy s e head rest d m c cs (clear_next (limits_in s e) (state_in s e) (node_of s.view e rest) (reads s.view e.store head) (c ∷ cs))

-- What comes of a reply that lists clauses or refuses.
abbrev pub cleared_as : WorldReply Tree → ℕ → Cleared
cleared_as (replies.Clauses f) g = Lists g f
cleared_as (replies.Refused e) g = Refused e
cleared_as r g = Lists g None

-- The engine that has these clauses of the generation left, for the goal that is the first task of a list.
abbrev pub clears_with : Engine → ℕ → ℕ → Left → Engine
clears_with e list g x = let y : Engine = record e { doing = Clearing list g x } in y

-- The engine has seen the entries `before`, and the next of the clauses was found.
pub record IsNextFound (t : Told) (e : Search) (head : Place) (g place : ℕ) (n : Names) (u : Told) (found : Option (Found Tree)) : Type 0 where
  pub before : History
  pub follows : Follows t.engine t.history before
  pub told : u ≡ seen_as t before t.gens
  pub named : All (λ a. IsSome (n a)) (found_names names_of found)
  -- However the engine is read from then on, what was found is the first of what is left, and the list is open after it.
  pub answered : (v : View) → IsViewFrom n u v → let h = reads v e.store head in IsListed v h g found (v.left h g place) × IsOpenBehind u h g found

-- The error is raised in retractall/1.
pub record IsClearRaised (e : Tree) (rest : ℕ) (d : Doing) : Type 0 where
  pub ball : Tree
  pub throws : d ≡ Throwing ball rest
  pub is : IsErrorBall e clear_procedure ball
  pub over : IsOverAtoms e

-- The clauses that are left are next, whether or not the clause was erased before; or an error.
abbrev pub IsClearedTo : WorldReply Tree → ℕ → ℕ → Left → ℕ → Doing → Type 0
IsClearedTo replies.Done list g x rest d = d ≡ Clearing list g x
IsClearedTo replies.Gone list g x rest d = d ≡ Clearing list g x
IsClearedTo (replies.Refused e) list g x rest d = IsClearRaised e rest d
IsClearedTo _ list g x rest d = ⊥
