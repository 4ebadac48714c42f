-- Goals of clause/2 and retract/1, which look through the clauses for a head.
use Rattle.std.specs.Prelude.{◌≡◌, ◌⊎◌, ℕ, [], ◌∷◌, Option, IsSome}
use Rattle.std.specs.List.{All}
use Rattle.pl_term.specs.Tree.{Tree, comp, more, none}
use Rattle.pl_model.specs.Checks.{bound_error, callable_error, first_error}
use Rattle.pl_model.specs.BodyChecks.{clause_of_term, rule}
use Rattle.pl_model.specs.Control.{construct, error_of, inspects, retracts, unless, with_clauses}
use Rattle.pl_model.specs.Control as control
use Rattle.pl_model.specs.History.{body_part, head_part}
use Rattle.pl_model.specs.Resolution as resolution
use Rattle.pl_model.specs.Resolution.{Limits, Next, Node, State, throwing}
use Rattle.atom_api.specs.FixedNames.{clause_name, retract_name}
use Rattle.atom_api.specs.Names.{Names}
use Rattle.term_store.specs.Contents.{Contents, Holds, term_at}
use Rattle.term_store.specs.Heap.{atom_name}
use Rattle.term_store.specs.NumberedNames.{names_of}
use Rattle.world_api.specs.Told.{Told}
use Rattle.world_api.specs.declared.visit.Procedure.{Procedure}
use Rattle.world_builtins.specs.Naming.{IsHeldAt}
use Rattle.iso_search.specs.declared.choices.Purpose.{Purpose}
use Rattle.iso_search.specs.declared.choices.Purpose.TheVariants.{Inspecting, Retracting}
use Rattle.iso_search.specs.Choices.{listed_goal, purpose_of}
use Rattle.iso_search.specs.declared.search.Search.{Search}
use Rattle.iso_search.specs.declared.outcome.Fault.TheVariants.{Inferences}
use Rattle.iso_search.specs.declared.outcome.Outcome.TheVariants.{Raise}
use Rattle.iso_search.specs.Outcomes.{IsAfter}
use Rattle.iso_search.specs.Reading.{View, reads}
use Rattle.iso_search.specs.Searching.{node_of}
use Rattle.iso_engine.specs.Parts.{IsOverAtoms}
use Rattle.iso_engine.specs.Wrote.{led}
use Rattle.iso_engine.specs.GoalSteps.{IsStepAlone, IsStepAnswered, step_refused}
use Rattle.iso_engine.specs.declared.state.looks.Look.{Look}
use Rattle.iso_engine.specs.declared.state.looks.Look.TheVariants.{Inspects, Retracts}
use Rattle.iso_engine.specs.declared.state.looks.LookGoal.{LookGoal}
use Rattle.iso_engine.specs.declared.call.called.Called.{Called}
use Rattle.iso_engine.specs.declared.call.called.Called.TheVariants as calls
use Rattle.iso_engine.specs.ClausesAsked.{listing}

abbrev pub purpose_for : Look → Purpose
purpose_for (Inspects h b) = Inspecting
purpose_for (Retracts t) = Retracting

-- The predicate, by its fixed name.
abbrev pub predicate_for : Look → Procedure
predicate_for (Inspects h b) = record { name = clause_name; arity = 2 }
predicate_for (Retracts t) = record { name = retract_name; arity = 1 }

abbrev pub IsLookIn : Contents → Look → Type 0
IsLookIn s (Inspects h b) = Holds s h × Holds s b
IsLookIn s (Retracts t) = Holds s t

abbrev pub look_construct : View → Contents → Look → control.Construct
look_construct v s (Inspects h b) = inspects (reads v s h) (reads v s b)
look_construct v s (Retracts t) = retracts (reads v s t)

-- The atoms of what it looks for are held.
abbrev pub IsLookHeld : Names → Contents → Look → Type 0
IsLookHeld m s (Inspects h b) = IsHeldAt m s h × IsHeldAt m s b
IsLookHeld m s (Retracts t) = IsHeldAt m s t

-- What is taken apart is a term over atoms.
abbrev pub IsLookOver : Contents → Look → Type 0
IsLookOver s (Inspects h b) = Unit {0}
IsLookOver s (Retracts t) = IsOverAtoms (term_at s t)

-- The error for which the goal is refused, and the rule that is tried with clauses.
abbrev pub look_error : View → Contents → Look → Option Tree
look_error v s (Inspects h b) = first_error (bound_error (reads v s h) ∷ callable_error (reads v s h) ∷ callable_error (reads v s b) ∷ [])
look_error v s (Retracts t) = error_of (clause_of_term (reads v s t))

abbrev pub looked_rule : View → Contents → Look → Tree
looked_rule v s (Inspects h b) = rule (reads v s h) (reads v s b)
looked_rule v s (Retracts t) = rule (head_part (reads v s t)) (body_part (reads v s t))

-- The step, once the inference is made.
abbrev pub look_next : Limits → State → Node → Tree → View → Contents → Look → Next
look_next l q n g v s x =
    let p = purpose_of (purpose_for x) in
    let r = looked_rule v s x in
    unless q n g (look_error v s x) (resolution.asks (listing (purpose_for x) (listed_goal p r)) (with_clauses l p q r n))

-- The goal, over numbers of atoms.
abbrev pub look_term : Contents → Look → Tree
look_term s (Inspects h b) = comp (atom_name clause_name) (term_at s h) (more (term_at s b) none)
look_term s (Retracts t) = comp (atom_name retract_name) (term_at s t) none

-- The goal stands at its place.
pub record IsLookAt (s : Contents) (x : LookGoal) : Type 0 where
  pub holds : Holds s x.place
  pub inside : IsLookIn s x.look
  pub means : term_at s x.place ≡ look_term s x.look

-- What the goal leads to. Where no inference can be made nothing has changed.
abbrev pub IsLookDone : Told → Search → LookGoal → ℕ → Names → Told → Search → Called → Type 0
IsLookDone t e x rest n u d calls.Spent = (u ≡ t) × ((d ≡ e) × IsStepAlone n e x.place rest e (Raise Inferences))
IsLookDone t e x rest n u d (calls.Ran o) =
    ((u ≡ t) × IsStepAlone n e x.place rest d o) ⊎ (IsStepAnswered t e x.place rest n u (λ s. led s e x.place rest d o) × IsAfter e d o)
IsLookDone t e x rest n u d (calls.Refused error) =
    IsStepAnswered t e x.place rest n u (λ s. step_refused s e x.place rest d error n)
    × (All (λ a. IsSome (n a)) (names_of error) × (((v : View) → (node_of v d rest).goals ≡ (node_of v e rest).goals) × (d.budgets ≡ e.budgets)))
