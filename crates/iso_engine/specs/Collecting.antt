-- Goals of garbage_collect_atoms/0 and garbage_collect_clauses/0.
use Rattle.std.specs.Prelude.{◌≡◌, ◌⊎◌, ℕ, None}
use Rattle.pl_term.specs.Tree.{Tree}
use Rattle.pl_model.specs.History.{History}
use Rattle.pl_model.specs.Requests.{Request, collect_atoms, collect_clauses, done}
use Rattle.pl_model.specs.Service.{answers, served_now}
use Rattle.atom_api.specs.Names.{Names}
use Rattle.term_store.specs.declared.argument_key.ArgumentKey.{ArgumentKey}
use Rattle.term_store.specs.declared.words.Place.{Place}
use Rattle.world_api.specs.Told.{Told}
use Rattle.world_api.specs.declared.visit.Procedure.{Procedure}
use Rattle.world_api.specs.declared.visit.Visit.{Visit}
use Rattle.world_api.specs.declared.visit.Visit.TheVariants as visits
use Rattle.iso_search.specs.declared.outcome.Outcome.{Outcome}
use Rattle.iso_search.specs.declared.search.Search.{Search}
use Rattle.iso_search.specs.Outcomes.{IsAfter}
use Rattle.iso_engine.specs.declared.state.collecting.Collection.{Collection}
use Rattle.iso_engine.specs.declared.state.collecting.Collection.TheVariants.{Atoms, Clauses}
use Rattle.iso_engine.specs.Called.{IsAsked}
use Rattle.iso_engine.specs.Collections.{collection_name}
use Rattle.iso_engine.specs.GoalSteps.{IsStepAlone, IsStepAnswered}
use Rattle.iso_engine.specs.Wrote.{led}

-- The predicate, what it asks, and the visit for that.
abbrev pub collection_procedure : Collection → Procedure
collection_procedure x = record { name = collection_name x; arity = 0 }

abbrev pub collection_request : Collection → Request
collection_request Atoms = collect_atoms
collection_request Clauses = collect_clauses

abbrev pub collection_visit : Collection → Visit Tree ArgumentKey
collection_visit Atoms = visits.CollectAtoms
collection_visit Clauses = visits.CollectClauses

-- The search has come to the outcome of the goal, which asked nothing, or was answered.
abbrev pub IsGoalDone : Told → Search → Place → ℕ → Names → Told → Search → Outcome → Type 0
IsGoalDone t e goal rest n u d o =
    ((u ≡ t) × IsStepAlone n e goal rest d o) ⊎ (IsStepAnswered t e goal rest n u (λ s. led s e goal rest d o) × IsAfter e d o)

-- The request was answered after all entries.
pub record IsCollected (t : Told) (x : Collection) (u : Told) : Type 0 where
  pub before : History
  pub asked : IsAsked t before None u
  pub served : served_now t.engine t.goals before (collection_request x) ≡ answers done None
