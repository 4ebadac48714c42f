-- What an engine comes to by a call of the program's clauses.
use Rattle.std.proofs.Common.{◌≡◌, ℕ, ◌≤◌, ◌∷◌, length, true, nat_lt, refl, sym, ap}
use Rattle.std.proofs.lemmas.Bool.{lt-ltb}
use Rattle.pl_term.specs.Tree.{Tree}
use Rattle.pl_model.specs.Requests.{listed, refused}
use Rattle.atom_api.specs.Names.{Names}
use Rattle.term_store.specs.declared.words.Place.{Place}
use Rattle.term_store.specs.Heap.{atom_name}
use Rattle.world_api.specs.declared.visit.Procedure.{Procedure}
use Rattle.world_api.specs.Texts.{Holds}
use Rattle.world_api.specs.Told.{Told}
use Rattle.iso_search.specs.declared.frames.Task.TheVariants.{Goal}
use Rattle.iso_search.specs.declared.choices.Purpose.TheVariants.{Resolving}
use Rattle.iso_search.specs.declared.outcome.Fault.TheVariants.{Inferences}
use Rattle.iso_search.specs.declared.outcome.Outcome.{Outcome}
use Rattle.iso_search.specs.declared.outcome.Outcome.TheVariants.{Raise}
use Rattle.iso_search.specs.declared.search.Search.{Search}
use Rattle.iso_search.specs.Frames.{tasks}
use Rattle.iso_search.specs.Outcomes.{Setting, doing_by}
use Rattle.iso_search.specs.Reading.{IsView}
use Rattle.iso_search.specs.Searching.{IsWhole, node_of}
use Rattle.iso_search.specs.Spelling.{text_of}
use Rattle.iso_engine.specs.Called.{IsRefused, IsRun, IsSpent}
use Rattle.iso_engine.specs.Parts.{IsOverAtoms}
use Rattle.iso_engine.specs.declared.doing.Doing.TheVariants.{Running, Throwing}
use Rattle.iso_engine.specs.declared.engine.Engine.{Engine}
use Rattle.iso_engine.specs.Calling.{IsCallAt, IsErrorBall}
use Rattle.iso_engine.specs.Views.{view_of}
use Rattle.iso_engine.specs.Ready.{IsReady}
use Rattle.iso_engine.specs.Standing.{doing_of, aims_of}
use Rattle.iso_engine.proofs.Calls.{now_listed, refused_asks, refused_now, refused_served, request, run_asks, run_served, spent_steps}
use Rattle.iso_engine.proofs.Moving.{IsMoved, asked_moved, asked_ready, seen_moved}
use Rattle.iso_engine.proofs.Stability.{steps_from}
use Rattle.std.proofs.Common.{[], None, append-nil}

module _ (m n : Names) (t u : Told) (e f : Engine) (at : Place) (p : Procedure) (list cut rest : ℕ) (running_is : e.doing ≡ Running list)
    (first : tasks e.search.frames.items list ≡ Goal at cut ∷ tasks e.search.frames.items rest) (le : rest ≤ length e.search.frames.items)
    (call : IsCallAt e.search.store at p) (holds : Holds m n) (view : IsView (view_of n u)) (ready : IsReady m t e)
    (wanted : aims_of f ≡ aims_of e) (given : f.solutions_found ≡ e.solutions_found) (whole : IsWhole f.search) where
  -- The doing that follows an outcome of the predicate.
  abbrev IsFollowed : Outcome → Type 0
  IsFollowed o =
      (r : Setting) → IsView r.view → doing_of r.view f.search f.doing
      ≡ doing_by r f.search (node_of r.view f.search rest) (record { name = text_of r.view.names (atom_name p.name); arity = p.arity }) o

  pub ran_moved : (o : Outcome) → IsRun Resolving m t e.search at rest n u f.search o → IsFollowed o → IsMoved m n t u e f holds view ready
  ran_moved o run follows =
      let there = asked_ready m n t u e f holds view ready run.before None run.asked
      in let some : nat_lt e.search.inferences e.search.budgets.inferences ≡ true = lt-ltb e.search.inferences e.search.budgets.inferences run.count
      in asked_moved m n t u e f holds view ready run.before None run.asked
      (request m n t u e f at p list cut rest running_is first le call holds view ready there)
      (listed (now_listed m n t u e f at p list cut rest running_is first le call holds view ready there o run some follows))
      (run_served m n t u e f at p list cut rest running_is first le call holds view ready there o run some follows)
      (run_asks m n t u e f at p list cut rest running_is first le call holds view ready there o run some follows)
      run.after.budgets wanted given whole

  pub refused_moved : (error ball : Tree) → IsRefused Resolving m t e.search at n u f.search error → IsOverAtoms error → IsErrorBall error p ball → f.doing ≡ Throwing ball rest
      → IsMoved m n t u e f holds view ready
  refused_moved error ball x over is throws =
      let there = asked_ready m n t u e f holds view ready x.before None x.asked
      in let some : nat_lt e.search.inferences e.search.budgets.inferences ≡ true = lt-ltb e.search.inferences e.search.budgets.inferences x.count
      in asked_moved m n t u e f holds view ready x.before None x.asked
      (request m n t u e f at p list cut rest running_is first le call holds view ready there)
      (refused (refused_now m n t u e f at p list cut rest running_is first le call holds view ready there error ball x some over is throws))
      (refused_served m n t u e f at p list cut rest running_is first le call holds view ready there error ball x some over is throws)
      (refused_asks m n t u e f at p list cut rest running_is first le call holds view ready there error ball x some over is throws)
      (ap (λ (s : Search). s.budgets) x.search) wanted given whole

  pub spent_moved : u ≡ t → f.search ≡ e.search → IsSpent e.search at rest → IsFollowed (Raise Inferences) → IsMoved m n t u e f holds view ready
  spent_moved told same spent follows =
      seen_moved m n t u e f holds view ready t.history (record { later = []; grown = sym (append-nil t.history); others = refl }) told
      (steps_from n u e.solution_limit e.solutions_found e.search e.doing f.search f.doing
      (spent_steps m n t u e f at p list cut rest running_is first le call e.solution_limit e.solutions_found same spent follows))
      (ap (λ (s : Search). s.budgets) same) wanted given whole
