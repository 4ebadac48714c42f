-- Where the first engine stands in its file is where its execution does.
use Rattle.std.proofs.Common.{◌≡◌, List, true, false, Some, None, refl, sym, ap, ◌∙◌}
use Rattle.pl_model.specs.Resolution.{State}
use Rattle.pl_model.specs.SharedState.{SharedState}
use Rattle.run_model.specs.Execution.{Job, Consulted, Execution}
use Rattle.run_model.specs.Report.{place_at_hand}
use Rattle.script_api.specs.Parts.{Part, of_goal, of_directive, with_search}
use Rattle.pl_consult.specs.declared.consult.Place.{Place}
use Rattle.pl_consult.specs.declared.consult.Place.TheVariants.{Item, Initialization}
use Rattle.pl_consult.specs.declared.consult.Consult.{Consult}
use Rattle.pl_consult.specs.declared.stage.Stage.{Stage}
use Rattle.pl_consult.specs.declared.stage.Stage.TheVariants.{Items, Clause, Directive, AtDirective, Report, Words, Starts, Goal, AtGoal, Over, Lost}
use Rattle.pl_consult.specs.declared.file_script.FileScript.{FileScript}
use Rattle.pl_consult.specs.Steps.{activity_in, part_of}
use Rattle.pl_consult.specs.FileScripts.{execution_of, is_over}
use Rattle.pl_consult.specs.Hands.{StandsThere, between, at_item, at_end, place_by, place_in}

module _ (c : Consult) (job : Job) (x : Execution) (state : SharedState) (later : x.later ≡ c.later.items) where
  placed_by : (p : Place) → place_by c p state.operators state.flags.double_quotes ≡ place_at_hand c.text.items state x (activity_in job p Items)
  placed_by (Item at) = ap (λ gs. place_at_hand c.text.items state (record x { later = gs }) (activity_in job (Item at) Items)) (sym later)
  placed_by Initialization = ap (λ gs. place_at_hand c.text.items state (record x { later = gs }) (activity_in job Initialization Items)) (sym later)

  -- No item is at hand.
  placed : (stage : Stage)
      → part_of c.place stage ≡ None
      → is_over stage ≡ false
      → place_in c stage state.operators state.flags.double_quotes ≡ place_at_hand c.text.items state x (activity_in job c.place stage)
  placed Items none on = placed_by c.place
  placed (Clause t place ops) none on = refl
  placed (Directive goal place) none on = refl
  placed (AtDirective place) none on = absurd (let no : ⊥ = cc in no)
  placed (Report place how) none on = refl
  placed Words none on = refl
  placed (Starts ops first goals at) none on = refl
  placed (Goal goal) none on = refl
  placed AtGoal none on = absurd (let no : ⊥ = cc in no)
  placed Over none on = absurd (let no : ⊥ = cc in no)
  placed Lost none on = placed_by Initialization

  -- It is searched for.
  searched : (stage : Stage) (p : Part) (r : State)
      → part_of c.place stage ≡ Some p
      → place_in c stage state.operators state.flags.double_quotes ≡ place_at_hand c.text.items state x (with_search x p r).activity
  searched Items p r is = absurd (let no : ⊥ = cc in no)
  searched (Clause t place ops) p r is = absurd (let no : ⊥ = cc in no)
  searched (Directive goal place) p r is = absurd (let no : ⊥ = cc in no)
  searched (AtDirective place) of_goal r is = absurd (let no : ⊥ = cc in no)
  searched (AtDirective place) (of_directive at rest) r is = let same : place ≡ at = cc in ap Some same
  searched (Report place how) p r is = absurd (let no : ⊥ = cc in no)
  searched Words p r is = absurd (let no : ⊥ = cc in no)
  searched (Starts ops first goals at) p r is = absurd (let no : ⊥ = cc in no)
  searched (Goal goal) p r is = absurd (let no : ⊥ = cc in no)
  searched AtGoal of_goal r is = refl
  searched AtGoal (of_directive at rest) r is = absurd (let no : ⊥ = cc in no)
  searched Over p r is = absurd (let no : ⊥ = cc in no)
  searched Lost p r is = absurd (let no : ⊥ = cc in no)

over_place : (c : Consult) (stage : Stage) (state : SharedState) → is_over stage ≡ true → place_in c stage state.operators state.flags.double_quotes ≡ None
over_place c Items state is = absurd (let no : ⊥ = cc in no)
over_place c (Clause t place ops) state is = absurd (let no : ⊥ = cc in no)
over_place c (Directive goal place) state is = absurd (let no : ⊥ = cc in no)
over_place c (AtDirective place) state is = absurd (let no : ⊥ = cc in no)
over_place c (Report place how) state is = absurd (let no : ⊥ = cc in no)
over_place c Words state is = refl
over_place c (Starts ops first goals at) state is = refl
over_place c (Goal goal) state is = refl
over_place c AtGoal state is = refl
over_place c Over state is = refl
over_place c Lost state is = absurd (let no : ⊥ = cc in no)

part_activity : (x y : Execution) (p : Part) (r : State) → (with_search x p r).activity ≡ (with_search y p r).activity
part_activity x y of_goal r = refl
part_activity x y (of_directive place rest) r = refl

part_later : (x : Execution) (p : Part) (r : State) → (with_search x p r).later ≡ x.later
part_later x of_goal r = refl
part_later x (of_directive place rest) r = refl

pub stands_there : (s : FileScript) (job : Job) (lines : List Consulted) (x : Execution) (state : SharedState)
    → StandsThere s job lines x
    → place_in s.consult s.stage state.operators state.flags.double_quotes ≡ place_at_hand s.consult.text.items state x x.activity
stands_there s job lines x state (between none on is) =
    placed s.consult job x state (ap (λ (y : Execution). y.later) is) s.stage none on
    ∙ sym (ap (λ (y : Execution). place_at_hand s.consult.text.items state x y.activity) is)
stands_there s job lines x state (at_item p r at is) =
    searched s.consult job x state (ap (λ (y : Execution). y.later) is ∙ part_later (execution_of s job lines) p r) s.stage p r at
    ∙ ap (place_at_hand s.consult.text.items state x) (part_activity x (execution_of s job lines) p r ∙ sym (ap (λ (y : Execution). y.activity) is))
stands_there s job lines x state (at_end ending os over is) =
    over_place s.consult s.stage state over
    ∙ sym (ap (λ (y : Execution). place_at_hand s.consult.text.items state x y.activity) is)
