-- The script of an engine that was started with a goal.
use Rattle.std.specs.Prelude.{◌≡◌, ℕ, List, [], Bool, true, false, Option, Some, None}
use Rattle.std.specs.List.{All}
use Rattle.std.proofs.Common.{ap, refl, ◌∙◌}
use Rattle.pl_term.specs.Tree.{Chars, Tree}
use Rattle.run_model.specs.Execution.{Script, Job, runs, Consulted, Execution, at_activity, beginning, initializing}
use Rattle.run_model.specs.Lawful.{IsRunning}
use Rattle.script_api.specs.declared.once.Stage.{Stage}
use Rattle.script_api.specs.declared.once.Stage.TheVariants.{Fresh, AtHand, Over}
use Rattle.script_api.specs.Parts.{Part, of_goal}
use Rattle.script_api.specs.Scripts.{texts_at}

abbrev pub part_of : {T : Type 0} → Stage T → Option Part
part_of (Fresh t) = None
part_of AtHand = Some of_goal
part_of Over = None

abbrev pub over_of : {T : Type 0} → Stage T → Bool
over_of (Fresh t) = false
over_of AtHand = false
over_of Over = true

abbrev pub names_of : {T : Type 0} → (T → List ℕ) → Stage T → List ℕ
names_of names (Fresh t) = names t
names_of names AtHand = []
names_of names Over = []

module _ {T : Type 0} (term : (ℕ → Chars) → T → Tree) where
  abbrev pub execution_of : (ℕ → Chars) → Stage T → Job → List Consulted → Execution
  execution_of text (Fresh t) job cs = record (at_activity (beginning (term text t))) { consulted = cs }
  execution_of text AtHand job cs = record (at_activity initializing) { consulted = cs }
  execution_of text Over job cs = record (at_activity initializing) { consulted = cs }

  abbrev pub plays_of : (ℕ → Chars) → Stage T → Script → Type 0
  plays_of text (Fresh t) x = x ≡ runs (term text t)
  plays_of text AtHand x = Unit {0}
  plays_of text Over x = Unit {0}

  pub same_lines : (text : ℕ → Chars) (s : Stage T) (job : Job) (cs : List Consulted) → (execution_of text s job cs).consulted ≡ cs
  same_lines text (Fresh t) job cs = refl
  same_lines text AtHand job cs = refl
  same_lines text Over job cs = refl

  pub all_running : (text : ℕ → Chars) (s : Stage T) (job : Job) (cs : List Consulted) → IsRunning (execution_of text s job cs)
  all_running text (Fresh t) job cs ending is = absurd (cc)
  all_running text AtHand job cs ending is = absurd (cc)
  all_running text Over job cs ending is = absurd (cc)

  pub all_reported : (text : ℕ → Chars) (s : Stage T) (job : Job) (cs : List Consulted) → texts_at (execution_of text s job cs).activity ≡ []
  all_reported text (Fresh t) job cs = refl
  all_reported text AtHand job cs = refl
  all_reported text Over job cs = refl

  pub same_under : (names : T → List ℕ)
      → ((t : T) (text other : ℕ → Chars) → All (λ a. text a ≡ other a) (names t) → term text t ≡ term other t)
      → (s : Stage T) (text other : ℕ → Chars)
      → All (λ a. text a ≡ other a) (names_of names s)
      → ((job : Job) (cs : List Consulted) → execution_of text s job cs ≡ execution_of other s job cs)
      × ((x : Script) → plays_of text s x → plays_of other s x)
  same_under names tell (Fresh t) text other same =
      let e : term text t ≡ term other t = tell t text other same
      in (
        (λ job cs. ap (λ (u : Tree). let y : Execution = record (at_activity (beginning u)) { consulted = cs } in y) e),
        (λ x p. p ∙ ap runs e),
      )
  same_under names tell AtHand text other same = ((λ job cs. refl), (λ x p. tt))
  same_under names tell Over text other same = ((λ job cs. refl), (λ x p. tt))
