-- A search as a part of an execution: its limits, its start, and its requests.
use Rattle.std.proofs.Common.{◌≡◌, ℕ, [], Option, sym, ap, ap₂, ◌∙◌}
use Rattle.pl_term.specs.Tree.{Chars, Tree}
use Rattle.pl_model.specs.Requests.{Request, Reply}
use Rattle.pl_model.specs.Resolution.{Limits, State, asks}
use Rattle.pl_model.specs.Control.{start, step}
use Rattle.run_model.specs.Execution.{Job, Execution, move, requests, searched, directed}
use Rattle.atom_api.specs.Names.{FixedStand, Names}
use Rattle.term_store.specs.NumberedNames.{by_number, term_by}
use Rattle.world_api.specs.Texts as worlds
use Rattle.world_api.specs.Told.{Told}
use Rattle.script_api.specs.Parts.{Part, of_goal, of_directive, limits_of, with_search}
use Rattle.iso_search.specs.declared.search.Budgets.{Budgets}
use Rattle.iso_search.specs.Reading.{IsView, View}
use Rattle.iso_search.specs.Spelling.{spelled, text_of}
use Rattle.iso_engine.specs.declared.engine.Engine.{Engine}
use Rattle.iso_engine.specs.declared.engine.Stays.{Stays}
use Rattle.iso_engine.specs.Views.{view_of}
use Rattle.iso_engine.specs.Standing.{state_now, staying}
use Rattle.iso_engine.specs.Standing as engines
use Rattle.iso_engine.specs.Starting.{IsFresh}
use Rattle.engine_run.specs.Ran.{HasBudgets}
use Rattle.engine_run.proofs.Readings.{read_over}

-- A step that asks is a move that asks.
pub asks_in : (job : Job) (part : Part) (x : Execution) (s : State) (q : Request) (next : Reply → State) → step (limits_of job part) s ≡ asks q next
    → (k : Reply → Execution) × (move job (with_search x part s) ≡ requests q k)
unfolding move
asks_in job of_goal x s q next is = (λ r. with_search x of_goal (next r), ap (searched (with_search x of_goal s) s) is)
asks_in job (of_directive place rest) x s q next is =
    (λ r. with_search x (of_directive place rest) (next r), ap (directed (with_search x (of_directive place rest) s) place rest s) is)

module _ (budgets : Budgets) (wanted : ℕ) (stays : Stays) (e : Engine) (fresh : IsFresh budgets wanted stays e) where
  abbrev with_limits : ℕ → ℕ → ℕ → ℕ → Option Chars → Limits
  with_limits i c h s y = let l : Limits = record { inferences = i; cells = c; choices = h; solutions = s; stays = y } in l

  by_parts : (i c h s j d k w : ℕ) (y z : Option Chars) → i ≡ j → c ≡ d → h ≡ k → s ≡ w → y ≡ z → with_limits i c h s y ≡ with_limits j d k w z
  by_parts i c h s j d k w y z p q r o x =
      ap (λ a. with_limits a c h s y) p ∙ ap (λ a. with_limits j a h s y) q ∙ ap (λ a. with_limits j d a s y) r ∙ ap (λ a. with_limits j d k a y) o
      ∙ ap (λ a. with_limits j d k w a) x

  -- The limits of the engine are those of the part.
  pub limits_same : (job : Job) (part : Part) → HasBudgets budgets job.limits → (limits_of job part).solutions ≡ wanted → job.limits.stays ≡ staying stays
      → limits_of job part ≡ engines.limits_of e
  limits_same job of_goal has wants stay =
      by_parts _ _ _ _ _ _ _ _ _ _
      (has.inferences ∙ ap (λ (b : Budgets). b.inferences) (sym fresh.budgets_are))
      (has.cells ∙ ap (λ (b : Budgets). b.cells) (sym fresh.budgets_are))
      (has.choices ∙ ap (λ (b : Budgets). b.choices) (sym fresh.budgets_are))
      (wants ∙ sym fresh.wants)
      (stay ∙ ap staying (sym fresh.stays_so))
  limits_same job (of_directive place rest) has wants stay =
      by_parts _ _ _ _ _ _ _ _ _ _
      (has.inferences ∙ ap (λ (b : Budgets). b.inferences) (sym fresh.budgets_are))
      (has.cells ∙ ap (λ (b : Budgets). b.cells) (sym fresh.budgets_are))
      (has.choices ∙ ap (λ (b : Budgets). b.choices) (sym fresh.budgets_are))
      (wants ∙ sym fresh.wants)
      (stay ∙ ap staying (sym fresh.stays_so))

  -- The search begins as the engine does.
  pub start_same : (m : Names) (t : Told) (goal : Tree) → FixedStand m → by_number goal ≡ goal → IsView (view_of m t)
      → ((v : View) → IsView v → state_now v e [] ≡ start (engines.limits_of e) (spelled (text_of v.names) goal))
      → (job : Job) (part : Part) → limits_of job part ≡ engines.limits_of e
      → state_now (view_of m t) e [] ≡ start (limits_of job part) (term_by (worlds.text_of m) goal)
  start_same m t goal stand over view starts job part same =
      starts (view_of m t) view
      ∙ ap₂ start (sym same) (sym (read_over m stand goal over))
