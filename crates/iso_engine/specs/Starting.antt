-- Engines that have made no step.
use Rattle.std.specs.Prelude.{◌≡◌, ℕ, [], ◌∷◌, length, false, Option, Some, None, Result, Ok, Err}
use Rattle.pl_term.specs.Tree.{Tree}
use Rattle.pl_model.specs.History.{Proc}
use Rattle.pl_model.specs.Resolution.{State, goal}
use Rattle.term_store.specs.Heap.{atom_name}
use Rattle.world_api.specs.declared.visit.Procedure.{Procedure}
use Rattle.iso_search.specs.Reading.{View}
use Rattle.iso_search.specs.Spelling.{text_of}
use Rattle.pl_model.specs.BodyChecks.{body_of}
use Rattle.pl_model.specs.Control.{before, checked, consult_proc, run_on, taking}
use Rattle.iso_search.specs.declared.outcome.Outcome.{Outcome}
use Rattle.iso_search.specs.declared.outcome.Outcome.TheVariants.{Raise}
use Rattle.iso_search.specs.declared.search.Budgets.{Budgets}
use Rattle.iso_search.specs.declared.search.Search.{Search}
use Rattle.iso_search.specs.Outcomes.{Setting, limits_in, state_in}
use Rattle.iso_search.specs.Searching.{node_of}
use Rattle.iso_engine.specs.declared.engine.Engine.{Engine}
use Rattle.iso_engine.specs.declared.engine.Stays.{Stays}
use Rattle.iso_engine.specs.declared.starting.Begun.{Begun}
use Rattle.iso_engine.specs.declared.starting.Begun.TheVariants.{Refused, Taken}

-- It has these budgets, so many solutions are wanted of it, it stays so, and it gave none.
pub record IsFresh (budgets : Budgets) (solutions : ℕ) (stays : Stays) (e : Engine) : Type 0 where
  pub budgets_are : e.search.budgets ≡ budgets
  pub wants : e.solution_limit ≡ solutions
  pub stays_so : e.stays ≡ stays
  pub gave : e.solutions_found ≡ 0
  pub works : e.out_of_memory ≡ false

abbrev pub outcome_of : Begun → Outcome
outcome_of (Refused f) = Raise f
outcome_of (Taken o) = o

-- The goal is checked whole, and takes so many cells.
abbrev pub begun : Setting → Search → Proc → Tree → ℕ → State
begun t e p term need =
    let s = state_in t e
    in let n = node_of t.view e 0
    in checked s n p (body_of term)
    (λ body. taking (limits_in t e) s n p 0 need (λ s' n'. run_on s' (before (goal body (length s.choices) ∷ []) n')))

-- Whether there is a goal to be run.
abbrev pub IsKind : Begun → Result Tree Tree → Type 0
IsKind (Refused f) r = (x : Tree) × (r ≡ Err x)
IsKind (Taken o) r = (x : Tree) × (r ≡ Ok x)

-- The predicate of which an error at the start is.
abbrev pub proc_begun : View → Begun → Option Procedure → Proc
proc_begun v (Refused f) p = consult_proc
proc_begun v (Taken o) None = consult_proc
proc_begun v (Taken o) (Some p) = record { name = text_of v.names (atom_name p.name); arity = p.arity }

-- A goal that is run has a predicate.
abbrev pub IsNamed : Begun → Option Procedure → Type 0
IsNamed (Refused f) p = Unit {0}
IsNamed (Taken o) None = ⊥
IsNamed (Taken o) (Some p) = Unit {0}
