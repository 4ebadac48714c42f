-- What is left to be done after an outcome.
use Rattle.std.proofs.Common.{◌≡◌, ◌≤◌, ℕ, length, ap, ◌∙◌, arith}
use Rattle.pl_model.specs.Resolution.{Node}
use Rattle.term_store.specs.Contents.{Contents}
use Rattle.iso_search.specs.declared.outcome.Fault.{Fault}
use Rattle.iso_search.specs.declared.outcome.Fault.TheVariants.{Inferences, Cells, Choices, Instantiation, NotCallable, NotInteger, NotList, NotStatus}
use Rattle.iso_search.specs.declared.outcome.Outcome.{Outcome}
use Rattle.iso_search.specs.declared.outcome.Outcome.TheVariants.{Run, Fail, Raise, Throw, Erase, Halt}
use Rattle.iso_search.specs.declared.search.Search.{Search}
use Rattle.iso_search.specs.Conversions.{Stays}
use Rattle.iso_search.specs.Errors.{IsFaultIn, IsOfBudget}
use Rattle.iso_search.specs.Outcomes.{IsAfter, IsOutcomeIn, KeepsTasks}
use Rattle.iso_search.specs.Reading.{View}
use Rattle.iso_search.specs.Searching.{IsWhole, node_of}
use Rattle.iso_search.proofs.Grown.{node_grown}

-- The tasks are as they were where nothing but the choices, the counts or the store's new terms have changed.
pub keeps_alike : (e d : Search) → d ≡ e → KeepsTasks e d
keeps_alike e d same v j le = ap (λ (x : Search). (node_of v x j).goals) same

pub keeps_choices : (e d : Search) → (let x : Search = record e { choices = d.choices } in d ≡ x) → KeepsTasks e d
keeps_choices e d kept v j le = ap (λ (x : Search). (node_of v x j).goals) kept

pub keeps_grown : (e d : Search) (s : Contents) → Stays e.store s → IsWhole e → (let x : Search = record e { store = s } in d ≡ x) → KeepsTasks e d
keeps_grown e d s g w kept v j le =
    ap (λ (x : Search). (node_of v x j).goals) kept ∙ ap (λ (n : Node). n.goals) (node_grown e s g w v j)

-- One outcome after another change
pub outcome_behind : (e d f : Search) (o : Outcome) → length e.frames.items ≤ length d.frames.items → KeepsTasks e d → IsOutcomeIn d f o → IsOutcomeIn e f o
outcome_behind e d f (Run list) le keeps h = tt
outcome_behind e d f Fail le keeps h = tt
outcome_behind e d f (Raise x) le keeps h = (h.0, λ v j at. h.1 v j (omega (arith, at, le)) ∙ keeps v j at)
outcome_behind e d f (Throw w) le keeps h = (h.0, λ v j at. h.1 v j (omega (arith, at, le)) ∙ keeps v j at)
outcome_behind e d f (Erase place list) le keeps h = tt
outcome_behind e d f (Halt k) le keeps h = tt

pub after_behind : (e d f : Search) (o : Outcome) → length e.frames.items ≤ length d.frames.items → d.budgets ≡ e.budgets → KeepsTasks e d → IsAfter d f o
    → IsAfter e f o
after_behind e d f o le budgets keeps h =
    record { budgets = h.budgets ∙ budgets; inside = outcome_behind e d f o le keeps h.inside }

-- Where frames were added before
pub after_push : (e a d : Search) (o : Outcome) → length e.frames.items ≤ length a.frames.items
    → ((v : View) (j : ℕ) → j ≤ length e.frames.items → node_of v a j ≡ node_of v e j) → a.budgets ≡ e.budgets → IsAfter a d o → IsAfter e d o
after_push e a d o le nodes budgets h = after_behind e a d o le budgets (λ v j at. ap (λ (n : Node). n.goals) (nodes v j at)) h

-- Where terms were added to the store before
pub after_grown : (e d f : Search) (o : Outcome) → Stays e.store d.store → IsWhole e → (let x : Search = record e { store = d.store } in d ≡ x) → IsAfter d f o → IsAfter e f o
after_grown e d f o g w kept h =
    let same : length d.frames.items ≡ length e.frames.items = ap (λ (x : Search). length x.frames.items) kept in
    after_behind e d f o (omega (arith, same)) (ap (λ (x : Search). x.budgets) kept) (keeps_grown e d d.store g w kept) h

-- Errors
pub full : (e d : Search) → (let x : Search = record e { choices = d.choices } in d ≡ x) → IsAfter e d (Raise Choices)
full e d kept = record { budgets = ap (λ (x : Search). x.budgets) kept; inside = (tt, keeps_choices e d kept) }

pub refused : (e d : Search) (x : Fault) → Stays e.store d.store → IsWhole e → (let y : Search = record e { store = d.store } in d ≡ y) → IsFaultIn d.store x
    → IsAfter e d (Raise x)
refused e d x g w kept inside =
    record { budgets = ap (λ (y : Search). y.budgets) kept; inside = (inside, keeps_grown e d d.store g w kept) }

-- A budget that is spent is an error of no term.
pub budget_inside : (s : Contents) (x : Fault) → IsOfBudget x → IsFaultIn s x
budget_inside s Inferences b = tt
budget_inside s Cells b = tt
budget_inside s Choices b = absurd b
budget_inside s Instantiation b = absurd b
budget_inside s (NotCallable p) b = absurd b
budget_inside s (NotInteger p) b = absurd b
budget_inside s (NotList p) b = absurd b
budget_inside s (NotStatus p) b = absurd b

pub spent : (e d : Search) (x : Fault) → d ≡ e → IsOfBudget x → IsAfter e d (Raise x)
spent e d x same b = record { budgets = ap (λ (y : Search). y.budgets) same; inside = (budget_inside d.store x b, keeps_alike e d same) }
