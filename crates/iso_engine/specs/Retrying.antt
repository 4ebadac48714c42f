-- What going back to clauses, or to lines of a table, leads to.
use Rattle.std.specs.Prelude.{◌≡◌, Option, Some, None}
use Rattle.pl_model.specs.History.{History}
use Rattle.atom_api.specs.Names.{Names}
use Rattle.world_api.specs.Told.{Told, Follows}
use Rattle.world_api.specs.Answers.{seen_as}
use Rattle.iso_search.specs.declared.failure.Back.{Back}
use Rattle.iso_search.specs.Failures.{IsTaken, back_result}
use Rattle.iso_search.specs.Outcomes.{Setting}
use Rattle.iso_search.specs.Reading.{IsView}
use Rattle.iso_engine.specs.declared.engine.Engine.{Engine}
use Rattle.iso_engine.specs.declared.slices.Slice.{Slice}
use Rattle.iso_engine.specs.declared.slices.Slice.TheVariants.{NeedsAtoms, Retry, Worn}
use Rattle.iso_engine.specs.Ready.{IsAlike}
use Rattle.iso_engine.specs.Standing.{state_at}

-- The engine has seen the entries of others, and stands for what the definition has left to do there, by each view by which it may
-- be read from then on.
pub record IsTried (t : Told) (e : Engine) (b : Back) (n : Names) (u : Told) (f : Engine) : Type 0 where
  pub before : History
  pub follows : Follows t.engine t.history before
  pub told : u ≡ seen_as t before t.gens
  pub stands :
      (r : Setting) → IsView r.view → IsAlike n u r.view
      → back_result r e.search b ≡ state_at r.view f.search f.doing r.output
  pub budgets : f.search.budgets ≡ e.search.budgets
  pub rest : f ≡ record e { search = f.search; doing = f.doing }

-- The step is to be taken again.
abbrev pub IsTakenBack : Slice → Type 0
IsTakenBack (NeedsAtoms p) = Unit {0}
IsTakenBack (Retry c) = Unit {0}
IsTakenBack (Worn w) = Unit {0}
IsTakenBack _ = ⊥

-- The choice point is there again.
pub record IsPutBack (t : Told) (e : Engine) (b : Back) (u : Told) (f : Engine) : Type 0 where
  pub told : u ≡ t
  pub taken : IsTaken f.search e.search b
  pub search : f.search ≡ record e.search { choices = f.search.choices }
  pub rest : f ≡ record e { search = f.search }

-- The next clause or line was tried, or the choice point is there again.
abbrev pub IsGoneOn : Told → Engine → Back → Names → Told → Engine → Option Slice → Type 0
IsGoneOn t e b n u f None = IsTried t e b n u f
IsGoneOn t e b n u f (Some s) = IsTakenBack s × IsPutBack t e b u f
