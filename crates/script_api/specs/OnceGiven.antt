-- How the goal of a script of one goal is taken up.
use Rattle.std.specs.Prelude.{◌≡◌, ℕ, [], ◌∷◌, ◌++◌, length, false, Option}
use Rattle.pl_model.specs.History.{Kind, History}
use Rattle.pl_model.specs.Requests.{look}
use Rattle.pl_model.specs.Requests as requests
use Rattle.pl_model.specs.Service.{answers, entry_by, served_now}
use Rattle.script_api.specs.declared.script.Next.{Next}
use Rattle.script_api.specs.declared.script.Next.TheVariants.{Item, Done}
use Rattle.script_api.specs.declared.once.Stage.{Stage}
use Rattle.script_api.specs.declared.once.Stage.TheVariants.{Fresh, AtHand}
use Rattle.world_api.specs.Told.{Told, Follows}
use Rattle.world_api.specs.Answers.{seen_as}

-- A look after all entries.
pub record Looked (t u : Told) : Type 0 where
  pub before : History
  pub reply : requests.Reply
  pub update : Option Kind
  pub follows : Follows t.engine t.history before
  pub served : served_now t.engine t.goals before look ≡ answers reply update
  pub told : u ≡ seen_as t (before ++ entry_by t.engine update) (t.gens ++ length before ∷ [])

-- The goal is given as an item, or is kept and nothing was told.
abbrev pub TakenUp : {T : Type 0} → T → Told → Next T → Stage T → Told → Type 0
TakenUp goal t (Item g directive) stage u = (g ≡ goal) × (directive ≡ false) × (stage ≡ AtHand) × Looked t u
TakenUp goal t (Done h) stage u = ⊥
TakenUp goal t _ stage u = (stage ≡ Fresh goal) × (u ≡ t)

-- The moves of the execution by which an item is given.
abbrev pub moves_by : {T : Type 0} → Next T → ℕ
moves_by (Item g directive) = 1
moves_by next = 0
