-- What a slice answers.
use Rattle.std.specs.Prelude.{◌≡◌, ◌≤◌, ℕ, ◌+◌, List, [], ◌∷◌, ◌++◌, map, length, true, Option, Some, None, IsSome, encode_utf8_all}
use Rattle.std.specs.Arc.{arc_value}
use Rattle.pl_term.specs.Tree.{Chars, Tree}
use Rattle.pl_model.specs.Resolution.{Output, text, solution, solution_count}
use Rattle.pl_model.specs.Requests.{Request}
use Rattle.pl_model.specs.Service.{on_of, waits, served_now}
use Rattle.atom_api.specs.Names.{Names}
use Rattle.std.specs.List.{All}
use Rattle.world_builtins.specs.Naming.{IsHeldAt}
use Rattle.world_api.specs.declared.answer.On.{On}
use Rattle.world_api.specs.Answers.{on_by, on_names}
use Rattle.world_api.specs.Texts.{text_of}
use Rattle.world_api.specs.Told.{Told}
use Rattle.iso_search.specs.Reading.{reads}
use Rattle.iso_engine.specs.declared.doing.Doing.{Doing}
use Rattle.iso_engine.specs.declared.doing.Doing.TheVariants.{Answering, Ended as EndedDoing}
use Rattle.iso_engine.specs.declared.engine.Engine.{Engine}
use Rattle.iso_engine.specs.declared.slices.Slice.{Slice}
use Rattle.iso_engine.specs.declared.slices.Slice.TheVariants.{Yield, Solution, NeedsAtoms, Retry, Worn, Waits, Ended, Memory}
use Rattle.iso_engine.specs.Advancing.{Advances}
use Rattle.iso_engine.specs.Asking.{IsAsking}
use Rattle.iso_engine.specs.Views.{view_of}

-- The text of what a goal has written, its solutions aside.
abbrev pub written_text : List Output → Chars
written_text [] = []
written_text (o ∷ os) = elim o [ text t ↦ t ++ written_text os | solution ops ts ↦ written_text os ]

abbrev pub IsEnd : Doing → Type 0
IsEnd (EndedDoing how) = Unit {0}
IsEnd _ = ⊥

-- The next request waits as the shared state stands, on this, whose names are held.
pub record IsWaitingNow (m : Names) (t : Told) (e : Engine) (on : On) (g : ℕ) : Type 0 where
  pub request : Request
  pub asking : IsAsking m t e request
  pub generation : g ≡ length t.history
  pub waiting : served_now t.engine t.goals t.history request ≡ waits
  pub awaits : on_of t.engine request ≡ Some (on_by (text_of m) on)
  pub held : All (λ a. IsSome (m a)) (on_names on)

-- The terms of the goal's variables.
abbrev pub answer_of : Names → Told → Engine → List Tree
answer_of m t e = map (reads (view_of m t) e.search.store) e.search.answer.items

-- Each atom of the terms of the goal's variables is held.
abbrev pub IsAnswerHeld : Names → Engine → Type 0
IsAnswerHeld m e = All (IsHeldAt m e.search.store) e.search.answer.items

-- Why no further step is made, where the goal has written this since.
abbrev pub Stops : Names → Told → Engine → Slice → Type 0
Stops m t e Yield = ⊥
Stops m t e (Solution ops) = ⊥
Stops m t e (NeedsAtoms p) = Unit {0}
Stops m t e (Retry c) = Unit {0}
Stops m t e (Worn w) = Unit {0}
Stops m t e (Waits on g) = IsWaitingNow m t e on g
Stops m t e Ended = IsEnd e.doing
Stops m t e Memory = ⊥

-- A step was made, or none.
abbrev pub IsStepped : Names → Told → Engine → Option Slice → Names → Told → Engine → List Output → Type 0
IsStepped m t e None n u f more = Advances 1 m t e n u f more
IsStepped m t e (Some (Solution ops)) n u f more =
    (more ≡ solution (arc_value ops) (answer_of n u f) ∷ []) × (f.doing ≡ Answering) × Advances 1 m t e n u f more × IsAnswerHeld n f
IsStepped m t e (Some s) n u f more = (more ≡ []) × Stops n u f s × Advances 0 m t e n u f more

-- How a slice of at most so many inferences ended, where the goal has written this in it.
abbrev pub EndsWith : ℕ → Engine → Names → Told → Engine → List Output → Slice → Type 0
EndsWith limit e n u f more Yield = (f.search.inferences ≡ e.search.inferences + limit) × (solution_count more ≡ 0)
EndsWith limit e n u f more (Solution ops) =
    (before : List Output) × (solution_count before ≡ 0) × (more ≡ before ++ solution (arc_value ops) (answer_of n u f) ∷ []) × (f.doing ≡ Answering)
    × IsAnswerHeld n f
EndsWith limit e n u f more s = Stops n u f s × (solution_count more ≡ 0)

-- How many steps were made where a step was made, or none.
abbrev pub steps_of : Option Slice → ℕ
steps_of None = 1
steps_of (Some (Solution ops)) = 1
steps_of (Some s) = 0

-- The engine has come so far in a slice of at most so many inferences, in these steps.
pub record IsSlice (limit steps : ℕ) (m : Names) (t : Told) (e : Engine) (n : Names) (u : Told) (f : Engine) (old_out new_out : List ℕ) (s : Slice) : Type 0 where
  pub written : List Output
  pub advances : Advances steps m t e n u f written
  pub out : new_out ≡ old_out ++ encode_utf8_all (written_text written)
  pub spent : f.search.inferences ≤ e.search.inferences + limit
  pub ends : EndsWith limit e n u f written s

-- Its steps are those by which the count has grown. Once memory is exhausted nothing is said.
abbrev pub IsSliced : ℕ → Names → Told → Engine → Names → Told → Engine → List ℕ → List ℕ → ℕ → ℕ → Slice → Type 0
IsSliced limit m t e n u f old_out new_out before after Memory = f.out_of_memory ≡ true
IsSliced limit m t e n u f old_out new_out before after s = (k : ℕ) × (k + before ≡ after) × IsSlice limit k m t e n u f old_out new_out s
