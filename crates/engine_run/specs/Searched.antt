-- How far a search has come, and what was written of it.
use Rattle.std.specs.Prelude.{◌≡◌, ◌+◌, ℕ, List, [], ◌∷◌, ◌++◌, map, Result, Ok, Err, encode_utf8_all}
use Rattle.pl_term.specs.Tree.{Chars}
use Rattle.pl_model.specs.Resolution.{Output}
use Rattle.atom_words.specs.declared.view.Cause.{Cause}
use Rattle.atom_words.specs.declared.view.Refusal.{Refusal}
use Rattle.atom_words.specs.declared.view.Refusal.TheVariants.{Full as RefusalFull, Again as RefusalAgain, Worn as RefusalWorn}
use Rattle.atom_api.specs.Names.{Names}
use Rattle.world_api.specs.Told.{Told}
use Rattle.iso_engine.specs.declared.engine.Engine.{Engine}
use Rattle.iso_engine.specs.declared.slices.Slice.{Slice}
use Rattle.iso_engine.specs.declared.slices.Slice.TheVariants as slices
use Rattle.iso_engine.specs.Advancing.{Advances}
use Rattle.iso_engine.specs.Slices.{IsWaitingNow}
use Rattle.engine_run.specs.declared.unfinished.Unfinished.{Unfinished}
use Rattle.engine_run.specs.declared.unfinished.Unfinished.TheVariants.{Waits, NeedsAtoms, Worn, Memory}

-- Where memory did not run out.
abbrev pub UnlessMemory : {E : Type 0} → Result E Unfinished → Type 0 → Type 0
UnlessMemory (Ok x) P = P
UnlessMemory (Err (Waits on g)) P = P
UnlessMemory (Err (NeedsAtoms p)) P = P
UnlessMemory (Err (Worn w)) P = P
UnlessMemory (Err Memory) P = Unit {0}

-- Why a search does not go on after a slice. Whether it has ended the engine says.
abbrev pub stopped_by : Slice → Result (Unit {0}) Unfinished
stopped_by slices.Yield = Ok tt
stopped_by (slices.Solution ops) = Ok tt
stopped_by (slices.Retry c) = Ok tt
stopped_by slices.Ended = Ok tt
stopped_by (slices.Waits on g) = Err (Waits on g)
stopped_by (slices.NeedsAtoms p) = Err (NeedsAtoms p)
stopped_by (slices.Worn w) = Err (Worn w)
stopped_by slices.Memory = Err Memory

-- The state at which the search does not go on, though it has not ended.
abbrev pub StandsAt : Names → Told → Engine → Unfinished → Type 0
StandsAt m t e (Waits on g) = IsWaitingNow m t e on g
StandsAt m t e (NeedsAtoms p) = Unit {0}
StandsAt m t e (Worn w) = Unit {0}
StandsAt m t e Memory = Unit {0}

abbrev pub Stands : {E : Type 0} → Names → Told → Engine → Result E Unfinished → Type 0
Stands m t e (Ok x) = Unit {0}
Stands m t e (Err w) = StandsAt m t e w

-- The search came from the one state to the other in so many steps, and what the goal has given is after the text, as the
-- function puts it.
pub record HasRun (put : Chars → List Output → Chars) (steps : ℕ) (m : Names) (t : Told) (e : Engine) (n : Names) (u : Told) (f : Engine) (old_out new_out : List ℕ) : Type 0 where
  pub written : List Output
  pub advances : Advances steps m t e n u f written
  pub out : (before : Chars) → old_out ≡ encode_utf8_all before → new_out ≡ encode_utf8_all (put before written)

-- It came so far, and the count of moves rose by as many.
pub record HasCounted (put : Chars → List Output → Chars) (m : Names) (t : Told) (e : Engine) (before : ℕ) (n : Names) (u : Told) (f : Engine) (after : ℕ) (old_out new_out : List ℕ) : Type 0 where
  pub steps : ℕ
  pub ran : HasRun put steps m t e n u f old_out new_out
  pub counted : steps + before ≡ after

-- It came so far, and goes on or does not.
pub record IsSearched {E : Type 0} (put : Chars → List Output → Chars) (m : Names) (t : Told) (e : Engine) (before : ℕ) (n : Names) (u : Told) (f : Engine) (after : ℕ) (old_out new_out : List ℕ) (r : Result E Unfinished) : Type 0 where
  pub counted : HasCounted put m t e before n u f after old_out new_out
  pub stands : Stands n u f r

-- The refusal for which a run does not go on.
abbrev pub unfinished_refusals : Unfinished → List Refusal
unfinished_refusals (NeedsAtoms p) = RefusalFull p ∷ []
unfinished_refusals (Worn w) = RefusalWorn w ∷ []
unfinished_refusals w = []

abbrev pub last_refusals : {E : Type 0} → Result E Unfinished → List Refusal
last_refusals (Ok x) = []
last_refusals (Err w) = unfinished_refusals w

-- The list of refusals has grown by these, after some at which others stepped in between.
pub record IsRefusedOnce (old new last : List Refusal) : Type 0 where
  pub causes : List Cause
  pub grown : new ≡ old ++ (map RefusalAgain causes ++ last)
