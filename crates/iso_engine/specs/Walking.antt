-- What holds between two steps of a slice.
use Rattle.std.specs.Prelude.{◌≡◌, ◌≤◌, ℕ, ◌+◌, List, ◌++◌, false, encode_utf8_all}
use Rattle.pl_model.specs.Resolution.{Output}
use Rattle.atom_api.specs.Names.{Names}
use Rattle.world_api.specs.Texts.{Holds}
use Rattle.world_api.specs.Told.{Told, has_ended}
use Rattle.iso_engine.specs.declared.engine.Engine.{Engine}
use Rattle.iso_engine.specs.Advancing.{Advances}
use Rattle.iso_engine.specs.Ready.{IsReady}
use Rattle.iso_engine.specs.Slices.{written_text}

-- A slice of at most so many inferences has come so far in these steps.
pub record IsWalk (limit steps : ℕ) (m : Names) (t : Told) (e : Engine) (n : Names) (u : Told) (f : Engine) (old_out new_out : List ℕ) : Type 0 where
  pub runs : has_ended u.engine u.history ≡ false
  pub ready : IsReady n u f
  pub written : List Output
  pub advances : Advances steps m t e n u f written
  pub out : new_out ≡ old_out ++ encode_utf8_all (written_text written)
  pub low : e.search.inferences ≤ f.search.inferences
  pub high : f.search.inferences ≤ e.search.inferences + limit
  pub holds : Holds m n
  pub given : f.solutions_found ≡ e.solutions_found
