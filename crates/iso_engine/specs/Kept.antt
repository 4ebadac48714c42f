-- What stays of an engine where fewer names are held.
use Rattle.std.specs.Prelude.{◌≡◌, ◌≤◌, ◌<◌, ◌^◌, ℕ, List, Some, true}
use Rattle.std.specs.List.{All}
use Rattle.std.specs.Str.{all_scalars}
use Rattle.pl_term.specs.Tree.{Chars}
use Rattle.pl_term.specs.Texts.{size}
use Rattle.pl_model.specs.Resolution.{Output}
use Rattle.atom_api.specs.Names.{FixedStand, Names}
use Rattle.world_api.specs.Texts.{Holds}
use Rattle.world_api.specs.Told.{Told}
use Rattle.iso_engine.specs.declared.engine.Engine.{Engine}
use Rattle.iso_engine.specs.Ready.{IsReady}
use Rattle.iso_engine.specs.Standing.{state_now}
use Rattle.iso_engine.specs.Views.{view_of}
use Rattle.iso_engine.specs.Live.{engine_atoms}

-- The engine is ready over these names as it was over those, and stands for the same state.
pub record IsKept (m n : Names) (t : Told) (e : Engine) : Type 0 where
  pub ready : IsReady n t e
  pub stands : (out : List Output) → state_now (view_of n t) e out ≡ state_now (view_of m t) e out

-- It stays ready, and stands for the same, where of the names that it has in use the same are held as before, and no others.
abbrev pub StaysKept : Engine → Type 0
StaysKept e =
    (m n : Names) → FixedStand m → ((a b : ℕ) (x : Chars) → m a ≡ Some x → m b ≡ Some x → a ≡ b)
    → ((a : ℕ) (x : Chars) → m a ≡ Some x → (a < 2 ^ 32) × (size x ≤ 248) × (all_scalars x ≡ true)) → FixedStand n → Holds n m
    → (t : Told) → IsReady m t e → All (λ a. n a ≡ m a) (engine_atoms e) → IsKept m n t e
