-- An engine that runs, in a test.
use Rattle.std.specs.Prelude.{◌≡◌, ℕ, ℤ, Option, Bool, true, IsSome}
use Rattle.atomic_table.specs.Seated.{TableId}
use Rattle.atom_api.specs.Names.{Names}
use Rattle.pl_history.specs.Fronts.{FrontState}
use Rattle.pl_hub.specs.Fronts.{IsOwn, told_of}
use Rattle.hub_tests.specs.Open.{IsOpen}

-- THE ENGINE RUNS, and holds its atom; where a list of clauses is open, it may go on after the clause with the place
pub record IsPlayer (here table : TableId) (goals e own : ℕ) (m : Names) (f : FrontState) (is_open : Bool) (key : Option ℤ) (g place : ℕ) : Type 0 where
  pub history : here ≡ table
  pub runs : IsOwn table e f
  pub holds : IsSome (m own)
  pub listed : is_open ≡ true → IsOpen m own key g place (told_of goals f)
