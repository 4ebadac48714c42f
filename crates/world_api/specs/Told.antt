-- What is told of an engine and the shared state.
use Rattle.std.specs.Prelude.{◌≡◌, ℕ, List, [], ◌∷◌, ◌++◌, Bool, true, false, ◌==◌, ◌&&◌, ◌||◌}
use Rattle.pl_model.specs.History.{History, is_end, mine}
use Rattle.pl_model.specs.SharedState.{state_at}
use Rattle.pl_model.specs.Service.{clauses_for}
use Rattle.pl_model.specs.Database.{Stored}
use Rattle.pl_model.specs.History.{Clause}
use Rattle.pl_term.specs.Tree.{Tree}

-- The engine's number, the number of goals of the command, the history as far as the engine has seen it, and the
-- generations of the engine's visits.
pub record Told : Type 0 where
  pub engine : ℕ
  pub goals : ℕ
  pub history : History
  pub gens : List ℕ

-- Whether the engine's end is in the history.
abbrev pub has_ended : ℕ → History → Bool
has_ended e [] = false
has_ended e (x ∷ xs) = ((x.engine == e) && is_end x.kind) || has_ended e xs

-- The history is another one with further entries, of which none is the engine's.
pub record Follows (e : ℕ) (old new : History) : Type 0 where
  pub later : History
  pub grown : new ≡ old ++ later
  pub others : mine later e ≡ []

-- The clauses for a goal at a generation.
abbrev pub clause_list : ℕ → History → ℕ → Tree → List (Stored Clause)
clause_list goals h g goal = clauses_for (state_at goals h g) g goal

-- Those after the clause with this place.
abbrev pub behind : ℕ → List (Stored Clause) → List (Stored Clause)
behind place [] = []
behind place (c ∷ cs) = elim (c.place == place) [ true ↦ cs | false ↦ behind place cs ]

-- Whether the clause with this place is among them.
abbrev pub has_place : ℕ → List (Stored Clause) → Bool
has_place place [] = false
has_place place (c ∷ cs) = (c.place == place) || has_place place cs
