-- Lists of clauses that an engine may go on with, for goals of one argument.
use Rattle.std.specs.Prelude.{◌≡◌, ◌≤◌, ℕ, ℤ, [], ◌∷◌, ◌++◌, Option, Some, None, true, length}
use Rattle.std.specs.List.{Contains}
use Rattle.pl_term.specs.Tree.{Tree, comp, int, none, var}
use Rattle.pl_model.specs.History.{History}
use Rattle.atom_api.specs.Names.{Names}
use Rattle.term_store.specs.NumberedNames.{term_by}
use Rattle.term_store.specs.declared.argument_key.ArgumentKey.{ArgumentKey}
use Rattle.term_store.specs.declared.argument_key.ArgumentKey.TheVariants.{Any, Int}
use Rattle.world_api.specs.Texts.{text_of}
use Rattle.world_api.specs.Told.{Told, clause_list, has_place}

-- the goal a(i), or a(X), over numbers of atoms, and the key of its argument
abbrev pub goal_by : ℕ → Option ℤ → Tree
goal_by a None = comp (a ∷ []) (var 0) none
goal_by a (Some i) = comp (a ∷ []) (int i) none

abbrev pub key_by : Option ℤ → ArgumentKey
key_by None = Any
key_by (Some i) = Int i

-- the clause with the place is one of the list for the goal at the generation, which is one of the engine's visits
pub record IsOpen (m : Names) (a : ℕ) (i : Option ℤ) (g place : ℕ) (t : Told) : Type 0 where
  pub own : Contains t.gens g
  pub within : g ≤ length t.history
  pub among : has_place place (clause_list t.goals t.history g (term_by (text_of m) (goal_by a i))) ≡ true

-- the engine is told of more than before
pub record Grows (old new : Told) : Type 0 where
  pub goals : new.goals ≡ old.goals
  pub later : History
  pub history : new.history ≡ old.history ++ later
  pub gens : (g : ℕ) → Contains old.gens g → Contains new.gens g
