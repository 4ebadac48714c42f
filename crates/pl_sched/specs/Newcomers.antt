-- An engine that begins.
use Rattle.std.specs.Prelude.{◌≡◌, ◌<◌, ◌∷◌, [], ℕ, IsSome, Contains}
use Rattle.std.specs.List.{All}
use Rattle.pl_term.specs.Tree.{Tree}
use Rattle.atomic_table.specs.Seated.{TableId}
use Rattle.run_model.specs.Lawful.{Beginning, beginnings}
use Rattle.atom_api.specs.Names.{Names}
use Rattle.term_store.specs.NumberedNames.{names_of}
use Rattle.pl_history.specs.Fronts.{FrontState, own_generations, own_updates}
use Rattle.counted_terms.specs.CountedTerms.{said}
use Rattle.pl_hub.specs.Fronts.{IsOwn}

-- THE ENGINE BEGINS in the front: it has done nothing yet, and the goal, whose atoms it holds, is the one with which an update of the history started it
pub record IsNew (table : TableId) (e : ℕ) (goal : Tree) (m : Names) (f : FrontState) : Type 0 where
  pub own : IsOwn table e f
  pub above : 1 < e
  pub nothing : own_generations f.lives ≡ []
  pub silent : own_updates f.lives ≡ []
  pub begun : Beginning
  pub among : Contains (beginnings f.seen) begun
  pub engine : begun.engine ≡ e
  pub goal_is : begun.goal ≡ said m goal
  pub named : All (λ a. IsSome (m a)) (names_of goal)
