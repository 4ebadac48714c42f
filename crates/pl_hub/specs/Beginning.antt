-- An engine that begins in a front of its own.
use Rattle.std.specs.Prelude.{◌≡◌, ◌∷◌, IsSome, Some}
use Rattle.std.specs.List.{All}
use Rattle.atomic_table.specs.Seated.{TableId}
use Rattle.atom_api.specs.Names.{Names}
use Rattle.term_store.specs.NumberedNames.{names_of}
use Rattle.pl_history.specs.Fronts.{FrontState}
use Rattle.counted_terms.specs.CountedTerms.{said}
use Rattle.hub_threads.specs.Threads.{started_goal}
use Rattle.pl_hub.specs.declared.beginning.Begun.{Begun}
use Rattle.pl_hub.specs.Fronts.{IsOwn, idle}

-- THE ENGINE HAS BEGUN in the front, which has seen the whole history: it has done nothing yet, the hub's front carries the others that it carried, and the goal is the one with which the history started the engine. m is what the engine's atoms hold
pub record HasBegun (table : TableId) (b : Begun) (m : Names) (f g hub new : FrontState) : Type 0 where
  pub own : IsOwn table b.number g
  pub front : g ≡ record f { seen = hub.seen; lives = idle b.number ∷ f.lives }
  pub hub_was : hub.lives ≡ idle b.number ∷ new.lives
  pub same : new ≡ record hub { lives = new.lives }
  pub goal : started_goal b.number hub.seen ≡ Some (said m b.goal)
  pub named : All (λ a. IsSome (m a)) (names_of b.goal)
