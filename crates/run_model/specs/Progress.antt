-- How far an engine has come: what holds of its run so far whatever the history gains later.
use Rattle.std.specs.Prelude.{◌≡◌, ◌<◌, ℕ, zero, List, [], ◌∷◌, ◌++◌, map, length, Option}
use Rattle.pl_term.specs.Tree.{Tree}
use Rattle.pl_model.specs.declared.ends.How.{How}
use Rattle.pl_model.specs.History.{Kind, History, finish, mine, AllPlain}
use Rattle.pl_model.specs.Requests.{Request, Reply}
use Rattle.pl_model.specs.Service.{answers, waits, entry_by, served_now}
use Rattle.pl_model.specs.Resolution.{Ending}
use Rattle.run_model.specs.Execution.{Job, Execution, over, moves, requests, move}
use Rattle.run_model.specs.Lawful.{Standing, run, Rises, AllStand, Told}

-- Where an engine stands, with the history as it is now and the generations of the engine's requests so far.
pub record Seen : Type 0 where
  pub execution : Execution
  pub history : History
  pub gens : List ℕ

-- Where the engine's run stands after `n` moves.
abbrev pub standing_at : ℕ → ℕ → Job → Seen → ℕ → Standing
standing_at e goals job seen n = run e goals job seen.history seen.gens n

-- The engine with the number `e`, which began at the generation `low`, has come to this state in `n` moves, in none of
-- which it had ended, and its updates stand in the history. This is so whatever entries and generations follow.
pub record Reached (e goals : ℕ) (job : Job) (low : ℕ) (seen : Seen) (n : ℕ) : Type 0 where
  pub reaches :
      (later : History) (more : List ℕ)
      → run e goals job (seen.history ++ later) (seen.gens ++ more) n ≡ standing_at e goals job seen n
  pub execution_is : (standing_at e goals job seen n).execution ≡ seen.execution
  pub asked : (standing_at e goals job seen n).asked ≡ length seen.gens
  pub rises : Rises low seen.gens (length seen.history)
  pub stand : AllStand e seen.history seen.gens (standing_at e goals job seen n).made
  pub mine_is : mine seen.history e ≡ map (λ m. m.kind) (standing_at e goals job seen n).made
  pub goes_on :
      (later : History) (more : List ℕ) (k : ℕ)
      → k < n
      → (x : Ending)
      → (run e goals job (seen.history ++ later) (seen.gens ++ more) k).execution.activity ≡ over x
      → ⊥

-- The engine went on by a move of its own.
pub record MovesTo (job : Job) (old new : Seen) : Type 0 where
  pub moves_is : move job old.execution ≡ moves new.execution
  pub history_is : new.history ≡ old.history
  pub gens_is : new.gens ≡ old.gens

-- The engine made a request after all entries, and went on by the reply.
pub record AsksTo (e goals : ℕ) (job : Job) (old new : Seen) : Type 0 where
  pub request : Request
  pub next : Reply → Execution
  pub reply : Reply
  pub update : Option Kind
  pub asks_is : move job old.execution ≡ requests request next
  pub served : served_now e goals old.history request ≡ answers reply update
  pub execution_is : new.execution ≡ next reply
  pub history_is : new.history ≡ old.history ++ entry_by e update
  pub gens_is : new.gens ≡ old.gens ++ length old.history ∷ []

-- The engine's next request waits, and nothing changed.
pub record WaitsNow (e goals : ℕ) (job : Job) (seen : Seen) : Type 0 where
  pub request : Request
  pub next : Reply → Execution
  pub asks_is : move job seen.execution ≡ requests request next
  pub served : served_now e goals seen.history request ≡ waits

-- The first engine has come to this state in `n` moves, and nobody else made an entry.
pub record Alone (goals : ℕ) (job : Job) (seen : Seen) (n : ℕ) : Type 0 where
  pub reached : Reached 1 goals job zero seen n
  pub plain : AllPlain 1 seen.history

-- What is told where the first engine has ended after `n` moves, and where it waits, and nobody else made an entry.
abbrev pub told_at_end : Seen → How Tree → ℕ → Told
told_at_end seen how n =
    record {
      history = seen.history ++ record { engine = 1; kind = finish how n } ∷ [];
      generations = (1, seen.gens) ∷ [];
    }

abbrev pub told_waiting : Seen → Told
told_waiting seen = record { history = seen.history; generations = (1, seen.gens) ∷ [] }
