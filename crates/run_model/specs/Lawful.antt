-- Runs of engines against the one history, each of whose requests is answered at a generation of its own, and when a
-- history with these generations is the whole of what a command did.
use Rattle.std.specs.Prelude.{◌≡◌, ◌<◌, ◌≤◌, ◌⊎◌, ℕ, zero, suc, List, [], ◌∷◌, ◌++◌, map, length, Option, Some, None, slice_get, Contains, Bool, nat_le, ◌&&◌, if◌then◌else◌, ◌==◌, codes}
use Rattle.pl_term.specs.Tree.{Chars, Tree}
use Rattle.pl_model.specs.declared.ends.AtomRecord.{AtomRecord}
use Rattle.pl_model.specs.declared.ends.How.{How}
use Rattle.pl_model.specs.declared.ends.How.TheVariants.{Solved, False, Threw, Exited, Halted, AtomSpace}
use Rattle.pl_model.specs.History.{Kind, Entry, History, start, finish, mine}
use Rattle.pl_model.specs.Threads.{goal_alias}
use Rattle.pl_model.specs.SharedState.{state_at}
use Rattle.pl_model.specs.Requests.{Request, Reply}
use Rattle.pl_model.specs.Service.{Served, answers, waits, serve}
use Rattle.pl_model.specs.Resolution.{Limits, Ending, solved, no_more, threw, exited, halted}
use Rattle.run_model.specs.AtomRecords.{IsTrue}
use Rattle.run_model.specs.Execution.{consults, runs, Job, Execution, over, Move, moves, requests, ends, at_start, move}

-- Runs

-- An update: which of the engine's requests made it, and at which generation.
pub record Made : Type 0 where
  pub request : ℕ
  pub generation : ℕ
  pub kind : Kind

-- Where an engine stands, the number of its requests so far, and the updates that they made.
pub record Standing : Type 0 where
  pub execution : Execution
  pub asked : ℕ
  pub made : List Made

abbrev pub made_by : ℕ → ℕ → Option Kind → List Made
made_by q g None = []
made_by q g (Some k) = record { request = q; generation = g; kind = k } ∷ []

-- The request is made anew until it does not wait.
abbrev pub after_service : Standing → (Reply → Execution) → ℕ → Served → Standing
after_service a next g (answers r k) =
    record { execution = next r; asked = suc a.asked; made = a.made ++ made_by a.asked g k }
after_service a next g waits = a

-- The request is answered in the shared state of its generation, if it has one. The command has so many goals.
abbrev pub at_generation : ℕ → ℕ → History → Standing → Request → (Reply → Execution) → Option ℕ → Standing
at_generation e goals h a q next None = a
at_generation e goals h a q next (Some g) = after_service a next g (serve e q (state_at goals h g) g)

abbrev pub advanced : ℕ → ℕ → History → List ℕ → Standing → Move → Standing
advanced e goals h gens a (moves x) = record a { execution = x }
advanced e goals h gens a (requests q next) = at_generation e goals h a q next (slice_get gens a.asked)
advanced e goals h gens a (ends how) = a

-- Where the engine `e` with this job stands after so many moves, if its k-th request is answered at the generation gens[k].
abbrev pub run : ℕ → ℕ → Job → History → List ℕ → ℕ → Standing
run e goals job h gens zero = record { execution = at_start job; asked = zero; made = [] }
run e goals job h gens (suc n) =
    let a = run e goals job h gens n in advanced e goals h gens a (move job a.execution)

-- Lawful generations

-- The generations never fall, and lie from the first of these numbers to the last.
abbrev pub Rises : ℕ → List ℕ → ℕ → Type 0
Rises low [] high = low ≤ high
Rises low (g ∷ gs) high = (low ≤ g) × Rises g gs high

-- The update is the engine's entry at the place of its generation, and the engine's next request stands above it.
pub record Stands (e : ℕ) (h : History) (gens : List ℕ) (m : Made) : Type 0 where
  pub entry : slice_get h m.generation ≡ Some (record { engine = e; kind = m.kind })
  pub own : slice_get gens m.request ≡ Some m.generation
  pub next : (x : ℕ) → slice_get gens (suc m.request) ≡ Some x → m.generation < x

abbrev pub AllStand : ℕ → History → List ℕ → List Made → Type 0
AllStand e h gens [] = Unit {0}
AllStand e h gens (m ∷ ms) = Stands e h gens m × AllStand e h gens ms

-- The generations of the engine, which began at `low`, lie up to `high`, one for each request of its first `n` moves; and
-- its updates stand in the history exactly once, in its own order, with no others of its own but these last ones.
pub record IsLawful (e goals : ℕ) (job : Job) (low : ℕ) (h : History) (gens : List ℕ) (n high : ℕ) (last : List Kind) : Type 0 where
  pub rises : Rises low gens high
  pub each : (run e goals job h gens n).asked ≡ length gens
  pub stand : AllStand e h gens (run e goals job h gens n).made
  pub mine_is : mine h e ≡ map (λ m. m.kind) (run e goals job h gens n).made ++ last

-- The end of an engine as the history has it. Want of atoms ends no search.
abbrev pub EndsSo : Ending → How Tree → Type 0
EndsSo solved Solved = Unit {0}
EndsSo no_more False = Unit {0}
EndsSo (threw b) (Threw c) = b ≡ c
EndsSo (exited t) (Exited u) = t ≡ u
EndsSo (halted n) (Halted k) = n ≡ k
EndsSo _ _ = ⊥

-- After this number of moves, and not before, the engine has ended, in this way; its end is in the history.
pub record RanToEnd (e goals : ℕ) (job : Job) (low : ℕ) (h : History) (gens : List ℕ) : Type 0 where
  pub steps : ℕ
  pub how : How Tree
  pub ending : Ending
  pub place : ℕ
  pub entry : slice_get h place ≡ Some (record { engine = e; kind = finish how steps })
  pub lawful : IsLawful e goals job low h gens steps place (finish how steps ∷ [])
  pub ended : (run e goals job h gens steps).execution.activity ≡ over ending
  pub ends_so : EndsSo ending how
  pub first : (k : ℕ) → k < steps → (x : Ending) → (run e goals job h gens k).execution.activity ≡ over x → ⊥

-- The engine's next request waits in the shared state at the end of the history.
pub record WaitsAtEnd (e goals : ℕ) (job : Job) (low : ℕ) (h : History) (gens : List ℕ) : Type 0 where
  pub steps : ℕ
  pub request : Request
  pub next : Reply → Execution
  pub lawful : IsLawful e goals job low h gens steps (length h) []
  pub asks : move job (run e goals job h gens steps).execution ≡ requests request next
  pub waits_there : serve e request (state_at goals h (length h)) (length h) ≡ waits

-- The execution has not ended.
abbrev pub IsRunning : Execution → Type 0
IsRunning x = (ending : Ending) → x.activity ≡ over ending → ⊥

-- After this number of moves, by none of which it had ended, the engine found no place for an atom: this is no move of its
-- own. Its end is in the history, with a true record for an atom table of so many slots.
pub record RanOutOfAtoms (e goals slots : ℕ) (job : Job) (low : ℕ) (h : History) (gens : List ℕ) : Type 0 where
  pub steps : ℕ
  pub found : AtomRecord
  pub place : ℕ
  pub entry : slice_get h place ≡ Some (record { engine = e; kind = finish (AtomSpace found) steps })
  pub lawful : IsLawful e goals job low h gens steps place (finish (AtomSpace found) steps ∷ [])
  pub never_over : (k : ℕ) → k ≤ steps → IsRunning (run e goals job h gens k).execution
  pub is_true : IsTrue slots found

-- Commands

-- What a command runs: the bytes of its file, the words of its goals, their limits, and the number of slots of the table of
-- atoms.
pub record Program : Type 0 where
  pub bytes : List ℕ
  pub words : List Chars
  pub limits : Limits
  pub slots : ℕ

-- What is told of a run: the history, and for each engine by its number the generations of its requests.
pub record Told : Type 0 where
  pub history : History
  pub generations : List (ℕ × List ℕ)

abbrev pub generations_of : List (ℕ × List ℕ) → ℕ → List ℕ
generations_of [] e = []
generations_of (p ∷ ps) e = if p.0 == e then p.1 else generations_of ps e

-- An engine's beginning: its number, the goal that it was started with, its alias, and the generation after the update
-- that started it.
pub record Beginning : Type 0 where
  pub engine : ℕ
  pub goal : Tree
  pub alias : Option Chars
  pub low : ℕ

abbrev pub beginnings_from : ℕ → History → List Beginning
beginnings_from place [] = []
beginnings_from place (x ∷ xs) =
    elim x.kind [
      | start n t a ↦ record { engine = n; goal = t; alias = a; low = suc place } ∷ beginnings_from (suc place) xs
      | _ ↦ beginnings_from (suc place) xs
    ]

abbrev pub beginnings : History → List Beginning
beginnings h = beginnings_from zero h

-- The first engine is named main, and it and the engines of the command's goals stay: thread_exit/1 does not end them.
abbrev pub main_job : Program → Job
main_job p = record { script = consults p.bytes p.words; limits = record p.limits { stays = Some (codes "main") } }

-- One solution is wanted of a thread, and of a goal of the command as many as the command says.
abbrev pub is_goal_number : Program → ℕ → Bool
is_goal_number p n = nat_le 2 n && nat_le n (length p.words)

abbrev pub started_job : Program → Beginning → Job
started_job p b =
    record {
      script = runs b.goal;
      limits =
          if is_goal_number p b.engine
          then record p.limits { stays = Some (goal_alias b.engine) }
          else record p.limits { solutions = 1; stays = None };
    }

abbrev pub engine_numbers : List Beginning → List ℕ
engine_numbers bs = 1 ∷ map (λ (b : Beginning). b.engine) bs

-- The engine has ended, or it waits and nothing wakes it, or it found no place for an atom.
abbrev pub IsDone : ℕ → ℕ → ℕ → Job → ℕ → History → List ℕ → Type 0
IsDone e goals slots job low h gens =
    RanToEnd e goals job low h gens ⊎ (WaitsAtEnd e goals job low h gens ⊎ RanOutOfAtoms e goals slots job low h gens)

pub record IsComplete (p : Program) (told : Told) : Type 0 where
  -- nobody else makes an entry
  pub only : (x : Entry) → Contains told.history x → Contains (engine_numbers (beginnings told.history)) x.engine
  pub main : IsDone 1 (length p.words) p.slots (main_job p) zero told.history (generations_of told.generations 1)
  pub started :
      (b : Beginning)
      → Contains (beginnings told.history) b
      → IsDone b.engine (length p.words) p.slots (started_job p b) b.low told.history (generations_of told.generations b.engine)
