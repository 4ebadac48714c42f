-- What a front knows of the one history of all threads.
use Rattle.std.specs.Prelude.{◌≡◌, ◌≤◌, ◌<◌, ℕ, suc, ◌+◌, ◌==◌, nat_lt, List, [], ◌∷◌, ◌++◌, Bool, true, false, ◌&&◌, ◌||◌, not, length, slice_get, Some, if◌then◌else◌}
use Rattle.atomic_table.specs.Seated.{TableId}
use Rattle.pl_model.specs.History.{Kind, Entry, History, start, is_end, mine}

-- What a front keeps of an engine that it carries: the engine's updates, in their order, and the generations at
-- which its requests stood: its visits and its updates, but its end.
pub record Life : Type 0 where
  pub engine : ℕ
  pub updates : List Kind
  pub generations : List ℕ

-- A front of the table `table`: the beginning of the history that it has seen, and the engines that it carries. The
-- first of them is the front's own engine.
pub record FrontState : Type 0 where
  pub table : TableId
  pub seen : History
  pub lives : List Life

-- The hub's front and any other of a new table: nothing is seen, and the hub's carries engine 1.
abbrev pub new_hub : TableId → FrontState
new_hub t = record { table = t; seen = []; lives = record { engine = 1; updates = []; generations = [] } ∷ [] }

abbrev pub new_front : TableId → FrontState
new_front t = record { table = t; seen = []; lives = [] }

-- How often the engine `e` is carried.
abbrev pub times : ℕ → List Life → ℕ
times e [] = 0
times e (l ∷ ls) = (if l.engine == e then 1 else 0) + times e ls

-- Whether an end is among these updates.
abbrev pub has_end : List Kind → Bool
has_end [] = false
has_end (k ∷ ks) = is_end k || has_end ks

-- Whether the engine `e` is carried and has not ended.
abbrev pub runs_in : ℕ → List Life → Bool
runs_in e [] = false
runs_in e (l ∷ ls) = ((l.engine == e) && not (has_end l.updates)) || runs_in e ls

-- Whether each engine that is carried has ended.
abbrev pub all_over : List Life → Bool
all_over [] = true
all_over (l ∷ ls) = has_end l.updates && all_over ls

-- The front's own engine, or 0, and whether the front has one that has not ended.
abbrev pub own_engine : List Life → ℕ
own_engine [] = 0
own_engine (l ∷ ls) = l.engine

abbrev pub own_runs : List Life → Bool
own_runs [] = false
own_runs (l ∷ ls) = not (has_end l.updates)

-- Its updates and the generations of its visits, or none.
abbrev pub own_updates : List Life → List Kind
own_updates [] = []
own_updates (l ∷ ls) = l.updates

abbrev pub own_generations : List Life → List ℕ
own_generations [] = []
own_generations (l ∷ ls) = l.generations

-- The generations with the place of an update, at which its request stood. An end is no request, and has no generation.
abbrev pub with_generation : Kind → ℕ → List ℕ → List ℕ
with_generation k g gens = if is_end k then gens else gens ++ g ∷ []

-- The engine of the entry gains its update, and the entry's place `g` as a generation. No other engine gains.
abbrev pub life_gains : Entry → ℕ → Life → Life
life_gains x g l =
    if l.engine == x.engine
    then record { engine = l.engine; updates = l.updates ++ x.kind ∷ []; generations = with_generation x.kind g l.generations }
    else l

abbrev pub gains : Entry → ℕ → List Life → List Life
gains x g [] = []
gains x g (l ∷ ls) = life_gains x g l ∷ gains x g ls

-- The engine that the update begins, with nothing done yet.
abbrev pub begun_by : Kind → List Life
begun_by (start n goal alias) = record { engine = n; updates = []; generations = [] } ∷ []
begun_by _ = []

-- The front's own engine gains the generation `g`.
abbrev pub visited : ℕ → List Life → List Life
visited g [] = []
visited g (l ∷ ls) =
    record { engine = l.engine; updates = l.updates; generations = l.generations ++ g ∷ [] } ∷ ls

-- The first of the lives that is the engine's, as a list of one, and the lives without it.
abbrev pub picked : ℕ → List Life → List Life
picked e [] = []
picked e (l ∷ ls) = if l.engine == e then l ∷ [] else picked e ls

abbrev pub without : ℕ → List Life → List Life
without e [] = []
without e (l ∷ ls) = if l.engine == e then ls else l ∷ without e ls

-- A request stood at the generation `place`, and the next one above it.
pub record Stands (gens : List ℕ) (place : ℕ) : Type 0 where
  pub request : ℕ
  pub own : slice_get gens request ≡ Some place
  pub next : (g : ℕ) → slice_get gens (suc request) ≡ Some g → place < g

-- What is kept of the engine is what the history has of it.
pub record IsTold (h : History) (l : Life) : Type 0 where
  -- the updates are the history, filtered by the engine
  pub updates : l.updates ≡ mine h l.engine
  -- the generations lie within the history, and never fall
  pub within : (i g : ℕ) → slice_get l.generations i ≡ Some g → g ≤ length h
  pub rises : (i g later : ℕ) → slice_get l.generations i ≡ Some g → slice_get l.generations (suc i) ≡ Some later → g ≤ later
  -- each update but an end stands at its place as a request
  pub stands :
      (place : ℕ) (x : Entry)
      → slice_get h place ≡ Some x
      → x.engine ≡ l.engine
      → is_end x.kind ≡ false
      → Stands l.generations place

-- So of each engine that is carried.
abbrev pub AllTold : History → List Life → Type 0
AllTold h [] = Unit {0}
AllTold h (l ∷ ls) = IsTold h l × AllTold h ls

-- The longer of two histories, or the first.
abbrev pub longer : History → History → History
longer xs ys = if nat_lt (length xs) (length ys) then ys else xs
