-- The table of the one history: its words, what its seats know, and its steps.
use Rattle.std.specs.Prelude.{◌≡◌, ℕ, ◌+◌, ◌<◌, List, [], ◌∷◌, ◌++◌, true, false, Option, Some, None, length, slice_set, take, drop, replicate, ◌||◌}
use mathlib.Core.Option.{some}
use lib.ListN.{get_elem?}
use Rattle.atomic_table.specs.Table.{State}
use Rattle.pl_model.specs.History.{Entry, History, begins, has_begun}
use Rattle.pl_history.specs.Fronts.{Life, times, all_over, gains, begun_by, visited, picked, without, longer, runs_in, own_runs}

-- The words: the floor, the generation, and a pin for each engine. The history stands in no word.
pub record Board : Type 0 where
  pub floor : ℕ
  pub generation : ℕ
  pub pins : List ℕ
  pub history : History

abbrev pub laid : Board → List ℕ
laid b = b.floor ∷ b.generation ∷ b.pins

-- What one front knows: the beginning of the history that it has seen, and the engines that it carries.
pub record Part : Type 0 where
  pub seen : History
  pub lives : List Life

-- What a seat at the table knows: the hub's front, if it has it, and other fronts. Nothing of it is stored.
pub record View : Type 0 where
  pub hub : Option Part
  pub fronts : List Part

-- The seat has the hub's front alone, one front alone, both, two fronts, none.
abbrev pub hub_alone : Part → View
hub_alone h = record { hub = Some h; fronts = [] }

abbrev pub front_alone : Part → View
front_alone p = record { hub = None; fronts = p ∷ [] }

abbrev pub both : Part → Part → View
both h p = record { hub = Some h; fronts = p ∷ [] }

abbrev pub two_fronts : Part → Part → View
two_fronts p q = record { hub = None; fronts = p ∷ q ∷ [] }

abbrev pub nobody : View
nobody = record { hub = None; fronts = [] }

-- At the start the hub's front carries engine 1, and nothing is seen.
abbrev pub at_start : Part
at_start = record { seen = []; lives = record { engine = 1; updates = []; generations = [] } ∷ [] }

-- A new front has seen nothing and carries no engine.
abbrev pub newcomer : Part
newcomer = record { seen = []; lives = [] }

-- The hub's front and a front after an entry that both have seen: the hub's carries what the entry begins.
abbrev pub hub_appended : Entry → Part → Part
hub_appended x h =
    record { seen = h.seen ++ x ∷ []; lives = gains x (length h.seen) h.lives ++ begun_by x.kind }

abbrev pub front_appended : Entry → Part → Part → Part
front_appended x h p = record { seen = h.seen ++ x ∷ []; lives = gains x (length h.seen) p.lives }

-- Two fronts made one: it has seen the longer of the two histories, and carries the engines of both.
abbrev pub merged : Part → Part → Part
merged p q = record { seen = longer p.seen q.seen; lives = p.lives ++ q.lives }

abbrev pub beside : View → View → View
beside v w = record { hub = v.hub; fronts = v.fronts ++ w.fronts }

abbrev pub merge_all : List Part → List Part → List Part
merge_all (p ∷ ps) (q ∷ qs) = merged p q ∷ (ps ++ qs)
merge_all [] qs = qs
merge_all ps [] = ps

abbrev pub as_one : View → View → View
as_one v w = record { hub = v.hub; fronts = merge_all v.fronts w.fronts }

-- A view is cut: the seat keeps the hub's front and the first `n` of the others.
abbrev pub kept : ℕ → View → View
kept n v = record { hub = v.hub; fronts = take n v.fronts }

abbrev pub cut_off : ℕ → View → View
cut_off n v = record { hub = None; fronts = drop n v.fronts }

-- A view is cut, and the hub's front hands the engine `e` over to the first of the others.
abbrev pub without_engine : ℕ → Option Part → Option Part
without_engine e None = None
without_engine e (Some h) = Some (record { seen = h.seen; lives = without e h.lives })

abbrev pub with_engine : ℕ → Option Part → List Part → List Part
with_engine e (Some h) (p ∷ ps) = record { seen = p.seen; lives = picked e h.lives ++ p.lives } ∷ ps
with_engine e None ps = ps
with_engine e (Some h) [] = []

abbrev pub kept_by_hub : ℕ → View → View
kept_by_hub e v = record { hub = without_engine e v.hub; fronts = [] }

abbrev pub handed : ℕ → View → View
handed e v = record { hub = None; fronts = with_engine e v.hub v.fronts }

-- The kinds of steps. A number names the seat that makes the step; a second one, of a join, the other seat.
pub data Step : Type 0 where
  append : ℕ → Entry → Step
  -- a visit, and one that adds no generation to a list
  visit : ℕ → Step
  look : ℕ → Step
  -- a visit of a front alone, which has seen as many entries as there are
  revisit : ℕ → Step
  -- of two fronts the first tells the second what it has seen
  inform : ℕ → Step
  -- a new seat
  make : Step
  -- two views in one, side by side or as one front
  join : ℕ → ℕ → Step
  merge : ℕ → ℕ → Step
  -- one view in two, at a number of fronts or with an engine handed over
  split : ℕ → ℕ → Step
  hand : ℕ → ℕ → Step

-- An entry may be appended: its engine is carried here and has not ended, and an engine that it begins has not
-- begun before.
pub record MayAppend (x : Entry) (before : History) (hub front : List Life) : Type 0 where
  pub runs : (runs_in x.engine hub || runs_in x.engine front) ≡ true
  pub new : (e : ℕ) → begins e x.kind ≡ true → has_begun before e ≡ false

-- What a step asks, and what it makes of the words and of what the seats know.
abbrev pub Takes : Step → Board → List View → Board → List View → Type 0
Takes (append i x) b vs b' vs' =
    (h : Part) × (p : Part)
    × (get_elem? vs i ≡ some (both h p))
    × MayAppend x b.history h.lives p.lives
    × (b' ≡ record { floor = b.floor; generation = b.generation + 1; pins = b.pins; history = b.history ++ x ∷ [] })
    × (vs' ≡ slice_set vs i (both (hub_appended x h) (front_appended x h p)))
Takes (visit i) b vs b' vs' =
    (h : Part) × (p : Part)
    × (get_elem? vs i ≡ some (both h p))
    × (own_runs p.lives ≡ true)
    × (b' ≡ b)
    × (vs' ≡ slice_set vs i (both h (record { seen = h.seen; lives = visited (length h.seen) p.lives })))
Takes (look i) b vs b' vs' =
    (h : Part) × (p : Part)
    × (get_elem? vs i ≡ some (both h p))
    × (b' ≡ b)
    × (vs' ≡ slice_set vs i (both h (record { seen = h.seen; lives = p.lives })))
Takes (revisit i) b vs b' vs' =
    (p : Part)
    × (get_elem? vs i ≡ some (front_alone p))
    × (own_runs p.lives ≡ true)
    × (b.generation ≡ length p.seen)
    × (b' ≡ b)
    × (vs' ≡ slice_set vs i (front_alone (record { seen = p.seen; lives = visited (length p.seen) p.lives })))
Takes (inform i) b vs b' vs' =
    (p : Part) × (q : Part)
    × (get_elem? vs i ≡ some (two_fronts p q))
    × (b' ≡ b)
    × (vs' ≡ slice_set vs i (two_fronts p (record { seen = p.seen; lives = q.lives })))
Takes make b vs b' vs' = (b' ≡ b) × (vs' ≡ vs ++ front_alone newcomer ∷ [])
Takes (join i j) b vs b' vs' =
    (v : View) × (w : View)
    × (get_elem? vs i ≡ some v)
    × (¬ (j ≡ i))
    × (get_elem? vs j ≡ some w)
    × (w.hub ≡ None)
    × (b' ≡ b)
    × (vs' ≡ slice_set (slice_set vs i (beside v w)) j nobody)
Takes (merge i j) b vs b' vs' =
    (p : Part) × (q : Part)
    × (get_elem? vs i ≡ some (front_alone p))
    × (¬ (j ≡ i))
    × (get_elem? vs j ≡ some (front_alone q))
    × (b' ≡ b)
    × (vs' ≡ slice_set (slice_set vs i (front_alone (merged p q))) j nobody)
Takes (split i n) b vs b' vs' =
    (v : View)
    × (get_elem? vs i ≡ some v)
    × (b' ≡ b)
    × (vs' ≡ slice_set vs i (kept n v) ++ cut_off n v ∷ [])
Takes (hand i e) b vs b' vs' =
    (h : Part) × (p : Part)
    × (get_elem? vs i ≡ some (both h p))
    × (0 < times e h.lives)
    × (all_over p.lives ≡ true)
    × (b' ≡ b)
    × (vs' ≡ slice_set vs i (kept_by_hub e (both h p)) ++ handed e (both h p) ∷ [])

-- The table as it is made, for a number of engines.
pub record Opens (engines : ℕ) (b : Board) (vs : List View) : Type 0 where
  pub board : b ≡ record { floor = 0; generation = 0; pins = replicate engines 0; history = [] }
  pub views : vs ≡ hub_alone at_start ∷ []

-- The state is reached by these steps, the last one first.
abbrev pub Reached : ℕ → List Step → Board → List View → Type 0
Reached engines [] b vs = Opens engines b vs
Reached engines (s ∷ earlier) b' vs' =
    (b : Board) × (vs : List View) × Reached engines earlier b vs × Takes s b vs b' vs'

-- The rule of the table: its words are laid out from a state that is reached by such steps.
pub record Ruled (engines : ℕ) (s : State (Unit {0}) View) : Type 0 where
  pub board : Board
  pub words : s.words ≡ laid board
  pub steps : List Step
  pub reached : Reached engines steps board s.views
