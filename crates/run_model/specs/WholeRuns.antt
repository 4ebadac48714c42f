-- A whole run, from what is known of each of its engines at the end.
use Rattle.std.specs.Prelude.{◌≡◌, ◌⊎◌, ℕ, zero, List, [], ◌∷◌, length, Contains}
use Rattle.pl_model.specs.History.{Entry, History}
use Rattle.run_model.specs.Execution.{Job}
use Rattle.run_model.specs.Lawful.{Beginning, IsDone, Program, Told, beginnings, engine_numbers, main_job, started_job}
use Rattle.run_model.specs.Report.{Finals, stood}

-- The job of the engine with this number and the generation at which it began, as the history has them: the first engine consults
-- the file, and any other runs the goal that an update started.
abbrev pub IsJob : Program → ℕ → History → Job → ℕ → Type 0
IsJob p e h job low =
    ((e ≡ 1) × (job ≡ main_job p) × (low ≡ zero))
    ⊎ ((b : Beginning) × Contains (beginnings h) b × (b.engine ≡ e) × (job ≡ started_job p b) × (low ≡ b.low))

-- An engine that was carried to its end, or to where nothing wakes it, with the generations of its requests.
pub record Carried (p : Program) (h : History) : Type 0 where
  pub number : ℕ
  pub gens : List ℕ
  pub job : Job
  pub low : ℕ
  pub is_job : IsJob p number h job low
  pub done : IsDone number (length p.words) p.slots job low h gens

abbrev pub numbers_of : {p : Program} {h : History} → List (Carried p h) → List ℕ
numbers_of [] = []
numbers_of (c ∷ cs) = c.number ∷ numbers_of cs

abbrev pub generations_in : {p : Program} {h : History} → List (Carried p h) → List (ℕ × List ℕ)
generations_in [] = []
generations_in (c ∷ cs) = (c.number, c.gens) ∷ generations_in cs

abbrev pub finals_in : {p : Program} {h : History} → List (Carried p h) → Finals
finals_in [] = []
finals_in (c ∷ cs) = (c.number, stood c.done) ∷ finals_in cs

abbrev pub told_in : {p : Program} (h : History) → List (Carried p h) → Told
told_in h cs = record { history = h; generations = generations_in cs }

-- Each engine that made an entry has begun.
abbrev pub AreBegun : History → Type 0
AreBegun h = (x : Entry) → Contains h x → Contains (engine_numbers (beginnings h)) x.engine

-- No number is twice among these.
abbrev pub Once : List ℕ → Type 0
Once [] = Unit {0}
Once (n ∷ ns) = (Contains ns n → ⊥) × Once ns

-- Each engine that has begun is one of these.
abbrev pub AreWhole : {p : Program} (h : History) → List (Carried p h) → Type 0
AreWhole h cs = (n : ℕ) → Contains (engine_numbers (beginnings h)) n → Contains (numbers_of cs) n
