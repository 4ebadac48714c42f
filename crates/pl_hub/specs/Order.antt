-- In which order engines begin.
use Rattle.std.specs.Prelude.{◌≤◌, ◌<◌, ℕ, suc, List, [], ◌∷◌, ◌&&◌, Bool, filter, length, map, nat_le, not}
use Rattle.pl_model.specs.History.{History}
use Rattle.pl_model.specs.SharedState.{state_at}
use Rattle.pl_model.specs.Threads.{opening_count}
use Rattle.pl_history.specs.Fronts.{Life}
use Rattle.pl_hub.specs.Fronts.{begun_in}

-- the numbers of engines
abbrev pub numbers_of : List Life → List ℕ
numbers_of ls = map (λ (l : Life). l.engine) ls

-- whether the number is that of a further goal of a command with so many
abbrev pub is_goal : ℕ → ℕ → Bool
is_goal goals n = nat_le 2 n && nat_le n goals

-- They rise, from the first number on and below the last one.
abbrev pub Rises : ℕ → ℕ → List ℕ → Type 0
Rises low high [] = Unit {0}
Rises low high (n ∷ ns) = (low ≤ n) × (n < high) × Rises (suc n) high ns

-- ENGINES BEGIN IN THE ORDER OF THEIR NUMBERS: those of the further goals of a command with so many, from 2 on, and the threads, whose numbers are above those of all goals. So no two have one number, and none has that of engine 1
pub record IsInOrder (goals : ℕ) (h : History) : Type 0 where
  pub goals_rise : Rises 2 (suc goals) (filter (is_goal goals) (numbers_of (begun_in h)))
  pub threads_rise : Rises (opening_count goals) (state_at goals h (length h)).count (filter (λ n. not (is_goal goals n)) (numbers_of (begun_in h)))
