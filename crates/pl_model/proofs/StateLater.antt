-- Entries after a generation change nothing of the shared state at it.
use Rattle.std.proofs.Common.{◌≡◌, ◌≤◌, ℕ, zero, ◌++◌, length, ap}
use Rattle.std.proofs.lemmas.List.{take-append-le}
use Rattle.pl_model.specs.History.{History}
use Rattle.pl_model.specs.SharedState.{opening_state, changes, state_at}

pub state_later : (goals : ℕ) (h later : History) (g : ℕ) → g ≤ length h → state_at goals (h ++ later) g ≡ state_at goals h g
unfolding state_at
state_later goals h later g within = ap (λ xs. changes zero xs (opening_state goals)) (take-append-le g h later within)
