-- Searches: the steps of a goal's search, where the replies to its requests are given in their order.
use Rattle.std.specs.Prelude.{◌≡◌, ℕ, zero, suc, List, [], ◌∷◌}
use Rattle.pl_term.specs.Tree.{Tree}
use Rattle.pl_model.specs.Requests.{Reply}
use Rattle.pl_model.specs.Resolution.{Limits, State, Ending, ended, Output, Next, goes, asks, stops}
use Rattle.pl_model.specs.Control.{step, start}

-- A state, with the replies that are still to be given.
pub record Search : Type 0 where
  pub state : State
  pub replies : List Reply

-- A request without a reply leads nowhere.
abbrev pub replied : Search → (Reply → State) → List Reply → Search
replied a next [] = a
replied a next (r ∷ rs) = record { state = next r; replies = rs }

abbrev pub stepped : Search → Next → Search
stepped a (goes s) = record a { state = s }
stepped a (asks q next) = replied a next a.replies
stepped a (stops how) = a

-- After so many steps.
abbrev pub searched : Limits → ℕ → Search → Search
searched l zero a = a
searched l (suc n) a = searched l n (stepped a (step l a.state))

-- With these replies the search for the solutions of a goal writes this output and ends so, after
-- so many steps.
pub record Finds (l : Limits) (t : Tree) (replies : List Reply) (n : ℕ) (output : List Output) (how : Ending) : Type 0 where
  pub ends : (searched l n (record { state = start l t; replies = replies })).state.doing ≡ ended how
  pub output_is : (searched l n (record { state = start l t; replies = replies })).state.output ≡ output
  pub all_given : (searched l n (record { state = start l t; replies = replies })).replies ≡ []
