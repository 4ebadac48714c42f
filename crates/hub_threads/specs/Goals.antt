-- The goals of engines that have begun, in the order in which they began, until they are handed over.
use Rattle.std.specs.Prelude.{◌≡◌, ◌≤◌, ℕ, List, [], ◌∷◌, ◌++◌, Option, Some, None, Bool, false, ◌&&◌, nat_le}
use Rattle.pl_term.specs.Tree.{Chars}
use Rattle.pl_term.specs.Variables.{is_in}
use Rattle.counted_terms.specs.declared.row.Row.{Row}
use Rattle.counted_terms.specs.declared.row.Row.TheVariants.{Makes}
use Rattle.hub_threads.specs.Distinct.{has_number}
use Rattle.hub_threads.specs.Held.{Held, thread_numbers}

-- the engines whose goals are kept after a row that begins the engine n where it makes an update
abbrev pub begun_after : Row → ℕ → List ℕ → List ℕ
begun_after (Makes r) n ns = ns ++ n ∷ []
begun_after _ n ns = ns

-- the first of the engines
abbrev pub first_begun : List ℕ → Option ℕ
first_begun [] = None
first_begun (n ∷ ns) = Some n

-- which engines have begun, each with its alias, after a row that begins the engine n with this one where it makes an update
abbrev pub called_after : Row → ℕ → Option Chars → List (ℕ × Option Chars) → List (ℕ × Option Chars)
called_after (Makes r) n a xs = xs ++ (n, a) ∷ []
called_after _ n a xs = xs

-- whether a number lies from the first one to the last one
abbrev pub is_within : ℕ → ℕ → ℕ → Bool
is_within first last n = nat_le first n && nat_le n last

-- THE NUMBER IS ONE OF A FURTHER GOAL, of which the last one has the number `last`, and no engine with it or with the number of a later goal has begun
pub record IsNextGoal {M : Type 0} (last n : ℕ) (q : Held M) : Type 0 where
  pub first : 2 ≤ n
  pub upto : n ≤ last
  pub begun : (m : ℕ) → n ≤ m → m ≤ last → has_number m (thread_numbers q.state.threads) ≡ false
  pub joined : (m : ℕ) → n ≤ m → m ≤ last → is_in m q.state.joined ≡ false
