-- What holds of the one history in every state that steps of the table reach.
use Rattle.std.specs.Prelude.{◌≡◌, ℕ, ◌+◌, ◌≤◌, ◌<◌, List, [], ◌∷◌, Bool, false, Option, Some, None, length, slice_index, if◌then◌else◌}
use mathlib.Core.List.{IsPrefix}
use mathlib.Core.Option.{some}
use lib.ListN.{get_elem?}
use Rattle.pl_model.specs.History.{History, has_begun, mine}
use Rattle.pl_history.specs.Fronts.{times, AllTold}
use Rattle.pl_history.specs.Steps.{Board, Part, View}

-- A number of each member, added up.
abbrev pub total : {A : Type 0} → (A → ℕ) → List A → ℕ
total f [] = 0
total f (x ∷ xs) = f x + total f xs

-- How often an engine is carried, and the hub's front is had, by a seat.
abbrev pub in_hub : ℕ → Option Part → ℕ
in_hub e None = 0
in_hub e (Some h) = times e h.lives

abbrev pub carried : ℕ → View → ℕ
carried e v = in_hub e v.hub + total (λ p. times e p.lives) v.fronts

abbrev pub one_if : Bool → ℕ
one_if b = if b then 1 else 0

abbrev pub hubs_in : Option Part → ℕ
hubs_in None = 0
hubs_in (Some h) = 1

abbrev pub hubs : View → ℕ
hubs v = hubs_in v.hub

-- The hub's front has seen the whole history, every other front a beginning of it. What they keep of an engine is what
-- the history has of it.
abbrev pub HubSees : History → Option Part → Type 0
HubSees h None = Unit {0}
HubSees h (Some p) = (p.seen ≡ h) × AllTold h p.lives

abbrev pub AllSee : History → List Part → Type 0
AllSee h [] = Unit {0}
AllSee h (p ∷ ps) = IsPrefix p.seen h × AllTold h p.lives × AllSee h ps

pub record Sees (h : History) (v : View) : Type 0 where
  pub hub : HubSees h v.hub
  pub fronts : AllSee h v.fronts

pub record Kept (b : Board) (vs : List View) : Type 0 where
  -- The generation word is the length of the history.
  pub generation : b.generation ≡ length b.history
  -- The floor is at most each pin, and each pin at most the length of the history.
  pub floor : (k : ℕ) → k < length b.pins → b.floor ≤ slice_index b.pins k
  pub pins : (k : ℕ) → slice_index b.pins k ≤ length b.history
  -- One seat has the hub's front.
  pub hub : total hubs vs ≡ 1
  pub seats : (i : ℕ) (v : View) → get_elem? vs i ≡ some v → Sees b.history v
  -- Each engine that has begun is carried by exactly one front, and no other engine is carried.
  pub carried_once : (e : ℕ) → total (carried e) vs ≡ one_if (has_begun b.history e)
  -- An engine that has not begun has made no update.
  pub quiet : (e : ℕ) → has_begun b.history e ≡ false → mine b.history e ≡ []
