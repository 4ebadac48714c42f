-- Compound terms that a walk is within, and those that it has left.
use Rattle.std.specs.Prelude.{◌≡◌, ◌⊎◌, ℕ, ◌≤◌, Bool, true, false, List, [], ◌∷◌, ◌++◌, drop}
use Rattle.std.specs.List.{All, Contains}
use Rattle.term_store.specs.declared.known_pairs.KnownPair.{KnownPair}
use Rattle.builtin_term.specs.declared.course.Opened.{Opened}

-- Once `E` holds of all that stands on the stack from the height on, `S` holds of the pair.
abbrev pub Awaits : {X : Type 0} → (X → Type 0) → (KnownPair → Type 0) → List X → Opened → Type 0
Awaits E S ws o = All E (drop o.height ws) → S o.pair

abbrev pub pairs_of : List Opened → List KnownPair
pairs_of [] = []
pairs_of (o ∷ os) = pairs_of os ++ o.pair ∷ []

-- The last pairs, of whose parts none is on a stack of this height, were left.
pub record Leaves (height : ℕ) (opened : List Opened) (left : List KnownPair) (opened' : List Opened) (left' : List KnownPair) : Type 0 where
  pub last : List Opened
  pub split : opened ≡ opened' ++ last
  pub over : All (λ o. height ≤ o.height) last
  pub moved : left' ≡ left ++ pairs_of last

-- The last pair was left, or none.
abbrev pub LeavesOne : Bool → ℕ → List Opened → List KnownPair → List Opened → List KnownPair → Type 0
LeavesOne true height opened left opened' left' =
    (o : Opened) × ((opened ≡ opened' ++ o ∷ []) × ((height ≤ o.height) × (left' ≡ left ++ o.pair ∷ [])))
LeavesOne false height opened left opened' left' = (opened' ≡ opened) × (left' ≡ left)

-- A pair is entered at this height, which may be kept, or it was left before.
abbrev pub Enters : Bool → KnownPair → ℕ → List Opened → List KnownPair → List Opened → Type 0
Enters true p height opened left opened' = (opened' ≡ opened) ⊎ (opened' ≡ opened ++ record { pair = p; height = height } ∷ [])
Enters false p height opened left opened' = (opened' ≡ opened) × Contains left p
