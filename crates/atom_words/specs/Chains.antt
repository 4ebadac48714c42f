-- Chains of slots over the link words.
use Rattle.std.specs.Prelude.{◌≡◌, ℕ, ◌+◌, ◌<◌, List, [], ◌∷◌, length, slice_index}
use mathlib.Core.Option.{some}
use lib.ListN.{get_elem?}

abbrev pub In : {A : Type 0} → A → List A → Type 0
In x xs = (i : ℕ) × (get_elem? xs i ≡ some x)

-- from p on the link words lead over just these slots, first to last
abbrev pub Chain : List ℕ → ℕ → List ℕ → Type 0
Chain links p [] = p ≡ 0
Chain links p (k ∷ ks) = (p ≡ k + 1) × (k < length links) × Chain links (slice_index links k) ks

-- the slot stands in the chain of one of the first n heads
abbrev pub Linked : ℕ → (ℕ → List ℕ) → ℕ → Type 0
Linked n chain k = (h : ℕ) × (h < n) × In k (chain h)
