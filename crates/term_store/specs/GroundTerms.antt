-- Compound terms that a walk found to have no variables, under the bindings of its time.
use Rattle.std.specs.Prelude.{◌≡◌, ◌<◌, ◌≤◌, ℕ, zero, false, List, length, take, slice_index_or}
use Rattle.std.specs.List.{All}
use Rattle.pl_term.specs.Variables.{has}
use Rattle.term_store.specs.declared.ground_terms.GroundTerm.{GroundTerm}
use Rattle.term_store.specs.declared.words.Word.TheVariants.{Comp}
use Rattle.term_store.specs.Heap.{Heap, meaning, with_trail}

abbrev pub no_ground_term : GroundTerm
no_ground_term = record { term = zero; heads = zero; bindings = zero }

-- No variable occurs in the compound term under the first `n` bindings.
abbrev pub IsGroundAt : Heap → ℕ → ℕ → Type 0
IsGroundAt h k n = (x : ℕ) → has x (meaning (with_trail h (take n h.trail)) (Comp k)) ≡ false

-- The compound term was one of the first `heads`, and no variable occurs in it since there were `bindings` bindings.
pub record IsGroundTerm (h : Heap) (g : GroundTerm) : Type 0 where
  pub term : g.term < g.heads
  pub heads : g.heads ≤ length h.heads
  pub bindings : g.bindings ≤ length h.trail
  pub ground : (n : ℕ) → g.bindings ≤ n → n ≤ length h.trail → IsGroundAt h g.term n

-- Those that were found later were found with no fewer compound terms and bindings.
abbrev pub Rise : List GroundTerm → Type 0
Rise gs =
    (i j : ℕ) → i < j → j < length gs
    → ((slice_index_or gs i no_ground_term).heads ≤ (slice_index_or gs j no_ground_term).heads)
    × ((slice_index_or gs i no_ground_term).bindings ≤ (slice_index_or gs j no_ground_term).bindings)

pub record AreGroundTerms (gs : List GroundTerm) (h : Heap) : Type 0 where
  pub all : All (IsGroundTerm h) gs
  pub rise : Rise gs

-- The term was found with so many compound terms and bindings at most.
pub record IsEarly (terms bonds : ℕ) (g : GroundTerm) : Type 0 where
  pub heads : g.heads ≤ terms
  pub bindings : g.bindings ≤ bonds
