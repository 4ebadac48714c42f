-- A loop that frees slots without a mark.
use Rattle.std.proofs.Common.{◌≡◌, ◌≢◌, ◌<◌, ◌≤◌, ◌+◌, ℕ, Bool, true, false, List, length, get_or, Option, None, refl, sym, ap, ◌∙◌, inl, inr, arith}
use Rattle.std.specs.Prelude.{◌==◌, ◌||◌, if◌then◌else◌, nat_lt, nat_le}
use Rattle.std.specs.List.{list_any}
use Rattle.std.proofs.lemmas.Bool.{cases_eq, cases_lt, lt-ltb, le-ltb, le-leb, lt-leb}
use Rattle.std.proofs.lemmas.List.{get_or_past}
use Rattle.pl_term.specs.Tree.{Chars}
use Rattle.atom_api.specs.Names.{Names}
use Rattle.atom_api.specs.Slots.{names_of, swept, without}
use Rattle.atom_api.proofs.SlotNames.{without_here, without_else}

-- the map when the loop stands at `slot`
abbrev pub swept_to : ℕ → ℕ → List Bool → Names → Names
swept_to from slot marks m k = if nat_lt k from || (nat_le slot k || get_or marks k false) then m k else None

abbrev choice : Names → ℕ → Bool → Bool → Bool → Option Chars
choice m k low high marked = if low || (high || marked) then m k else None

same_choice : (m : Names) (k : ℕ) (a b c d e f : Bool) → a ≡ d → b ≡ e → c ≡ f → choice m k a b c ≡ choice m k d e f
same_choice m k a b c d e f x y z = ap (λ n. choice m k n b c) x ∙ ap (λ n. choice m k d n c) y ∙ ap (λ n. choice m k d e n) z

pub swept_start : (from : ℕ) (marks : List Bool) (m : Names) (k : ℕ) → swept_to from from marks m k ≡ m k
swept_start from marks m k =
    elim (cases_lt k from) [
      | inl low ↦ same_choice m k (nat_lt k from) (nat_le from k) (get_or marks k false) true (nat_le from k) (get_or marks k false) (lt-ltb k from low) refl refl
      | inr high ↦ same_choice m k (nat_lt k from) (nat_le from k) (get_or marks k false) false true (get_or marks k false) (le-ltb k from high) (le-leb from k high) refl
    ]

-- the next slot is as before where the slot at hand has a mark, or where it is another
next_high : (slot k : ℕ) → k ≢ slot → nat_le slot k ≡ nat_le (slot + 1) k
next_high slot k n =
    elim (cases_lt k slot) [
      | inl low ↦ lt-leb slot k low ∙ sym (let below : k < slot + 1 = omega arith in lt-leb (slot + 1) k below)
      | inr high ↦ le-leb slot k high ∙ sym (let above : slot + 1 ≤ k = omega arith in le-leb (slot + 1) k above)
    ]

module _ (from slot : ℕ) (marks : List Bool) (m : Names) where
  pub swept_next_else : (k : ℕ) → k ≢ slot → swept_to from slot marks m k ≡ swept_to from (slot + 1) marks m k
  swept_next_else k n =
      same_choice m k (nat_lt k from) (nat_le slot k) (get_or marks k false) (nat_lt k from) (nat_le (slot + 1) k) (get_or marks k false) refl (next_high slot k n) refl

  kept : (b : Bool) → choice m slot b true true ≡ choice m slot b false true
  kept true = refl
  kept false = refl

  pub swept_next_marked : get_or marks slot false ≡ true → (k : ℕ) → swept_to from slot marks m k ≡ swept_to from (slot + 1) marks m k
  swept_next_marked marked k =
      elim (cases_eq k slot) [
        | inl here ↦
            let low : slot < slot + 1 = omega arith in
            let at : swept_to from slot marks m slot ≡ swept_to from (slot + 1) marks m slot =
            same_choice m slot (nat_lt slot from) (nat_le slot slot) (get_or marks slot false) (nat_lt slot from) true true refl (le-leb slot slot (omega arith)) marked
            ∙ kept (nat_lt slot from)
            ∙ sym (same_choice m slot (nat_lt slot from) (nat_le (slot + 1) slot) (get_or marks slot false) (nat_lt slot from) false true refl (lt-leb (slot + 1) slot low) marked) in
            rw here at
        | inr other ↦ swept_next_else k other
      ]

  pub swept_next_free : from ≤ slot → get_or marks slot false ≡ false → (n : Names) → ((k : ℕ) → n k ≡ swept_to from slot marks m k) → (k : ℕ) → without n slot k ≡ swept_to from (slot + 1) marks m k
  swept_next_free above unmarked n h k =
      elim (cases_eq k slot) [
        | inl here ↦
            let low : slot < slot + 1 = omega arith in
            let at : swept_to from (slot + 1) marks m slot ≡ None =
            same_choice m slot (nat_lt slot from) (nat_le (slot + 1) slot) (get_or marks slot false) false false false (le-ltb slot from above) (lt-leb (slot + 1) slot low) unmarked in
            without_here n slot k here ∙ sym (rw here at)
        | inr other ↦ without_else n slot k other ∙ h k ∙ swept_next_else k other
      ]

nothing : (o : Option Chars) (b : Bool) → o ≡ None → (if b then o else None) ≡ None
nothing o true e = e
nothing o false e = refl

-- at the end
pub swept_end : (from slot : ℕ) (marks : List Bool) (xs : List (Option Chars)) (live : List ℕ)
    → length xs ≤ slot
    → ((k : ℕ) → k < length xs → get_or marks k false ≡ list_any (λ a. a == k) live)
    → (k : ℕ) → swept_to from slot marks (names_of xs) k ≡ swept from live (names_of xs) k
swept_end from slot marks xs live past h k =
    elim (cases_lt k (length xs)) [
      | inl inside ↦
          let low : k < slot = omega arith in
          same_choice (names_of xs) k (nat_lt k from) (nat_le slot k) (get_or marks k false) (nat_lt k from) false (list_any (λ a. a == k) live) refl (lt-leb slot k low) (h k inside)
      | inr outside ↦
          nothing (names_of xs k) (nat_lt k from || (nat_le slot k || get_or marks k false)) (get_or_past xs k None outside)
          ∙ sym (nothing (names_of xs k) (nat_lt k from || list_any (λ a. a == k) live) (get_or_past xs k None outside))
    ]
