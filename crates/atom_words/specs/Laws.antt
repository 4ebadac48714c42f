-- What holds of every table that steps of the kinds have made.
use Rattle.std.specs.Prelude.{◌≡◌, ◌≢◌, ◌⊎◌, ℕ, ◌<◌, false, List, Some, slice_index}
use mathlib.Core.Option.{some}
use lib.ListN.{get_elem?}
use Rattle.atom_words.specs.Layout.{state_of, mark_of, count_of, phase_of, epoch_of}
use Rattle.atom_words.specs.Board.{Board, atom, text_of}
use Rattle.atom_words.specs.Chains.{In}
use Rattle.atom_words.specs.Kinds.{Does}
use Rattle.atom_words.specs.Rule.{Moves, Reached}
use Rattle.atom_words.specs.declared.size.Size.{Size}
use Rattle.atom_words.specs.declared.view.Held.{Held}
use Rattle.atom_words.specs.declared.view.Counted.{Counted}
use Rattle.atom_words.specs.declared.view.Sweeping.{Sweeping}
use Rattle.atom_words.specs.declared.view.View.{View}
use Rattle.atom_words.specs.declared.kind.Kind.TheVariants.{Condemn, Free}

-- a seat uses a slot with its text: it holds it, or counts it, or it is one of its fixed atoms
abbrev pub Uses : View → Held → Type 0
Uses v a = (In a v.held ⊎ In a v.fixed) ⊎ ((cs : List Counted) × (v.counts ≡ Some cs) × ((c : Counted) × (get_elem? cs a.slot ≡ some c) × (0 < c.count) × (c.text ≡ a.text)))

-- VALID SLOTS with equal texts are one
abbrev pub Unlike : Size → Type 0
Unlike z = (n : ℕ) (b : Board) (vs : List View) → Reached n z b vs → (k q : ℕ) → state_of (atom b k) ≡ 3 → state_of (atom b q) ≡ 3 → text_of b.texts k ≡ text_of b.texts q → k ≡ q

-- A SLOT THAT IS USED before a step and after it, by whichever seats, is valid both times, and has the same text
abbrev pub TextStays : Size → Type 0
TextStays z = (n : ℕ) (b : Board) (vs : List View) (b' : Board) (vs' : List View) → Reached n z b vs → Moves z b vs b' vs' → (i j : ℕ) (v w : View) (a c : Held) → get_elem? vs i ≡ some v → v.gone ≡ false → get_elem? vs' j ≡ some w → w.gone ≡ false
    → Uses v a → Uses w c → a.slot ≡ c.slot → (state_of (atom b a.slot) ≡ 3) × (state_of (atom b' c.slot) ≡ 3) × (a.text ≡ c.text)

-- WHAT IS CONDEMNED OR FREED is used by no seat
abbrev pub Unused : Size → Type 0
Unused z = (n : ℕ) (b : Board) (vs : List View) → Reached n z b vs → (id : ℕ) (v : View) (y : Sweeping) (b' : Board) → get_elem? vs id ≡ some v → v.gone ≡ false → v.sweep ≡ Some y → Does z b v Condemn b' ⊎ Does z b v Free b'
    → (j : ℕ) (w : View) (a : Held) → get_elem? vs j ≡ some w → w.gone ≡ false → Uses w a → a.slot ≢ y.cursor

-- THE COUNT of a slot is the keeper's, and one that is not valid has none
abbrev pub CountsAre : Size → Type 0
CountsAre z = (n : ℕ) (b : Board) (vs : List View) → Reached n z b vs → (k : ℕ)
    → (state_of (atom b k) ≢ 3 → count_of (atom b k) ≡ 0) × ((j : ℕ) (v : View) (cs : List Counted) (c : Counted) → get_elem? vs j ≡ some v → v.gone ≡ false → v.counts ≡ Some cs → get_elem? cs k ≡ some c → count_of (atom b k) ≡ c.count)

-- WHAT AN ENGINE HOLDS that has acknowledged the cycle at work is valid, and has its mark, or the sweep has passed it
abbrev pub Marked : Size → Type 0
Marked z = (n : ℕ) (b : Board) (vs : List View) → Reached n z b vs → (i j : ℕ) (u v : View) (y : Sweeping) (a : Held) → get_elem? vs i ≡ some u → u.gone ≡ false → u.sweep ≡ Some y → get_elem? vs j ≡ some v → v.gone ≡ false
    → phase_of b.epoch ≢ 0 → v.cycle.acked ≡ epoch_of b.epoch → In a v.held → (state_of (atom b a.slot) ≡ 3) × ((mark_of (atom b a.slot) ≡ 1) ⊎ ((phase_of b.epoch ≡ 2) × (a.slot < y.cursor)))

-- ONE SLOT AT MOST IS DYING, the one that the sweep has come to, and all engines have acknowledged the cycle then
abbrev pub OneDying : Size → Type 0
OneDying z = (n : ℕ) (b : Board) (vs : List View) → Reached n z b vs → (i k : ℕ) (u : View) (y : Sweeping) → get_elem? vs i ≡ some u → u.gone ≡ false → u.sweep ≡ Some y → state_of (atom b k) ≡ 2
    → (phase_of b.epoch ≡ 2) × (k ≡ y.cursor) × ((e : ℕ) → e < z.engines → slice_index b.acks e ≡ epoch_of b.epoch)
