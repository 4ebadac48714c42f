-- Each word reads back as it was made.
use Rattle.std.proofs.Common.{◌≡◌, ℕ, ◌<◌, arith}
use Rattle.atom_words.specs.Layout.{atom_word, state_of, mark_of, count_of, head_word, first_of, closed_of, version_of, epoch_word, phase_of, epoch_of}
use Rattle.atom_words.specs.Kinds.{marked, unmarked}

pub state-atom_word : (s m c : ℕ) → s < 4 → m < 2 → state_of (atom_word s m c) ≡ s
state-atom_word s m c p q = omega arith

pub mark-atom_word : (s m c : ℕ) → s < 4 → m < 2 → mark_of (atom_word s m c) ≡ m
mark-atom_word s m c p q = omega arith

pub count-atom_word : (s m c : ℕ) → s < 4 → m < 2 → count_of (atom_word s m c) ≡ c
count-atom_word s m c p q = omega arith

pub first-head_word : (f c v : ℕ) → f < 2097152 → c < 2 → first_of (head_word f c v) ≡ f
first-head_word f c v p q = omega arith

pub closed-head_word : (f c v : ℕ) → f < 2097152 → c < 2 → closed_of (head_word f c v) ≡ c
closed-head_word f c v p q = omega arith

pub version-head_word : (f c v : ℕ) → f < 2097152 → c < 2 → version_of (head_word f c v) ≡ v
version-head_word f c v p q = omega arith

pub phase-epoch_word : (p e : ℕ) → p < 4 → phase_of (epoch_word p e) ≡ p
phase-epoch_word p e q = omega arith

pub epoch-epoch_word : (p e : ℕ) → p < 4 → epoch_of (epoch_word p e) ≡ e
epoch-epoch_word p e q = omega arith

-- setting the mark leaves state and count
pub state-marked : (w : ℕ) → state_of (marked w) ≡ state_of w
state-marked w = omega arith

pub count-marked : (w : ℕ) → count_of (marked w) ≡ count_of w
count-marked w = omega arith

pub mark-marked : (w : ℕ) → mark_of (marked w) ≡ 1
mark-marked w = omega arith

-- so does clearing it
pub state-unmarked : (w : ℕ) → state_of (unmarked w) ≡ state_of w
state-unmarked w = omega arith

pub count-unmarked : (w : ℕ) → count_of (unmarked w) ≡ count_of w
count-unmarked w = omega arith
