-- What the bits of each word say.
use Rattle.std.specs.Prelude.{ℕ, ◌+◌, ◌-◌, ◌*◌, ◌/◌, ◌%◌, ◌^◌}

-- An atom word: bits 0 and 1 the state (0 free, 1 reserved, 3 valid, 2 dying), bit 2 the mark, bits 3 to 63 the count
abbrev pub atom_word : ℕ → ℕ → ℕ → ℕ
atom_word state mark count = state + 4 * mark + 8 * count

abbrev pub state_of : ℕ → ℕ
state_of w = w % 4

abbrev pub mark_of : ℕ → ℕ
mark_of w = w / 4 % 2

abbrev pub count_of : ℕ → ℕ
count_of w = w / 8

-- A head word: bits 0 to 20 the first slot's number plus one, or 0; bit 21 whether it is closed; bits 22 to 63 the version
abbrev pub head_word : ℕ → ℕ → ℕ → ℕ
head_word first closed version = first + 2097152 * closed + 4194304 * version

abbrev pub first_of : ℕ → ℕ
first_of w = w % 2097152

abbrev pub closed_of : ℕ → ℕ
closed_of w = w / 2097152 % 2

abbrev pub version_of : ℕ → ℕ
version_of w = w / 4194304

-- a bucket whose version is this or more takes no new atom; the version has 42 bits
abbrev pub worn : ℕ
worn = 4398046511102

-- the last version
abbrev pub last : ℕ
last = 4398046511103

-- An epoch word: bits 0 and 1 the phase (0 idle, 1 marking, 2 sweeping), bits 2 to 63 the epoch
abbrev pub epoch_word : ℕ → ℕ → ℕ
epoch_word phase epoch = phase + 4 * epoch

abbrev pub phase_of : ℕ → ℕ
phase_of w = w % 4

abbrev pub epoch_of : ℕ → ℕ
epoch_of w = w / 4

-- The rows of buckets of all sizes stand one after the other, from 256 heads on: the first head of the row with 2 ^ row heads
abbrev pub row_first : ℕ → ℕ
row_first row = 2 ^ row - 256
