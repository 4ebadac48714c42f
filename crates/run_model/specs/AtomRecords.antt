-- When what shows that an engine ended for want of atoms is true.
use Rattle.std.specs.Prelude.{◌≡◌, ◌≤◌, ◌<◌, ◌⊎◌, ℕ, ◌-◌, ◌^◌, ◌/◌, ◌%◌}
use Rattle.pl_model.specs.declared.ends.AtomRecord.{AtomRecord}
use Rattle.pl_model.specs.declared.ends.AtomRecord.TheVariants.{Taken, WornBucket, WornEpoch}

-- A head word holds the version of its bucket in bits 22 to 63. From this version on the bucket takes no new atom.
abbrev pub version_of : ℕ → ℕ
version_of word = word / 4194304

abbrev pub worn_version : ℕ
worn_version = 2 ^ 42 - 2

-- An epoch word holds the number of cycles begun in bits 2 to 63. From the last number on no cycle begins.
abbrev pub epoch_of : ℕ → ℕ
epoch_of word = word / 4

abbrev pub last_epoch : ℕ
last_epoch = 2 ^ 62 - 1

-- Its bits 0 and 1 have the phase, which is 0 where no cycle is at work.
abbrev pub phase_of : ℕ → ℕ
phase_of word = word % 4

-- The cycle of this number was at its end where this word was read: no cycle is at work and that one was begun last, or a later one
-- was begun, since a cycle begins only where none is at work.
abbrev pub IsAfterCycle : ℕ → ℕ → Type 0
IsAfterCycle n word = ((epoch_of word ≡ n) × (phase_of word ≡ 0)) ⊎ (n < epoch_of word)

-- The record is true for a table with so many slots whose buckets began with the version 0. Both passes are of one seat and found
-- every slot taken. The two cycles, named by their numbers, were begun after the first pass had ended, and the second one was at
-- its end when the second pass began.
abbrev pub IsTrue : ℕ → AtomRecord → Type 0
IsTrue slots (Taken earlier first second pass) =
    (earlier.seat ≡ pass.seat)
    × ((earlier.counted ≡ slots)
    × ((pass.counted ≡ slots)
    × ((epoch_of earlier.ended < first) × ((first < second) × IsAfterCycle second pass.began))))
IsTrue slots (WornBucket w) = (worn_version ≤ version_of w.word) × (w.start ≡ 0)
IsTrue slots (WornEpoch pass) = (pass.counted ≡ slots) × (epoch_of pass.ended ≡ last_epoch)
