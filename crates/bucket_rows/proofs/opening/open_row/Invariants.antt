use Rattle.std.proofs.Common.{◌-◌, ℕ}
use Rattle.atom_words.specs.Seats.{seen, Fits, Same}
use Rattle.bucket_rows.specs.RowChanges.{RowSteps, Rowing}
use Rattle.bucket_rows.proofs.opening.open_row.Given as goal

abbrev pub invariant-loop-i : goal.invariant-loop-i
invariant-loop-i l = record {
  same : Same l.initial.seat l.seat;
  fits : Fits l.words l.seat;
  steps : RowSteps (seen l.initial.seat) (seen l.seat);
  rows : (aim : ℕ) (sound : ℕ) (moved : ℕ) → Rowing l.row aim l.shut sound moved (seen l.initial.seat) → (left : ℕ) × Rowing l.row aim (l.shut - l.i) left moved (seen l.seat);
}
