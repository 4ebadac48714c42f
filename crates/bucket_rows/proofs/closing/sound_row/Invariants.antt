use Rattle.atom_words.specs.Seats.{seen, Fits, Same}
use Rattle.bucket_rows.specs.RowChanges.{RowSteps, Sounds}
use Rattle.bucket_rows.proofs.closing.sound_row.Given as goal

abbrev pub invariant-loop-sound : goal.invariant-loop-sound
invariant-loop-sound l = record {
  same : Same l.initial.seat l.seat;
  fits : Fits l.words l.seat;
  steps : RowSteps (seen l.initial.seat) (seen l.seat);
  rows : Sounds l.aim l.from l.sound (seen l.initial.seat) (seen l.seat);
}
