use Rattle.atom_words.specs.Seats.{seen, Fits, Same}
use Rattle.bucket_rows.specs.RowChanges.{RowSteps, Closes}
use Rattle.bucket_rows.proofs.closing.close_row.Given as goal

abbrev pub invariant-loop-shut : goal.invariant-loop-shut
invariant-loop-shut l = record {
  same : Same l.initial.seat l.seat;
  fits : Fits l.words l.seat;
  steps : RowSteps (seen l.initial.seat) (seen l.seat);
  rows : Closes l.row l.from l.shut (seen l.initial.seat) (seen l.seat);
}
