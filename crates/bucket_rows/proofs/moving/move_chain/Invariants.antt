use Rattle.atom_words.specs.Seats.{seen, Fits, Same}
use Rattle.bucket_rows.specs.RowChanges.{RowSteps, MovesOn}
use Rattle.bucket_rows.proofs.moving.move_chain.Given as goal

abbrev pub invariant-loop-i : goal.invariant-loop-i
invariant-loop-i l = record {
  same : Same l.initial.seat l.seat;
  fits : Fits l.words l.seat;
  steps : RowSteps (seen l.initial.seat) (seen l.seat);
  rows : MovesOn l.row l.aim l.moved l.moved (seen l.initial.seat) (seen l.seat);
}
