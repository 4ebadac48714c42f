use Rattle.std.proofs.Common.{◌≤◌}
use Rattle.atom_words.specs.Seats.{seen, Fits, Same}
use Rattle.bucket_rows.specs.RowChanges.{RowSteps, MovesOn}
use Rattle.bucket_rows.proofs.moving.move_row.Given as goal

abbrev pub invariant-loop-chain : goal.invariant-loop-chain
invariant-loop-chain l = record {
  same : Same l.initial.seat l.seat;
  fits : Fits l.words l.seat;
  steps : RowSteps (seen l.initial.seat) (seen l.seat);
  rows : MovesOn l.row l.aim l.from l.chain (seen l.initial.seat) (seen l.seat);
  left : l.left ≤ l.most;
}
