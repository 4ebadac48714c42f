use Rattle.std.proofs.Common.{◌≡◌, ◌≤◌, ◌+◌, List, length}
use Rattle.atom_words.specs.Seats.{seen, Fits, Same}
use Rattle.bucket_rows.specs.declared.slots.Verdict.{Verdict}
use Rattle.bucket_rows.specs.Treads.{AtSlot}
use Rattle.bucket_rows.specs.Sweeps.{all_left_valid, Run}
use Rattle.bucket_rows.proofs.runs.sweep_run.Given as goal

abbrev pub invariant-loop-slot : goal.invariant-loop-slot
invariant-loop-slot l = record {
  same : Same l.initial.seat l.seat;
  fits : Fits l.words l.seat;
  steps : (rs : List Verdict) × (l.from + length rs ≡ l.slot) × Run l.from rs (seen l.initial.seat) (seen l.seat) × (l.live ≡ all_left_valid rs);
  at : AtSlot l.slot (seen l.seat);
  few : l.live + l.from ≤ l.slot;
}
