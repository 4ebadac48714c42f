use Rattle.std.proofs.Common.{◌≡◌, ◌≢◌, ◌≤◌, []}
use Rattle.bucket_rows.specs.RowChanges.{RowSteps, Paces}
use Rattle.bucket_rows.specs.RowPlays.{Inside}
use Rattle.bucket_rows.proofs.moving.find_last.Given as goal

abbrev pub invariant-loop-i : goal.invariant-loop-i
invariant-loop-i l = record {
  same : (l.seat.table_id ≡ l.initial.seat.table_id) × (l.seat.id ≡ l.initial.seat.id) × (l.seat.me.1 ≡ l.initial.seat.me.1);
  steps : RowSteps l.initial.seat.me.0 l.seat.me.0;
  rows : l.seat.me.0.growing ≡ l.initial.seat.me.0.growing;
  paces : Paces l.head l.word l._i l.before l.place [] l.seat.me.0;
  inside : Inside l.seat.me.0;
  more : l.place ≢ 0;
  low : l.before ≤ l.words.size.slots;
}
