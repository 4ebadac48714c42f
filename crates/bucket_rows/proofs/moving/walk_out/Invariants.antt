use Rattle.std.proofs.Common.{◌≡◌, ◌≢◌, ℕ, List, []}
use Rattle.atom_words.specs.Kinds.{after}
use Rattle.bucket_rows.specs.RowChanges.{Paces}
use Rattle.bucket_rows.specs.Treads.{nexts}
use Rattle.bucket_rows.specs.RowPlays.{Inside}
use Rattle.bucket_rows.proofs.moving.walk_out.Given as goal

abbrev pub invariant-loop-i : goal.invariant-loop-i
invariant-loop-i l = record {
  same : (l.seat.table_id ≡ l.initial.seat.table_id) × (l.seat.id ≡ l.initial.seat.id) × (l.seat.me.1 ≡ l.initial.seat.me.1);
  steps : (links : List ℕ) × (l.seat.me.0 ≡ after l.initial.seat.me.0 (nexts links));
  paces : (before : ℕ) × Paces l.head l.word l._i before l.place [] l.seat.me.0;
  inside : Inside l.seat.me.0;
  more : l.place ≢ 0;
}
