use Rattle.std.proofs.Common.{◌≡◌, length, take}
use Rattle.atom_words.specs.Kinds.{after}
use Rattle.bucket_rows.specs.Walks.{reads}
use Rattle.bucket_rows.proofs.moving.read_text.Given as goal

abbrev pub invariant-loop-i : goal.invariant-loop-i
invariant-loop-i l = record {
  same : (l.seat.table_id ≡ l.initial.seat.table_id) × (l.seat.id ≡ l.initial.seat.id) × (l.seat.me.1 ≡ l.initial.seat.me.1);
  long : length l.row ≡ 32;
  view : l.seat.me.0 ≡ after l.initial.seat.me.0 (reads (take l.i l.row));
}
