use Rattle.std.proofs.Common.{◌≡◌, List, [], length}
use Rattle.atom_words.specs.Kinds.{after}
use Rattle.bucket_rows.specs.Walks.{Passed, passes, Others}
use Rattle.bucket_rows.specs.Standing.{Standing}
use Rattle.bucket_rows.proofs.walks.walk_chain.Given as goal

abbrev pub invariant-loop-i : goal.invariant-loop-i
invariant-loop-i l = record {
  same : (l.seat.table_id ≡ l.initial.seat.table_id) × (l.seat.id ≡ l.initial.seat.id) × (l.seat.me.1 ≡ l.initial.seat.me.1);
  passed : (ps : List Passed) × (length ps ≡ l._i) × Others l.row ps × (l.seat.me.0 ≡ after l.initial.seat.me.0 (passes ps));
  stands : Standing l.row l.head l.word l._i l.place [] l.seat.me.0;
}
