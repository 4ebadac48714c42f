use Rattle.std.proofs.Common.{◌≡◌, ℕ, ◌≤◌, length, take, get_or}
use Rattle.atom_words.specs.Kinds.{after}
use Rattle.bucket_rows.specs.Treads.{spells}
use Rattle.bucket_rows.proofs.spells.read_row.Given as goal

abbrev pub invariant-loop-i : goal.invariant-loop-i
invariant-loop-i l = record {
  same : (l.seat.table_id ≡ l.fn.seat.table_id) × (l.seat.id ≡ l.fn.seat.id) × (l.seat.me.1 ≡ l.fn.seat.me.1);
  long : length l.row ≡ 32;
  view : l.seat.me.0 ≡ after l.fn.seat.me.0 (spells (take l.i l.row));
  first : get_or l.row 0 0 ≡ l.first;
  some_ : 1 ≤ l.i;
  rest : (k : ℕ) → l.i ≤ k → get_or l.row k 0 ≡ 0;
}
