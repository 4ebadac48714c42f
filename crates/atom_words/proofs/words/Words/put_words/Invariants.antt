use Rattle.std.proofs.Common.{◌≡◌, take}
use Rattle.atom_words.specs.Texts.{row_of}
use Rattle.atom_words.specs.Seats.{Puts}
use Rattle.atom_words.proofs.words.Words.put_words.Given as goal

abbrev pub invariant-loop-i : goal.invariant-loop-i
invariant-loop-i l = record {
  same : (l.seat.table_id ≡ l.initial.seat.table_id) × (l.seat.id ≡ l.initial.seat.id) × (l.seat.me.1 ≡ l.initial.seat.me.1);
  view : Puts (take l.i (row_of l.text)) l.initial.seat.me.0 l.seat.me.0;
}
