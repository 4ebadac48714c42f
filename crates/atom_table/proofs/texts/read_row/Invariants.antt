use Rattle.std.proofs.Common.{◌≡◌, ℕ, ◌<◌, ◌≤◌, length, get_or, take}
use Rattle.atom_words.specs.Kinds.{after}
use Rattle.atom_words.specs.Seats.{Has}
use Rattle.atom_words.specs.declared.view.Held.{Held}
use Rattle.atom_table.specs.Holding.{loads}
use Rattle.atom_table.proofs.texts.read_row.Given as goal

abbrev pub invariant-loop-i : goal.invariant-loop-i
invariant-loop-i l = record {
  same : (l.seat.table_id ≡ l.fn.seat.table_id) × (l.seat.id ≡ l.fn.seat.id) × (l.seat.me.1 ≡ l.fn.seat.me.1);
  long : length l.row ≡ 32;
  view : l.seat.me.0 ≡ after l.fn.seat.me.0 (loads l.words.size l.slot 0 (take l.i l.row));
  first : get_or l.row 0 0 ≡ l.first;
  some_ : 1 ≤ l.i;
  read : (h : Held) → Has l.fn.seat.me.0 h → h.slot ≡ l.slot → (k : ℕ) → k < l.i → get_or l.row k 0 ≡ get_or h.text k 0;
  rest : (k : ℕ) → l.i ≤ k → get_or l.row k 0 ≡ 0;
}
