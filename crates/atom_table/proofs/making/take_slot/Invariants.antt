use Rattle.std.proofs.Common.{◌≡◌, ℕ}
use Rattle.atom_words.specs.Seats.{seen}
use Rattle.atom_table.specs.Interning.{Tries}
use Rattle.atom_table.proofs.Tries.{Tried, Passed}
use Rattle.atom_table.proofs.making.take_slot.Given as goal

abbrev pub invariant-loop-i : goal.invariant-loop-i
invariant-loop-i l = record {
  same : (l.seat.seat.table_id ≡ l.initial.seat.seat.table_id) × (l.seat.seat.id ≡ l.initial.seat.seat.id);
  tries : Tries l.i l.from (seen l.initial.seat) (seen l.seat);
  tried : Tried (seen l.initial.seat) (seen l.seat);
  passed : (x : ℕ) → Passed x l.from 0 (seen l.initial.seat) → Passed x l.from l.i (seen l.seat);
}
