use Rattle.std.proofs.Common.{◌≡◌}
use Rattle.atom_words.specs.Seats.{seen, Same, Unchanged}
use Rattle.atom_table.proofs.opening.raise_all.Given as goal

abbrev pub invariant-loop-head : goal.invariant-loop-head
invariant-loop-head l = record {
  same : Same l.initial.seat l.seat;
  unchanged : Unchanged (seen l.initial.seat) (seen l.seat);
  risen : (seen l.seat).risen ≡ l.head;
}
