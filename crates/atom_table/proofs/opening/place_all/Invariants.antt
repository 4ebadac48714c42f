use Rattle.std.proofs.Common.{◌≡◌, map, take}
use Rattle.atom_words.specs.Seats.{seen, Same}
use Rattle.atom_table.specs.Holding.{Sits}
use Rattle.atom_table.specs.Opening.{fixed_slot, Stays, Low}
use Rattle.atom_table.proofs.opening.place_all.Given as goal

abbrev pub invariant-loop-row : goal.invariant-loop-row
invariant-loop-row l = record {
  same : Same l.initial.seat l.seat;
  sits : Sits l.words l.seat;
  stays : Stays (seen l.initial.seat) (seen l.seat);
  held : (seen l.seat).held ≡ map fixed_slot (take l.row-index l.row-items);
  low : Low (seen l.seat);
}
