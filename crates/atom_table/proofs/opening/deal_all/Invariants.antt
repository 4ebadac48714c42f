use Rattle.std.proofs.Common.{◌≡◌, ◌-◌, ◌+◌, length}
use Rattle.atom_table.specs.Opening.{FreshFrom, Source}
use Rattle.atom_table.proofs.opening.deal_all.Given as goal

abbrev pub invariant-loop-i : goal.invariant-loop-i
invariant-loop-i l = record {
  source : Source l.words (l.engines - l.i) l.first;
  many : length l.seats.items ≡ l.i;
  fresh : FreshFrom l.words (l.engines - l.i + 1) l.seats.items;
}
