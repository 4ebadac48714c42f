use Rattle.std.proofs.Common.{take}
use Rattle.atom_words.specs.Seats.{seen, Same}
use Rattle.counted_terms.specs.Keeping.{Fetched, Joins}
use Rattle.counted_terms.proofs.lists.fetch_all.Given as goal

abbrev pub invariant-loop-a : goal.invariant-loop-a
invariant-loop-a l = record {
  same : Same l.initial.seat l.seat;
  joins : Joins l.table.words l.seat;
  fetched : Fetched (take l.a-index l.atoms) (seen l.initial.seat) (seen l.seat);
}
