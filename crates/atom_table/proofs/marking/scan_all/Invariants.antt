use Rattle.std.proofs.Common.{◌≡◌, ℕ, List, length, take}
use Rattle.atom_words.specs.Kinds.{after}
use Rattle.atom_words.specs.Seats.{seen, Same}
use Rattle.atom_table.specs.Collecting.{scans}
use Rattle.atom_table.proofs.marking.scan_all.Given as goal

abbrev pub invariant-loop-a : goal.invariant-loop-a
invariant-loop-a l = record {
  same : Same l.initial.seat l.seat;
  view : (xs : List ℕ) × (length xs ≡ l.a-index) × (seen l.seat ≡ after (seen l.initial.seat) (scans (seen l.initial.seat) (take l.a-index l.live) xs));
}
