use Rattle.std.proofs.Common.{◌≡◌, ◌≤◌, None, IsSome}
use Rattle.atom_words.specs.Seats.{seen, Fits}
use Rattle.atom_words.proofs.tests.count_taken.Given as goal

abbrev pub invariant-loop-i : goal.invariant-loop-i
invariant-loop-i l = record {
  fits : Fits l.words l.seat;
  unowned : (seen l.seat).own ≡ None;
  pass : IsSome (seen l.seat).pass;
  few : l.taken ≤ l.i;
}
