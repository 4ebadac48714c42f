use Rattle.std.proofs.Common.{◌≡◌, ◌≤◌, List}
use Rattle.atom_words.specs.Layout.{version_of}
use Rattle.atom_words.specs.Kinds.{after}
use Rattle.atom_words.specs.Seats.{seen, Fits, Same}
use Rattle.atom_words.specs.declared.kind.Kind.{Kind}
use Rattle.bucket_rows.specs.SweepKinds.{SweepKinds, Few}
use Rattle.bucket_rows.specs.Treads.{Behinds}
use Rattle.bucket_rows.proofs.removal.unlink.Given as goal

abbrev pub invariant-loop-i : goal.invariant-loop-i
invariant-loop-i l = record {
  same : Same l.fn.seat l.seat;
  fits : Fits l.words l.seat;
  steps : (ks : List Kind) × (seen l.seat ≡ after (seen l.fn.seat) ks) × SweepKinds ks × Few l.words.size.slots 1 l._i ks;
  low : l.before ≤ l.words.size.slots;
  caught : Behinds l.slot l.seat.word l.before l.link (seen l.seat);
  count : l._i ≤ version_of l.seat.word;
}
