use Rattle.std.proofs.Common.{length, ◌-◌, ◌≡◌, ◌≤◌, ◌++◌, ℕ, List, Some, take}
use Rattle.pl_io.proofs.whole.write_all.Given as goal

abbrev pub invariant-loop-at : goal.invariant-loop-at
invariant-loop-at g l = record {
  in_text : l.at ≤ length l.text;
  faults : g.S.Sink.faults l.fn.out ≤ g.S.Sink.faults l.out;
  told : (before : List ℕ) → g.S.Sink.written l.fn.out ≡ Some before → g.S.Sink.written l.out ≡ Some (before ++ take l.at l.text);
}

abbrev pub decreases-loop-at : goal.decreases-loop-at
decreases-loop-at g l = length l.text - l.at
