use Rattle.std.proofs.Common.{◌≡◌, ◌≤◌, ◌-◌}
use Rattle.atom_words.specs.Kinds.{after}
use Rattle.atom_words.specs.Seats.{seen, Same}
use Rattle.bucket_rows.specs.Cycles.{checks}
use Rattle.bucket_rows.proofs.cycles.check.Given as goal

abbrev pub invariant-loop-engine : goal.invariant-loop-engine
invariant-loop-engine l = record {
  same : Same l.initial.seat l.seat;
  past : l.from ≤ l.engine;
  view : seen l.seat ≡ after (seen l.initial.seat) (checks l.from (l.engine - l.from));
}
