use Rattle.std.proofs.Common.{◌≡◌, drop}
use Rattle.run_report.specs.Parts.{part_in}
use Rattle.run_report.proofs.lookups.part_in.Given as goal

abbrev pub invariant-loop-part : goal.invariant-loop-part
invariant-loop-part l = part_in (drop l.part-index l.parts) l.number ≡ part_in l.parts l.number
