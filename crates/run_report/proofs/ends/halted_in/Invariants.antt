use Rattle.std.proofs.Common.{◌≡◌, drop}
use Rattle.run_report.specs.Parts.{halted_in}
use Rattle.run_report.proofs.ends.halted_in.Given as goal

abbrev pub invariant-loop-part : goal.invariant-loop-part
invariant-loop-part l = halted_in (drop l.part-index l.parts) ≡ halted_in l.parts
