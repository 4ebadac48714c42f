use Rattle.std.proofs.Common.{◌≡◌, drop}
use Rattle.run_report.specs.Parts.{waits_in}
use Rattle.run_report.proofs.ends.some_waits.Given as goal

abbrev pub invariant-loop-part : goal.invariant-loop-part
invariant-loop-part l = waits_in (drop l.part-index l.parts) ≡ waits_in l.parts
