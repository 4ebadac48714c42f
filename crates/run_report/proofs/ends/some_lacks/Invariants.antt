use Rattle.std.proofs.Common.{◌≡◌, drop}
use Rattle.run_report.specs.Parts.{lacks_in}
use Rattle.run_report.proofs.ends.some_lacks.Given as goal

abbrev pub invariant-loop-part : goal.invariant-loop-part
invariant-loop-part l = lacks_in (drop l.part-index l.parts) ≡ lacks_in l.parts
