use Rattle.pl_report.specs.WrittenNodes.{IsWrittenTo}
use Rattle.pl_report.proofs.lines.put_named.Given as goal

abbrev pub invariant-loop-i : goal.invariant-loop-i
invariant-loop-i l = IsWrittenTo l.term l.initial.writing l.i l.writing
