use Rattle.std.proofs.Common.{◌≡◌, take}
use Rattle.std.specs.List.{flat_map}
use Rattle.pl_report.specs.Pieces.{section_bytes}
use Rattle.pl_report.proofs.sections.transcript.Given as goal

abbrev pub invariant-loop-section : goal.invariant-loop-section
invariant-loop-section l = l.out.items ≡ flat_map section_bytes (take l.section-index l.sections)
