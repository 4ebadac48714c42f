use Rattle.std.proofs.Common.{refl}
use Rattle.run_report.proofs.sections.file_section.Goals as goal

pub returns : goal.returns
returns c t is = record { written = t; spelled = is; says = refl }
