use Rattle.std.proofs.Common.{◌++◌, drop}
use Rattle.pl_term.specs.Tree.{Chars}
use Rattle.run_model.specs.Lawful.{Program, Told, beginnings}
use Rattle.run_model.specs.Report.{Finals, thread_sections}
use Rattle.run_report.specs.Parts.{AreThreads}
use Rattle.run_report.specs.Sections.{AreSections}
use Rattle.run_report.proofs.ThreadLaws.{Left}
use Rattle.run_report.proofs.threads.put_threads.Given as goal

abbrev pub invariant-loop-part : goal.invariant-loop-part
invariant-loop-part l =
    (p : Program) (told : Told) (finals : Finals) (t : Chars)
    → AreThreads p told finals (beginnings told.history) l.threads
    → AreSections l.initial.sections.items t
    → Left p told finals (drop l.part-index l.threads) l.sections.items (t ++ thread_sections p told finals (beginnings told.history))
