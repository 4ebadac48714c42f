use Rattle.std.proofs.Common.{◌++◌, drop}
use Rattle.pl_term.specs.Tree.{Chars}
use Rattle.run_model.specs.Lawful.{Program, Told}
use Rattle.run_model.specs.Report.{Finals, goal_sections}
use Rattle.pl_consult.specs.GoalWords.{refusals_of, words_of}
use Rattle.run_report.specs.Parts.{IsKept}
use Rattle.run_report.specs.Sections.{AreSections}
use Rattle.run_report.proofs.SectionLaws.{Written}
use Rattle.run_report.proofs.sections.put_goals.Given as goal

abbrev pub invariant-loop-i : goal.invariant-loop-i
invariant-loop-i l =
    (p : Program) (told : Told) (finals : Finals) (t : Chars)
    → IsKept p told finals (words_of l.words) l.engines
    → AreSections l.initial.sections.items t
    → Written p told finals (refusals_of l.refused) l.i (drop l.i l.goals) (words_of (drop l.i l.words)) l.sections.items
    (t ++ goal_sections p told finals (refusals_of l.refused) 1 l.goals (words_of l.words))
