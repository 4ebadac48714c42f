-- The report of a run.
use Rattle.std.specs.Prelude.{◌≡◌, encode_utf8_all}
use Rattle.pl_term.specs.Tree.{Chars}
use Rattle.run_model.specs.Lawful.{Program, Told}
use Rattle.run_model.specs.Report.{Finals, transcript}
use Rattle.run_model.specs.Ends.{end_of, goal_ends}
use Rattle.run_report.specs.declared.report.RunReport.{RunReport}

-- The text, the ends of the goals and the end of the program are those that the definitions give.
pub record IsReported (name : Chars) (p : Program) (told : Told) (finals : Finals) (r : RunReport) : Type 0 where
  pub end_is : r.end ≡ end_of p told finals
  pub ends_are : r.ends.items ≡ goal_ends p told finals
  pub text_is : r.text.items ≡ encode_utf8_all (transcript name p told finals)
