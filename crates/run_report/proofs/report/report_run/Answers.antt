use Rattle.std.proofs.Common.{◌∙◌, sym}
use Rattle.pl_consult.specs.GoalWords.{refusals_of, words_of}
use Rattle.run_report.proofs.ReportLaws as laws
use Rattle.run_report.proofs.report.report_run.Goals as goal

pub returns : goal.returns
returns c name p told finals x goals w =
    let ws = words_of c.args.words.now in
    let rs = refusals_of c.args.refused.now in
    record {
      end_is =
          c.end_of-end.ensures
          ∙ laws.end_is name p told finals x c.args.text.now c.args.faulty ws rs c.args.engines.now c.args.threads.now w c.as_slice.result.now
          (c.as_slice.ensures.value ∙ c.in_ok-ends.ensures);
      ends_are =
          c.in_ok-ends.ensures
          ∙ sym (laws.ends_are name p told finals x c.args.text.now c.args.faulty ws rs c.args.engines.now c.args.threads.now w);
      text_is = c.in_ok-text.ensures name p told finals x c.args.faulty goals w;
    }
