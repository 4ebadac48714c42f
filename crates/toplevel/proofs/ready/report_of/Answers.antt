use Rattle.std.proofs.Common.{[], sym, ◌∙◌}
use Rattle.run_model.specs.Lawful.{main_job}
use Rattle.pl_consult.specs.GoalWords.{refusals_of, words_of}
use Rattle.toplevel.specs.Fronts.{told_by}
use Rattle.toplevel.specs.Mains.{words_kept}
use Rattle.toplevel.proofs.KeptMade.{whole_as}
use Rattle.toplevel.proofs.ready.report_of.Goals as goal

pub returns : goal.returns
returns c file p words k =
    let kept = c.args.kept.now in
    c.report_run.ensures file p (told_by kept.front) k.finals k.main (c.as_slice-2.ensures.value ∙ words)
    (whole_as file p (told_by kept.front) k.finals k.main kept.main.text.items c.as_slice.result.now kept.main.script.faulty c.is_faulty.result
    (words_of (words_kept kept.main)) (words_of c.words_of-words.result.now) (refusals_of kept.main.script.refused.items) (refusals_of c.refused.result.now)
    kept.engines.items c.as_slice-3.result.now kept.threads.items c.as_slice-4.result.now
    c.as_slice.ensures.value c.is_faulty.ensures c.words_of-words.ensures (sym (c.refused.ensures (main_job p) [])) c.as_slice-3.ensures.value c.as_slice-4.ensures.value k.whole)
