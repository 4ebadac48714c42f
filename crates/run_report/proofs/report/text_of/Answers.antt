use Rattle.std.proofs.Common.{◌++◌, [], ◌∷◌, List, sym, ◌∙◌, ap, subst}
use Rattle.std.specs.Prelude.{encode_utf8_all}
use Rattle.std.proofs.lemmas.Result.{IfOk-weaker}
use Rattle.pl_term.specs.Tree.{Chars}
use Rattle.run_model.specs.Lawful.{beginnings}
use Rattle.run_model.specs.Report.{closed, consult_text, end_in, goal_sections, place_of_main, thread_sections}
use Rattle.pl_report.specs.declared.parts.Section.{Section}
use Rattle.pl_consult.specs.GoalWords.{refusals_of, words_of}
use Rattle.run_report.specs.Sections.{AreSections}
use Rattle.run_report.proofs.SectionLaws.{sections_more, sections_none}
use Rattle.run_report.proofs.ReportLaws.{text_all}
use Rattle.run_report.proofs.report.text_of.Goals as goal

pub returns : goal.returns
returns c name p told finals x faulty goals w =
    let ws = words_of c.args.words.now in
    let rs = refusals_of c.args.refused.now in
    let t = consult_text name x (place_of_main p told x) (end_in told.history 1) in
    let threads = thread_sections p told finals (beginnings told.history) in
    let whole = (closed t ++ goal_sections p told finals rs 1 c.args.goals.now ws) ++ threads in
    let file : AreSections c.push.new.self.items (closed t) =
    sections_more [] c.push.new.self.items c.file_section.result [] (closed t)
    (c.in_ok-push.ensures.items ∙ ap (λ (ss : List Section). ss ++ c.file_section.result ∷ []) c.new-sections.ensures.items) sections_none
    (c.file_section.ensures t w.text_is) in
    let goals_put = c.in_ok-put_goals.ensures p told finals (closed t) w.kept file in
    let all : AreSections c.put_threads.new.sections.items whole =
    c.in_ok-put_threads.ensures p told finals (closed t ++ goal_sections p told finals rs 1 c.args.goals.now ws) w.others goals_put in
    let are : AreSections c.as_slice.result.now whole = subst (λ (ss : List Section). AreSections ss whole) (sym c.as_slice.ensures.value) all in
    IfOk-weaker c.transcript.result _ _
    (λ v is.
    is
    ∙ ap encode_utf8_all
    (are.says
    ∙ ap (λ (gs : List Chars). (closed t ++ goal_sections p told finals rs 1 gs ws) ++ threads) goals
    ∙ text_all name p told finals x c.args.text.now faulty ws rs c.args.engines.now c.args.threads.now w))
    (c.transcript.ensures are.written are.spelled)
