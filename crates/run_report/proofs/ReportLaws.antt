-- The report as a whole.
use Rattle.std.proofs.Common.{◌≡◌, ◌++◌, ℕ, Bool, List, Option, sym, ◌∙◌, ap, ap₂}
use Rattle.std.specs.Prelude.{◌&&◌, ◌||◌, not}
use Rattle.pl_term.specs.Tree.{Chars}
use Rattle.run_model.specs.declared.ends.GoalEnd.{GoalEnd}
use Rattle.run_model.specs.Execution.{Execution, Refusal, Word}
use Rattle.run_model.specs.Lawful.{Program, Told, beginnings}
use Rattle.run_model.specs.Report.{Finals, closed, consult_text, consult_section, end_in, goal_sections, of_main, place_of_main, thread_sections, transcript}
use Rattle.run_model.specs.Ends.{all_solved, end_by, end_of, ends_by, ends_from, engines, faults_in, first_halt, goal_ends, or_else, some_lacks_atoms, some_waits}
use Rattle.run_report.specs.declared.parts.Part.{Part}
use Rattle.run_report.specs.Parts.{IsWhole, ends_over, halted_in, lacks_in, waits_in}
use Rattle.run_report.proofs.EndLaws.{EndSo, engines_end, halts_all, lacks_all, threads_end, threads_numbers, waits_all}
use Rattle.run_report.proofs.HowLaws.{ends_told}

module _ (name : Chars) (p : Program) (told : Told) (finals : Finals) (x : Execution) (text : List ℕ) (faulty : Bool) (ws : List Word) (rs : List Refusal) (es ts : List Part)
    (w : IsWhole name p told finals x text faulty ws rs es ts) where
  pub ends_are : goal_ends p told finals ≡ ends_over es rs 1 ws
  ends_are =
      ap (ends_by p told finals) w.main
      ∙ ap₂ (λ (r : List Refusal) (v : List Word). ends_from p told.history finals r 1 v) w.refusals w.words
      ∙ ends_told p told finals ws es rs w.kept

  abbrev here : EndSo told.history es
  here = engines_end p told finals ws es w.kept.each

  abbrev there : EndSo told.history ts
  there = threads_end p told finals (beginnings told.history) ts w.others

  pub end_is : (ends : List GoalEnd)
      → ends ≡ ends_over es rs 1 ws
      → end_by (or_else (halted_in es) (halted_in ts)) (waits_in es || waits_in ts) (all_solved ends && (not (lacks_in es || lacks_in ts) && not faulty)) ≡ end_of p told finals
  end_is ends are =
      let others = threads_numbers p told finals (beginnings told.history) ts w.others in
      ap (λ (o : Option ℕ). end_by o (waits_in es || waits_in ts) (all_solved ends && (not (lacks_in es || lacks_in ts) && not faulty)))
      (sym (halts_all p told es ts w.numbers others here there))
      ∙ ap (λ (b : Bool). end_by (first_halt told.history (engines p told)) b (all_solved ends && (not (lacks_in es || lacks_in ts) && not faulty)))
      (sym (waits_all p told es ts w.numbers others here there))
      ∙ ap (λ (gs : List GoalEnd). end_by (first_halt told.history (engines p told)) (some_waits told.history (engines p told)) (all_solved gs && (not (lacks_in es || lacks_in ts) && not faulty)))
      (are ∙ sym ends_are)
      ∙ ap (λ (b : Bool). end_by (first_halt told.history (engines p told)) (some_waits told.history (engines p told)) (all_solved (goal_ends p told finals) && (not b && not faulty)))
      (sym (lacks_all p told es ts w.numbers others here there))
      ∙ ap (λ (b : Bool). end_by (first_halt told.history (engines p told)) (some_waits told.history (engines p told)) (all_solved (goal_ends p told finals) && (not (some_lacks_atoms told.history (engines p told)) && not b)))
      (w.faults ∙ sym (ap faults_in w.main))

  pub text_all :
      (closed (consult_text name x (place_of_main p told x) (end_in told.history 1)) ++ goal_sections p told finals rs 1 p.words ws)
      ++ thread_sections p told finals (beginnings told.history)
      ≡ transcript name p told finals
  text_all =
      ap (λ (u : Chars). u ++ thread_sections p told finals (beginnings told.history))
      (ap₂ (λ (r : List Refusal) (v : List Word). consult_section name p told x ++ goal_sections p told finals r 1 p.words v) (sym w.refusals) (sym w.words)
      ∙ sym (ap (of_main name p told finals) w.main))
