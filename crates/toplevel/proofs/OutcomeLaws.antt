-- What comes of a run.
use Rattle.std.proofs.Common.{◌≡◌, ℕ, List, sym, ◌∙◌, ap, subst}
use Rattle.std.specs.Prelude.{encode_utf8_all, suc, take}
use Rattle.pl_term.specs.Tree.{Chars}
use Rattle.run_model.specs.Execution.{most_bytes}
use Rattle.run_model.specs.Ends.{end_of, goal_ends}
use Rattle.run_model.specs.Lawful.{IsComplete, Program}
use Rattle.run_model.specs.Report.{AreFinal, transcript}
use Rattle.run_report.specs.declared.report.RunReport.{RunReport}
use Rattle.run_report.specs.Reports.{IsReported}
use Rattle.command_line.specs.CommandLine.{Command, program_of}
use Rattle.toplevel.specs.declared.front.Front.{Front}
use Rattle.toplevel.specs.declared.kept.Kept.{Kept}
use Rattle.toplevel.specs.declared.ready.Ready.{Ready}
use Rattle.toplevel.specs.Fronts.{told_by}
use Rattle.toplevel.specs.Headline.{IsReady}
use Rattle.toplevel.specs.Kept.{IsKept}
use Rattle.toplevel.specs.RunOutcomes.{IsReadyOf, program_read}

-- What is ready to be written of what was kept.
pub ready_so : (file : Chars) (p : Program) (kept : Kept) (k : IsKept file p kept) (r : RunReport) (ready : Ready)
    → IsReported file p (told_by kept.front) k.finals r
    → ready.front ≡ kept.front
    → ready.end ≡ r.end
    → ready.ends.items ≡ r.ends.items
    → ready.text.items ≡ r.text.items
    → IsReadyOf file p ready
ready_so file p kept k r ready reported front end ends text =
    record {
      run =
          record {
            finals = k.finals;
            complete = subst (λ (f : Front). IsComplete p (told_by f)) (sym front) k.complete;
            final = subst (λ (f : Front). AreFinal p (told_by f) k.finals) (sym front) k.final;
          };
      ends_are = ends ∙ reported.ends_are ∙ ap (λ (f : Front). goal_ends p (told_by f) k.finals) (sym front);
      end_is = end ∙ reported.end_is ∙ ap (λ (f : Front). end_of p (told_by f) k.finals) (sym front);
      text_is = text ∙ reported.text_is ∙ ap (λ (f : Front). encode_utf8_all (transcript file p (told_by f) k.finals)) (sym front);
    }

-- The same of the command.
pub ready_for : (c : Command) (all bytes : List ℕ) (file : Chars) (p : Program) (ready : Ready)
    → bytes ≡ take (suc most_bytes) all
    → file ≡ c.file
    → p ≡ program_read c bytes
    → IsReadyOf file p ready
    → IsReady c all ready
ready_for c all bytes file p ready read name is so =
    let r : IsReadyOf c.file (program_of c all) ready =
    subst (λ (q : Program). IsReadyOf c.file q ready) (is ∙ ap (program_read c) read) (subst (λ (f : Chars). IsReadyOf f p ready) name so) in
    record { run = r.run; ends_are = r.ends_are; end_is = r.end_is; text_is = r.text_is }
