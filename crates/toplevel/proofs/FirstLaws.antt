-- The first engine, opened.
use Rattle.std.proofs.Common.{◌≡◌, ◌==◌, ℕ, Bool, true, false, List, [], refl, sym, ◌∙◌, ap, subst}
use Rattle.std.specs.Prelude.{◌||◌, encode_utf8_all, if◌then◌else◌}
use Rattle.std.specs.Arc.{arc_value}
use Rattle.pl_term.specs.Tree.{Chars}
use Rattle.pl_model.specs.History.{History}
use Rattle.run_model.specs.Execution.{Job}
use Rattle.run_model.specs.Lawful.{Program, beginnings, engine_numbers, is_goal_number, main_job}
use Rattle.run_model.specs.Report.{end_in, output_of}
use Rattle.run_model.specs.WholeRuns.{Once}
use Rattle.world_api.specs.Texts.{text_of}
use Rattle.script_api.specs.declared.either.Either.TheVariants.{First}
use Rattle.pl_consult.specs.declared.file_script.FileScript.{FileScript}
use Rattle.pl_consult.specs.FileScripts.{IsOf, is_lost}
use Rattle.pl_consult.specs.GoalWords.{refusals_of}
use Rattle.pl_consult.specs.Hands.{StandsThere}
use Rattle.engine_run.specs.declared.runner.Lines.{Lines}
use Rattle.engine_run.specs.declared.runner.Lines.TheVariants.{Solutions, Texts}
use Rattle.engine_run.specs.Items.{IsText}
use Rattle.engine_run.specs.Runners.{StageIs, StageStands, is_over, put_by}
use Rattle.pl_sched.specs.Written.{lines_of}
use Rattle.run_report.specs.declared.parts.Part.{Part}
use Rattle.toplevel.specs.declared.front.EngineFront.{EngineFront}
use Rattle.toplevel.specs.declared.main_engine.Main.{Main}
use Rattle.toplevel.specs.declared.opened.OpenedEngine.{OpenedEngine}
use Rattle.toplevel.specs.Mains.{FileStands, HasWritten, IsMain}
use Rattle.toplevel.specs.Opened.{IsOpened, state_of, stood_of}
use Rattle.toplevel.specs.Scripts.{Scripts, executed, kept_at, name_at, over_at, part_at, plays_at, variables_at}
use Rattle.toplevel.proofs.MainLaws.{faults_there}
use Rattle.toplevel.proofs.OrderLaws.{main_job_is}
use Rattle.toplevel.proofs.StandingLaws.{given_by, refusals_there, there_at}

lines_one : (p : Program) → lines_of p 1 ≡ Solutions
lines_one p = refl

module _ (p : Program) (file : Chars) (board : ℕ) (h : History) (o : OpenedEngine) (op : IsOpened p file board h o) (s : FileScript) (once : Once (engine_numbers (beginnings h)))
    (first : o.script ≡ First s) (kept : is_lost s.stage ≡ false) (one : o.part.number ≡ 1) where
  number : op.carried.number ≡ 1
  number = sym op.left.number ∙ one

  is : op.runner.script ≡ First s
  is = sym op.script ∙ first

  job : op.carried.job ≡ main_job p
  job = main_job_is p op.carried.number h op.carried.job op.carried.low once number op.carried.is_job

  there_by : (q : Scripts) → q ≡ First s
      → StageIs part_at op.held op.told q op.runner.stage
      → over_at q ≡ is_over op.runner.stage
      → StageStands executed part_at op.held op.told q op.carried.job op.stands.consulted op.runner.lines (variables_at q) op.runner.output.items op.runner.stage (stood_of op.carried)
      → StandsThere s op.carried.job op.stands.consulted (stood_of op.carried)
  there_by q same stage over stands =
      there_at op.held op.told s op.carried.job op.stands.consulted op.runner.lines op.runner.output.items op.runner.stage (stood_of op.carried)
      (subst (λ (r : Scripts). StageIs part_at op.held op.told r op.runner.stage) same stage)
      (subst (λ (r : Scripts). over_at r ≡ is_over op.runner.stage) same over)
      (subst (λ (r : Scripts). StageStands executed part_at op.held op.told r op.carried.job op.stands.consulted op.runner.lines (variables_at r) op.runner.output.items op.runner.stage (stood_of op.carried)) same stands)

  pub first_stands : FileStands p file h s o.text.items o.part o.quotes (stood_of op.carried)
  first_stands =
      record {
        lines = op.stands.consulted;
        there =
            subst (λ (j : Job). StandsThere s j op.stands.consulted (stood_of op.carried)) job
            (there_by op.runner.script is op.ready.stage op.ready.done_is op.stands.stands);
        of =
            subst (λ (j : Job). IsOf s j.script) job
            (subst (λ (r : Scripts). plays_at (text_of op.held) r op.carried.job.script) is op.stands.playing kept);
        written =
            subst (λ (bs : List ℕ). IsText file s.faulty (stood_of op.carried) bs) (sym op.text)
            (subst (λ (c : Chars). IsText c s.faulty (stood_of op.carried) op.runner.text.items) (sym (ap name_at is) ∙ op.writes.file_is number)
            (subst (λ (r : Scripts). IsText (name_at r) (kept_at r) (stood_of op.carried) op.runner.text.items) is op.stands.text));
        operators = op.left.operators ∙ ap (λ (n : ℕ). (state_of p h n).operators) number;
        quotes_are = op.quotes ∙ ap (λ (n : ℕ). (state_of p h n).flags.double_quotes) number;
        end = ap (end_in h) (sym number) ∙ op.left.end;
        given =
            op.output
            ∙ given_by op.held op.told op.runner.script op.carried.job op.stands.consulted op.runner.lines op.runner.output.items op.runner.stage (stood_of op.carried) op.stands.stands
            ∙ ap (λ (l : Lines). encode_utf8_all (put_by l (variables_at op.runner.script) [] (output_of (stood_of op.carried)))) (op.writes.lines ∙ ap (lines_of p) number)
            ∙ ap (λ (r : Scripts). encode_utf8_all (put_by Solutions (variables_at r) [] (output_of (stood_of op.carried)))) is;
      }

  pub main_so : (m : Main) → HasWritten p file h (stood_of op.carried) s o.part m → IsMain p file h op.carried m o.front o.part
  unfolding first_stands
  main_so m w =
      record {
        one = number;
        left = op.left;
        front = op.front;
        output = w.output;
        text = w.text;
        faults = ap (λ (r : FileScript). r.faulty) w.script ∙ faults_there file s.faulty (stood_of op.carried) o.text.items first_stands.written;
        words = w.words;
        refusals = refusals_there s (main_job p) op.stands.consulted (stood_of op.carried) first_stands.there ∙ ap (λ (r : FileScript). refusals_of r.refused.items) (sym w.script);
      }
