-- The first engine before its first move is at home.
use Rattle.std.proofs.Common.{◌≡◌, ◌<◌, ℕ, zero, List, [], ◌∷◌, ◌++◌, Some, None, IsSome, true, false, refl, sym, ap, subst, ◌∙◌, arith, inl, append-nil, codes}
use Rattle.std.specs.Prelude.{Contains, encode_utf8_all}
use Rattle.std.specs.List.{All}
use Rattle.std.proofs.lemmas.List.Elements.{All-nil}
use Rattle.pl_term.specs.Tree.{Chars}
use Rattle.atomic_table.specs.Seated.{TableId}
use Rattle.pl_model.specs.Resolution.{Limits as LimitsOf}
use Rattle.run_model.specs.Execution.{Consulted, Execution, Job, at_start}
use Rattle.run_model.specs.Lawful.{Program, main_job}
use Rattle.run_model.specs.Progress.{Reached}
use Rattle.run_model.specs.Report.{all_consulted}
use Rattle.run_model.proofs.Progress.{reached_start}
use Rattle.command_line.specs.declared.command.Limits.{Limits}
use Rattle.command_line.specs.Commands.{told_limits}
use Rattle.atom_api.specs.Names.{Names}
use Rattle.world_api.specs.Texts.{text_of}
use Rattle.world_api.specs.Told.{Told}
use Rattle.script_api.specs.Parts.{seen_in}
use Rattle.script_api.specs.Scripts.{some_fault, texts_at, written_at}
use Rattle.iso_search.specs.declared.search.Budgets.{Budgets}
use Rattle.iso_engine.specs.Standing.{staying}
use Rattle.pl_history.specs.Fronts.{FrontState}
use Rattle.pl_hub.specs.Fronts.{IsOwn, idle, told_of}
use Rattle.pl_consult.specs.declared.file_script.FileScript.{FileScript}
use Rattle.pl_consult.specs.FileScripts.{Begins, IsFresh, execution_of}
use Rattle.pl_consult.specs.TextLaws.{texts_none}
use Rattle.engine_run.specs.declared.runner.Runner.{Runner}
use Rattle.engine_run.specs.declared.runner.Stage.{Stage}
use Rattle.engine_run.specs.declared.runner.Stage.TheVariants.{Asks}
use Rattle.engine_run.specs.Items.{IsText}
use Rattle.engine_run.specs.Ran.{HasAims, HasBudgets}
use Rattle.engine_run.specs.Runners.{IsBetween, StageIs, StageStands, StandsFor, is_over}
use Rattle.pl_sched.specs.declared.mark.Mark.TheVariants.{Ready}
use Rattle.pl_sched.specs.Homes.{IsAtHome, IsUnderWay}
use Rattle.pl_sched.specs.Written.{WritesSo}
use Rattle.toplevel.specs.Beginnings.{IsAtBeginning, budgets_in}
use Rattle.toplevel.specs.Scripts.{IsReady, Scripts, Stands, executed, kept_at, moves_of, name_at, names_at, over_at, part_at, plays_at, variables_at, word_at, writing_of}

module _ (table : TableId) where
  -- THE FRONT OF THE FIRST ENGINE at the start
  abbrev pub first_front : FrontState
  first_front = record { table = table; seen = []; lives = idle 1 ∷ [] }

  first_own : IsOwn table 1 first_front
  first_own = record { table = refl; engine = refl; runs = refl; updates = refl; within = λ g c. absurd (let lt : c.0 < 0 = c.1 in omega (arith, lt)) }

-- The budgets are those of the command.
pub budgets_told : (p : Program) (l : Limits) (b : Budgets) → p.limits ≡ told_limits l → b ≡ budgets_in l → HasBudgets b p.limits
budgets_told p l b limits is =
    record {
      inferences = ap (λ (x : LimitsOf). x.inferences) limits ∙ sym (ap (λ (x : Budgets). x.inferences) is);
      cells = ap (λ (x : LimitsOf). x.cells) limits ∙ sym (ap (λ (x : Budgets). x.cells) is);
      choices = ap (λ (x : LimitsOf). x.choices) limits ∙ sym (ap (λ (x : Budgets). x.choices) is);
    }

budgets_main : (p : Program) (l : Limits) (b : Budgets) → p.limits ≡ told_limits l → b ≡ budgets_in l → HasBudgets b (main_job p).limits
budgets_main p l b limits is = let has = budgets_told p l b limits is in record { inferences = has.inferences; cells = has.cells; choices = has.choices }

-- What was written of the file before the first move.
written_first : (s : FileScript) (job : Job) → execution_of s job (at_start job).consulted ≡ at_start job → written_at (at_start job) ≡ (at_start job).consulted
written_first s job is =
    ap (λ ts. (at_start job).consulted ++ ts) (sym (ap (λ (x : Execution). texts_at x.activity) is) ∙ texts_none job s.consult.place s.stage)
    ∙ append-nil (at_start job).consulted

module _ (p : Program) (l : Limits) (s : FileScript) (out : List ℕ) (r : Runner Scripts) (at : IsAtBeginning l s out r) (limits : p.limits ≡ told_limits l)
    (name : Chars) (begins : Begins s (main_job p) name out) (fresh : IsFresh s name) (table : TableId) (goals : ℕ) (m : Names) where
  abbrev job : Job
  job = main_job p

  abbrev there : Execution
  there = at_start job

  abbrev lines : List Consulted
  lines = there.consulted

  abbrev t : Told
  t = told_of goals (first_front table)

  ready : IsReady m t r
  ready =
      record {
        stage = subst (λ (g : Stage). StageIs part_at m t r.script g) (sym at.stage) (ap part_at at.script ∙ fresh.part);
        held = subst (λ (xs : List ℕ). All (λ a. IsSome (m a)) xs) (sym (ap names_at at.script)) (All-nil (λ a. IsSome (m a)));
        done_is = ap over_at at.script ∙ fresh.over ∙ sym (ap is_over at.stage);
      }

  text_is : IsText (name_at r.script) (kept_at r.script) there r.text.items
  text_is =
      let written = written_first s job begins.execution in (
        at.text_is
            ∙ begins.lines
            ∙ ap (λ (n : Chars). encode_utf8_all (all_consulted n [] lines)) (sym (ap name_at at.script ∙ fresh.name_is))
            ∙ ap (λ (cs : List Consulted). encode_utf8_all (all_consulted (name_at r.script) [] cs)) (sym written),
        ap some_fault written ∙ begins.kept ∙ sym (ap kept_at at.script),
      )

  stands : Stands m t r job there
  stands =
      record {
        budgets = budgets_main p l r.budgets limits at.budgets;
        wants = record { solutions = ap (λ (x : LimitsOf). x.solutions) limits ∙ sym at.wanted; stays_so = sym (ap staying at.stays) };
        playing = subst (λ (x : Scripts). plays_at (text_of m) x job.script) (sym at.script) begins.plays;
        consulted = lines;
        stands =
            subst (λ (g : Stage). StageStands executed part_at m t r.script job lines r.lines (variables_at r.script) r.output.items g there) (sym at.stage)
            (sym begins.execution ∙ ap (λ (x : Scripts). executed (text_of m) x job lines) (sym at.script), at.output);
        text = text_is;
      }

  reached : Reached 1 goals job zero (seen_in t there) r.moves
  reached = subst (λ (k : ℕ). Reached 1 goals job zero (seen_in t there) k) (sym at.moves) (reached_start 1 goals job zero [] refl (omega arith))

  under_way : IsUnderWay Stands IsReady moves_of p m t r
  under_way =
      record { is_ready = ready; job = job; low = zero; is_job = inl (refl, refl, refl); execution = there; stands_for = stands; reached = reached }

  -- AT HOME, and ready
  pub main_home : (f : FrontState) → f ≡ first_front table → IsAtHome Stands IsReady moves_of p (λ (q : Runner Scripts). is_over q.stage) table goals 1 Ready m f r
  main_home f is =
      subst (λ (x : FrontState). IsAtHome Stands IsReady moves_of p (λ (q : Runner Scripts). is_over q.stage) table goals 1 Ready m x r) (sym is)
      (record { front = first_own table; marked = (under_way, ap is_over at.stage) })

  -- AND WRITES what the first engine is to
  pub main_writes : (file : Chars) (board : ℕ) → name ≡ file → s.board.now ≡ board → WritesSo p file board 1 (writing_of r)
  main_writes file board named of_board =
      record {
        lines = at.lines;
        word_is = ap word_at at.script ∙ ap (λ (n : ℕ). Some (n, 1)) of_board;
        file_is = λ e. ap name_at at.script ∙ fresh.name_is ∙ named;
      }
