-- A goal that creates a thread: what is told is complete, and the text follows.
use Rattle.std.proofs.Common.{◌≡◌, ◌+◌, ℕ, zero, [], ◌∷◌, Some, None, false, refl, ap, ◌∙◌, arith, subst, codes}
use Rattle.std.specs.Fmt.{digits}
use Rattle.pl_term.specs.Tree.{Chars, int, atom}
use Rattle.std.specs.Prelude.{pos}
use Rattle.pl_model.specs.declared.ends.How.TheVariants.{Solved}
use Rattle.pl_model.specs.OperatorTable.{opening_table}
use Rattle.pl_model.specs.TermWriting.{write}
use Rattle.pl_model.specs.History.{start}
use Rattle.pl_model.specs.SharedState.{state_at}
use Rattle.pl_model.specs.Service.{serve}
use Rattle.pl_model.specs.Resolution.{solved}
use Rattle.pl_model.specs.Unify.{unify, solve_all}
use Rattle.pl_model.specs.BuiltinRows as basic
use Rattle.pl_model.specs.Builtins.{row}
use Rattle.pl_model.specs.SharedBuiltins.{shared}
use Rattle.pl_model.specs.Control as control
use Rattle.run_model.specs.Execution.{Job, move}
use Rattle.run_model.specs.Lawful.{Standing, run, Beginning, generations_of, IsDone, started_job, IsComplete}
use Rattle.run_model.specs.Report.{final_of, AreFinal, stood, transcript}
use Rattle.model_rows.specs.HistoryRows.{with_goals, main_of, solved_with, creates, written_goal, creating_word, creating_history, creator_gens, thread_gens, creating, created_thread, thread_with, creating_finals, creating_text}
use Rattle.model_rows.proofs.Following.{follow}
use Rattle.model_rows.proofs.GoalsRead.{with_words, goals_run}
use Rattle.model_rows.proofs.HistoryParts.{is_over, done_there, made_by_these, only_member, final_is_named}
use Rattle.model_rows.proofs.OpeningReads.{reads_creates, writes_bare_a}

abbrev creator : Job
creator = main_of (creates ∷ [])

abbrev worker : Job
worker = started_job (with_goals (creates ∷ [])) created_thread

creates_on : (m : ℕ)
    → run 1 1 creator creating_history creator_gens (3 + m)
    ≡ follow 1 1 creator creating_history creator_gens m (with_words (creating_word ∷ []))
creates_on m =
    goals_run 1 (creates ∷ []) creating_history (0 ∷ 1 ∷ []) (creating_word ∷ []) m (ap (λ w. w ∷ []) reads_creates)

abbrev creator_at_end : Standing
creator_at_end =
    record {
      execution = solved_with (creating_word ∷ []) (int (pos 2) ∷ []);
      asked = 4;
      made = record { request = 2; generation = 0; kind = start 2 written_goal None } ∷ [];
    }

creator_follows : follow 1 1 creator creating_history creator_gens 5 (with_words (creating_word ∷ [])) ≡ creator_at_end
unfolding state_at serve move unify solve_all row basic.row shared control.next_clause control.with_row control.construct control.take_up control.gone_back control.thrown control.step control.start digits
creator_follows = refl

creator_ends : run 1 1 creator creating_history creator_gens 8 ≡ creator_at_end
creator_ends = creates_on 5 ∙ creator_follows

creator_runs : is_over (run 1 1 creator creating_history creator_gens 7).execution.activity ≡ false
unfolding state_at serve move unify solve_all row basic.row shared control.next_clause control.with_row control.construct control.take_up control.gone_back control.thrown control.step control.start
creator_runs = ap (λ a. is_over a.execution.activity) (creates_on 4)

abbrev worker_with : Chars → Standing
worker_with t = record { execution = thread_with t; asked = 3; made = [] }

worker_writes : run 2 1 worker creating_history thread_gens 5 ≡ worker_with (write opening_table 1200 (atom (codes "a")))
unfolding state_at serve move unify solve_all row basic.row shared control.next_clause control.with_row control.construct control.take_up control.gone_back control.thrown control.step control.start
worker_writes = refl

worker_ends : run 2 1 worker creating_history thread_gens 5 ≡ worker_with (codes "a")
worker_ends = worker_writes ∙ ap worker_with writes_bare_a

worker_runs : is_over (run 2 1 worker creating_history thread_gens 4).execution.activity ≡ false
unfolding state_at serve move unify solve_all row basic.row shared control.next_clause control.with_row control.construct control.take_up control.gone_back control.thrown control.step control.start
worker_runs = refl

creator_done : (d : IsDone 1 1 65536 creator zero creating_history creator_gens)
    × (Some creator_at_end.execution ≡ Some (stood d))
creator_done =
    done_there
    1
    1
    65536
    creator
    zero
    creating_history
    creator_gens
    7
    1
    Solved
    solved
    creator_at_end
    creator_ends
    creator_runs
    refl
    (omega arith, (omega arith, (omega arith, (omega arith, omega arith))))
    refl
    (record { entry = refl; own = refl; next = λ x e. let same : 1 ≡ x = cc in omega (arith, same) }, tt)
    refl
    refl
    tt

worker_done : (d : IsDone 2 1 65536 worker 1 creating_history thread_gens)
    × (Some (thread_with (codes "a")) ≡ Some (stood d))
worker_done =
    done_there
    2
    1
    65536
    worker
    1
    creating_history
    thread_gens
    4
    2
    Solved
    solved
    (worker_with (codes "a"))
    worker_ends
    worker_runs
    refl
    (omega arith, (omega arith, (omega arith, omega arith)))
    refl
    tt
    refl
    refl
    tt

pub creating_complete : IsComplete (with_goals (creates ∷ [])) creating
creating_complete =
    record {
      only =
          λ x c.
          made_by_these
          (1 ∷ 2 ∷ [])
          creating_history
          x
          ((0, omega arith, refl), ((0, omega arith, refl), ((1, omega arith, refl), tt)))
          c;
      main = creator_done.0;
      started =
          λ b c.
          subst
          (λ (b : Beginning).
          IsDone b.engine 1 65536 (started_job (with_goals (creates ∷ [])) b) b.low creating_history (generations_of creating.generations b.engine))
          (only_member created_thread b c)
          worker_done.0;
    }

pub creating_final : AreFinal (with_goals (creates ∷ [])) creating creating_finals
creating_final =
    record {
      only = final_is_named creating_finals;
      main = creator_done;
      started =
          λ b c.
          subst
          (λ (b : Beginning).
          (d : IsDone b.engine 1 65536 (started_job (with_goals (creates ∷ [])) b) b.low creating_history (generations_of creating.generations b.engine))
          × (final_of creating_finals b.engine ≡ Some (stood d)))
          (only_member created_thread b c)
          worker_done;
    }

pub creating_writes : transcript (codes "f.pl") (with_goals (creates ∷ [])) creating creating_finals ≡ creating_text
unfolding digits
creating_writes = refl
