-- A goal that waits: what is told is complete, and the text follows.
use Rattle.std.proofs.Common.{◌≡◌, zero, [], ◌∷◌, Some, None, refl, ap, ◌∙◌, arith, codes}
use Rattle.pl_term.specs.Tree.{atom}
use Rattle.pl_model.specs.SharedState.{state_at}
use Rattle.pl_model.specs.Requests.{get_message}
use Rattle.pl_model.specs.Service.{waits, serve}
use Rattle.pl_model.specs.Unify.{unify, solve_all}
use Rattle.pl_model.specs.BuiltinRows as basic
use Rattle.pl_model.specs.Builtins.{row}
use Rattle.pl_model.specs.SharedBuiltins.{shared}
use Rattle.pl_model.specs.Control as control
use Rattle.run_model.specs.Execution.{Job, requests, move}
use Rattle.run_model.specs.Lawful.{Standing, run, IsDone, IsComplete}
use Rattle.run_model.specs.Report.{AreFinal, stood, transcript}
use Rattle.model_rows.specs.HistoryRows.{with_goals, main_of, waits_for_x, waiting_word, waiting, waiting_execution, waiting_finals, waiting_text}
use Rattle.model_rows.proofs.Following.{follow}
use Rattle.model_rows.proofs.GoalsRead.{with_words, goals_run}
use Rattle.model_rows.proofs.HistoryParts.{waits_there, by_reply, final_is_named}
use Rattle.model_rows.proofs.OpeningReads.{reads_waits}

abbrev waiter : Job
waiter = main_of (waits_for_x ∷ [])

abbrev waiter_at_end : Standing
waiter_at_end = record { execution = waiting_execution; asked = 2; made = [] }

waiter_follows : follow 1 1 waiter [] (0 ∷ 0 ∷ []) 1 (with_words (waiting_word ∷ [])) ≡ waiter_at_end
unfolding move
waiter_follows = refl

waiter_stands : run 1 1 waiter [] (0 ∷ 0 ∷ []) 4 ≡ waiter_at_end
waiter_stands =
    goals_run 1 (waits_for_x ∷ []) [] [] (waiting_word ∷ []) 1 (ap (λ w. w ∷ []) reads_waits) ∙ waiter_follows

waiter_asks : move waiter waiting_execution
    ≡ requests (get_message None (atom (codes "x"))) (by_reply waiting_execution (move waiter waiting_execution))
unfolding state_at serve move unify solve_all row basic.row shared control.next_clause control.with_row control.construct control.take_up control.gone_back control.thrown control.step control.start
waiter_asks = refl

waiter_waits : serve 1 (get_message None (atom (codes "x"))) (state_at 1 [] 0) 0 ≡ waits
unfolding state_at serve
waiter_waits = refl

waiter_done : (d : IsDone 1 1 65536 waiter zero [] (0 ∷ 0 ∷ [])) × (Some waiting_execution ≡ Some (stood d))
waiter_done =
    waits_there
    1
    1
    65536
    waiter
    zero
    []
    (0 ∷ 0 ∷ [])
    4
    (get_message None (atom (codes "x")))
    (by_reply waiting_execution (move waiter waiting_execution))
    waiter_at_end
    waiter_stands
    (omega arith, (omega arith, omega arith))
    refl
    tt
    refl
    waiter_asks
    waiter_waits

pub waiting_complete : IsComplete (with_goals (waits_for_x ∷ [])) waiting
waiting_complete =
    record {
      only = λ x c. absurd (omega (arith, c.1));
      main = waiter_done.0;
      started = λ b c. absurd (omega (arith, c.1));
    }

pub waiting_final : AreFinal (with_goals (waits_for_x ∷ [])) waiting waiting_finals
waiting_final =
    record {
      only = final_is_named waiting_finals;
      main = waiter_done;
      started = λ b c. absurd (omega (arith, c.1));
    }

pub waiting_writes : transcript (codes "f.pl") (with_goals (waits_for_x ∷ [])) waiting waiting_finals ≡ waiting_text
unfolding control.start
waiting_writes = refl
