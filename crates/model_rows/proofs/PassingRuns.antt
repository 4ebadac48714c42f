-- The runs of two goals that pass a message.
use Rattle.std.proofs.Common.{◌≡◌, ◌+◌, ℕ, [], ◌∷◌, map, Some, false, refl, ap, ◌∙◌, codes}
use Rattle.std.specs.Fmt.{digits}
use Rattle.pl_term.specs.Tree.{atom}
use Rattle.pl_model.specs.declared.grammar.Quotes.TheVariants.{Codes}
use Rattle.pl_model.specs.OperatorTable.{opening_table}
use Rattle.pl_model.specs.History.{start, send, take}
use Rattle.pl_model.specs.SharedState.{state_at}
use Rattle.pl_model.specs.Service.{serve}
use Rattle.pl_model.specs.Unify.{unify, solve_all}
use Rattle.pl_model.specs.BuiltinRows as basic
use Rattle.pl_model.specs.Builtins.{row}
use Rattle.pl_model.specs.SharedBuiltins.{shared}
use Rattle.pl_model.specs.Control as control
use Rattle.run_model.specs.Execution.{Job, word_read, move}
use Rattle.run_model.specs.Lawful.{Standing, run, started_job}
use Rattle.model_rows.specs.HistoryRows.{with_goals, main_of, sends, gets, getting, sent_word, got_word, passing_history, sender_gens, getter_gens, second_goal, solved_with}
use Rattle.model_rows.proofs.Following.{follow}
use Rattle.model_rows.proofs.GoalsRead.{with_words, goals_run}
use Rattle.model_rows.proofs.HistoryParts.{is_over}
use Rattle.model_rows.proofs.OpeningReads.{reads_sends, reads_gets}

abbrev pub sender : Job
sender = main_of (sends ∷ gets ∷ [])

abbrev pub getter : Job
getter = started_job (with_goals (sends ∷ gets ∷ [])) second_goal

words_are : map (word_read opening_table Codes) (sends ∷ gets ∷ []) ≡ sent_word ∷ got_word ∷ []
words_are =
    ap (λ v. v ∷ word_read opening_table Codes gets ∷ []) reads_sends ∙ ap (λ w. sent_word ∷ w ∷ []) reads_gets

sends_on : (m : ℕ)
    → run 1 2 sender passing_history sender_gens (3 + m)
    ≡ follow 1 2 sender passing_history sender_gens m (with_words (sent_word ∷ got_word ∷ []))
sends_on m = goals_run 2 (sends ∷ gets ∷ []) passing_history (0 ∷ 1 ∷ 2 ∷ []) (sent_word ∷ got_word ∷ []) m words_are

abbrev pub sender_at_end : Standing
sender_at_end =
    record {
      execution = solved_with (sent_word ∷ got_word ∷ []) [];
      asked = 5;
      made =
          record { request = 2; generation = 0; kind = start 2 getting (Some (codes "goal2")) }
          ∷ record { request = 3; generation = 1; kind = send 2 (atom (codes "a")) } ∷ [];
    }

sender_follows : follow 1 2 sender passing_history sender_gens 6 (with_words (sent_word ∷ got_word ∷ [])) ≡ sender_at_end
unfolding state_at serve move unify solve_all row basic.row shared control.next_clause control.with_row control.construct control.take_up control.gone_back control.thrown control.step control.start digits
sender_follows = refl

pub sender_ends : run 1 2 sender passing_history sender_gens 9 ≡ sender_at_end
sender_ends = sends_on 6 ∙ sender_follows

pub sender_runs : is_over (run 1 2 sender passing_history sender_gens 8).execution.activity ≡ false
unfolding state_at serve move unify solve_all row basic.row shared control.next_clause control.with_row control.construct control.take_up control.gone_back control.thrown control.step control.start
sender_runs = ap (λ a. is_over a.execution.activity) (sends_on 5)

abbrev pub getter_at_end : Standing
getter_at_end =
    record {
      execution = solved_with [] (atom (codes "a") ∷ []);
      asked = 3;
      made = record { request = 1; generation = 3; kind = take 1 } ∷ [];
    }

pub getter_ends : run 2 2 getter passing_history getter_gens 5 ≡ getter_at_end
unfolding state_at serve move unify solve_all row basic.row shared control.next_clause control.with_row control.construct control.take_up control.gone_back control.thrown control.step control.start
getter_ends = refl

pub getter_runs : is_over (run 2 2 getter passing_history getter_gens 4).execution.activity ≡ false
unfolding state_at serve move unify solve_all row basic.row shared control.next_clause control.with_row control.construct control.take_up control.gone_back control.thrown control.step control.start
getter_runs = refl
