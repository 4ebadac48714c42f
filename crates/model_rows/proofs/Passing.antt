-- Two goals that pass a message: what is told is complete, and the text follows.
use Rattle.std.proofs.Common.{◌≡◌, ◌++◌, zero, [], ◌∷◌, Some, refl, ap, arith, subst, codes}
use Rattle.pl_term.specs.Tree.{Chars, atom}
use Rattle.pl_model.specs.declared.ends.How.TheVariants.{Solved}
use Rattle.pl_model.specs.Resolution.{solved}
use Rattle.run_model.specs.Lawful.{Beginning, generations_of, IsDone, started_job, IsComplete}
use Rattle.run_model.specs.Report.{closed, with_line, stopped, final_of, AreFinal, stood, transcript}
use Rattle.model_rows.specs.HistoryRows.{with_goals, sends, gets, sent_word, got_word, passing_history, sender_gens, getter_gens, passing, second_goal, solved_with, passing_finals, passing_text}
use Rattle.model_rows.proofs.HistoryParts.{final_is_named, done_there, made_by_these, only_member}
use Rattle.model_rows.proofs.PassingRuns.{sender, sender_ends, sender_runs, sender_at_end, getter, getter_ends, getter_runs, getter_at_end}
use Rattle.model_rows.proofs.OpeningReads.{writes_a}

sender_done : (d : IsDone 1 2 65536 sender zero passing_history sender_gens)
    × (Some (solved_with (sent_word ∷ got_word ∷ []) []) ≡ Some (stood d))
sender_done =
    done_there
    1
    2
    65536
    sender
    zero
    passing_history
    sender_gens
    8
    2
    Solved
    solved
    sender_at_end
    sender_ends
    sender_runs
    refl
    (omega arith, (omega arith, (omega arith, (omega arith, (omega arith, omega arith)))))
    refl (
      record { entry = refl; own = refl; next = λ x e. let same : 1 ≡ x = cc in omega (arith, same) },
      (record { entry = refl; own = refl; next = λ x e. let same : 2 ≡ x = cc in omega (arith, same) }, tt),
    )
    refl
    refl
    tt

getter_done : (d : IsDone 2 2 65536 getter 1 passing_history getter_gens)
    × (Some (solved_with [] (atom (codes "a") ∷ [])) ≡ Some (stood d))
getter_done =
    done_there
    2
    2
    65536
    getter
    1
    passing_history
    getter_gens
    4
    4
    Solved
    solved
    getter_at_end
    getter_ends
    getter_runs
    refl
    (omega arith, (omega arith, (omega arith, omega arith)))
    refl
    (record { entry = refl; own = refl; next = λ x e. let same : 4 ≡ x = cc in omega (arith, same) }, tt)
    refl
    refl
    tt

pub passing_complete : IsComplete (with_goals (sends ∷ gets ∷ [])) passing
passing_complete =
    record {
      only =
          λ x c.
          made_by_these
          (1 ∷ 2 ∷ [])
          passing_history
          x (
            (0, omega arith, refl),
            ((0, omega arith, refl), ((0, omega arith, refl), ((1, omega arith, refl), ((1, omega arith, refl), tt)))),
          )
          c;
      main = sender_done.0;
      started =
          λ b c.
          subst
          (λ (b : Beginning).
          IsDone b.engine 2 65536 (started_job (with_goals (sends ∷ gets ∷ [])) b) b.low passing_history (generations_of passing.generations b.engine))
          (only_member second_goal b c)
          getter_done.0;
    }

pub passing_final : AreFinal (with_goals (sends ∷ gets ∷ [])) passing passing_finals
passing_final =
    record {
      only = final_is_named passing_finals;
      main = sender_done;
      started =
          λ b c.
          subst
          (λ (b : Beginning).
          (d : IsDone b.engine 2 65536 (started_job (with_goals (sends ∷ gets ∷ [])) b) b.low passing_history (generations_of passing.generations b.engine))
          × (final_of passing_finals b.engine ≡ Some (stood d)))
          (only_member second_goal b c)
          getter_done;
    }

abbrev text_with : Chars → Chars
text_with t =
    (codes "?- thread_send_message(goal2,a).\ntrue.\n?- thread_get_message(X).\n" ++ (closed (with_line [] (stopped (codes "X = " ++ t))) ++ [])) ++ []

pub passing_writes : transcript (codes "f.pl") (with_goals (sends ∷ gets ∷ [])) passing passing_finals ≡ passing_text
passing_writes = ap text_with writes_a
