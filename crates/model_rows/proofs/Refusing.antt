-- A goal whose engine cannot be started: what is told is complete, and the text follows.
use Rattle.std.proofs.Common.{◌≡◌, ◌+◌, ◌++◌, ℕ, zero, List, [], ◌∷◌, Some, false, refl, ap, ◌∙◌, arith, codes}
use Rattle.std.specs.Fmt.{digits}
use Rattle.pl_term.specs.Tree.{Chars, comp, none}
use Rattle.pl_model.specs.declared.ends.How.TheVariants.{Solved}
use Rattle.pl_model.specs.declared.grammar.Quotes.TheVariants.{Codes}
use Rattle.pl_model.specs.OperatorTable.{opening_table}
use Rattle.pl_model.specs.LexicalTokens.{token_at}
use Rattle.pl_model.specs.Grammar.{Item, clause}
use Rattle.pl_model.specs.TermGrammar.{item_of, item_by}
use Rattle.pl_model.specs.History.{make_queue}
use Rattle.pl_model.specs.SharedState.{state_at}
use Rattle.pl_model.specs.Service.{serve}
use Rattle.pl_model.specs.Resolution.{solved}
use Rattle.pl_model.specs.Unify.{unify, solve_all}
use Rattle.pl_model.specs.BuiltinRows as basic
use Rattle.pl_model.specs.Builtins.{row}
use Rattle.pl_model.specs.SharedBuiltins.{shared}
use Rattle.pl_model.specs.Control as control
use Rattle.run_model.specs.Execution.{Job, Word, taking, initializing, starting, at_start, with_item, further_goals, word_read, move}
use Rattle.run_model.specs.Lawful.{Made, Standing, run, main_job, IsDone, IsComplete}
use Rattle.run_model.specs.Report.{with_line, stopped, AreFinal, stood, transcript}
use Rattle.model_rows.specs.RefusalRows.{queue_file, queue_goal, refusing_program, true_word, refusing_history, refusing_gens, refusing, refusing_execution, refusing_finals, refusing_text}
use Rattle.model_rows.proofs.Following.{follow, run_more}
use Rattle.model_rows.proofs.HistoryParts.{is_over, done_there, made_by_these, final_is_named}
use Rattle.model_rows.proofs.OpeningReads.{reads_true, reads_queue_file, writes_alias_ball}

abbrev refuser : Job
refuser = main_job refusing_program

abbrev goes : ℕ → Standing → Standing
goes m a = follow 1 2 refuser refusing_history refusing_gens m a

runs_more : (n m : ℕ) (a : Standing)
    → run 1 2 refuser refusing_history refusing_gens n ≡ a
    → run 1 2 refuser refusing_history refusing_gens (n + m) ≡ goes m a
runs_more n m a is = run_more 1 2 refuser refusing_history refusing_gens n m ∙ ap (goes m) is

-- The item of the file is taken up.
abbrev with_read : Item → Standing
with_read i = record { execution = with_item refuser (at_start refuser) opening_table 0 i; asked = 1; made = [] }

item_unread : run 1 2 refuser refusing_history refusing_gens 1 ≡ with_read (item_of queue_file 0 opening_table Codes)
unfolding state_at serve move
item_unread = refl

item_is_read : run 1 2 refuser refusing_history refusing_gens 1 ≡ with_read (clause (comp (codes ":-") queue_goal none) [] 0 31)
item_is_read = item_unread ∙ ap with_read reads_queue_file

abbrev queue_made : List Made
queue_made = record { request = 1; generation = 0; kind = make_queue 3 (Some (codes "goal2")) } ∷ []

-- The directive is done.
abbrev after_item : Standing
after_item = record { execution = record (at_start refuser) { activity = taking 31 }; asked = 4; made = queue_made }

item_done : goes 5 (with_read (clause (comp (codes ":-") queue_goal none) [] 0 31)) ≡ after_item
unfolding state_at serve move unify solve_all row basic.row shared control.next_clause control.with_row control.construct control.take_up control.gone_back control.thrown control.step control.start
item_done = refl

-- No further item stands in the file.
abbrev after_file : Standing
after_file = record { execution = record (at_start refuser) { activity = initializing }; asked = 5; made = queue_made }

file_done : goes 1 after_item ≡ after_file
unfolding state_at serve move item_by token_at
file_done = refl

-- The words are read.
abbrev with_words : Word → Standing
with_words w =
    record {
      execution =
          record (at_start refuser) {
            activity = starting opening_table (further_goals (w ∷ w ∷ []));
            words = w ∷ w ∷ [];
          };
      asked = 6;
      made = queue_made;
    }

words_done : goes 2 after_file ≡ with_words (word_read opening_table Codes (codes "true"))
unfolding state_at serve move
words_done = refl

refuser_reads : run 1 2 refuser refusing_history refusing_gens 9 ≡ with_words true_word
refuser_reads =
    runs_more 7 2 after_file (runs_more 6 1 after_item (runs_more 1 5 _ item_is_read ∙ item_done) ∙ file_done)
    ∙ words_done
    ∙ ap with_words reads_true

abbrev refuser_at_end : Standing
refuser_at_end = record { execution = refusing_execution; asked = 8; made = queue_made }

refuser_follows : goes 6 (with_words true_word) ≡ refuser_at_end
unfolding state_at serve move unify solve_all row basic.row shared control.next_clause control.with_row control.construct control.take_up control.gone_back control.thrown control.step control.start digits
refuser_follows = refl

refuser_ends : run 1 2 refuser refusing_history refusing_gens 15 ≡ refuser_at_end
refuser_ends = runs_more 9 6 (with_words true_word) refuser_reads ∙ refuser_follows

refuser_runs : is_over (run 1 2 refuser refusing_history refusing_gens 14).execution.activity ≡ false
unfolding state_at serve move unify solve_all row basic.row shared control.next_clause control.with_row control.construct control.take_up control.gone_back control.thrown control.step control.start digits
refuser_runs = ap (λ a. is_over a.execution.activity) (runs_more 9 5 (with_words true_word) refuser_reads)

refuser_done : (d : IsDone 1 2 65536 refuser zero refusing_history refusing_gens)
    × (Some refusing_execution ≡ Some (stood d))
refuser_done =
    done_there
    1
    2
    65536
    refuser
    zero
    refusing_history
    refusing_gens
    14
    1
    Solved
    solved
    refuser_at_end
    refuser_ends
    refuser_runs
    refl
    (omega arith, (omega arith, (omega arith, (omega arith, (omega arith, (omega arith, (omega arith, (omega arith, omega arith))))))))
    refl
    (record { entry = refl; own = refl; next = λ x e. let same : 1 ≡ x = cc in omega (arith, same) }, tt)
    refl
    refl
    tt

pub refusing_complete : IsComplete refusing_program refusing
refusing_complete =
    record {
      only =
          λ x c.
          made_by_these (1 ∷ []) refusing_history x ((0, omega arith, refl), ((0, omega arith, refl), tt)) c;
      main = refuser_done.0;
      started = λ b c. absurd (omega (arith, c.1));
    }

pub refusing_final : AreFinal refusing_program refusing refusing_finals
refusing_final =
    record {
      only = final_is_named refusing_finals;
      main = refuser_done;
      started = λ b c. absurd (omega (arith, c.1));
    }

abbrev text_with : Chars → Chars
text_with t = (codes "?- true.\ntrue.\n?- true.\n" ++ (with_line [] (stopped (codes "error: " ++ t)) ++ [])) ++ []

pub refusing_writes : transcript (codes "f.pl") refusing_program refusing refusing_finals ≡ refusing_text
refusing_writes = ap text_with writes_alias_ball
