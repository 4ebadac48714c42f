-- What an engine asks of the shared state, and what it is answered. Each request is one visit: it is answered at one
-- generation, and the history gains at most one entry by it. What a predicate checks of its arguments alone (ISO 8.9,
-- 8.14, 8.17; SWI-Prolog manual, section 'Multithreaded applications') it checks before it asks; a request carries
-- arguments that passed.
use Rattle.std.specs.Prelude.{◌≡◌, ℕ, List, Option, Bool, true, false}
use Rattle.pl_term.specs.Tree.{Chars, Tree}
use Rattle.pl_model.specs.declared.grammar.Quotes.{Quotes}
use Rattle.pl_model.specs.declared.operators.Kind.{Kind as OperatorKind}
use Rattle.pl_model.specs.OperatorTable.{OperatorTable}
use Rattle.pl_model.specs.History.{Proc, Clause}
use Rattle.pl_model.specs.Database.{Stored}

pub data Request : Type 0 where
  -- The state is read: at the taking up of an item of the file, of the goal words, at a solution and at the end of a
  -- directive. Answers `standing`.
  look : Request
  -- The clauses for a goal, an atom or a compound term (ISO 7.7.10). Answers `listed`; for an unknown procedure an
  -- existence error, or no clauses where the flag `unknown` is `fail` (ISO 7.7.7, 7.11.2.4).
  call_clauses : Tree → Request
  -- The clauses for a head that clause/2 looks through (ISO 8.8.1). Answers `listed`; a static procedure is private.
  inspected_clauses : Tree → Request
  -- The clauses for a head that retract/1 looks through (ISO 8.9.3). Answers `listed`; a static procedure is refused.
  retracted_clauses : Tree → Request
  -- The clauses for a head that retractall/1 looks through (ISO Cor.2 8.9.5). Answers `listed`; a static procedure is
  -- refused, and an unknown one becomes dynamic.
  cleared_clauses : Tree → Request
  -- The clause that was added at this place is erased. Answers `done`, or `gone` where it was erased before.
  erase_clause : ℕ → Request
  -- asserta/1, assertz/1 (ISO 8.9.1, 8.9.2) of a clause whose body is converted. Answer `done`.
  assert_first : Clause → Request
  assert_last : Clause → Request
  -- A clause of the file that is consulted (ISO 7.4.2). Answers `done`.
  consult_clause : Clause → Request
  -- abolish/1 (ISO 8.9.4). Answers `done`.
  abolish_procedure : Proc → Request
  -- dynamic/1 of these procedures (ISO 7.4.2.1). Answers `done`.
  make_dynamic : List Proc → Request
  -- current_predicate/1 (ISO 8.8.2). Answers `procedures`: all that have a clause, in standard order.
  all_procedures : Request
  -- op/3 with a priority from 0 to 1200, a specifier and names (ISO 8.14.3). Answers `done`.
  put_operators : ℕ → OperatorKind → List Chars → Request
  -- current_op/3 (ISO 8.14.4), and write/1, writeq/1 and print/1 (ISO 8.14.2), which write under the operators.
  -- Answer `standing`.
  read_operators : Request
  -- set_prolog_flag/2 of a flag that can be changed and one of its values (ISO 8.17.1). Answers `done`.
  put_flag : Chars → Chars → Request
  -- current_prolog_flag/2 (ISO 8.17.2). Answers `flags`: all flags with their values, in standard order.
  all_flags : Request
  -- thread_self/1. Answers `named`.
  own_name : Request
  -- thread_create/2,3 of a goal. The aliases are those of its options in their order; the error is that of the first
  -- option that is wrong, and the aliases then are those before it. Answers `named`.
  create_thread : Tree → List Chars → Option Tree → Request
  -- The goal of the command with this number begins as an engine of its own. Answers `done`.
  start_goal : ℕ → Tree → Request
  -- thread_join/2 of a thread that is named so. Answers `status`; waits while the thread has not ended.
  join_thread : Tree → Request
  -- thread_send_message/2: to a queue that is named so, a message. Answers `done`.
  send_message : Tree → Tree → Request
  -- thread_get_message/1,2: of the queue that is named so, or of the engine's own, the first message that unifies with
  -- the term is taken. Answers `message`; waits while there is none.
  get_message : Option Tree → Tree → Request
  -- thread_peek_message/1,2: the message is not taken. Answers `message`, or `no_message` where there is none.
  peek_message : Option Tree → Tree → Request
  -- message_queue_create/1, with an alias or without one. Answers `named`.
  create_queue : Option Chars → Request
  -- message_queue_destroy/1 of a queue that is named so. Answers `done`.
  destroy_queue : Tree → Request
  -- garbage_collect_atoms/0 and garbage_collect_clauses/0 ask for a cycle and do not wait for it. Answer `done`.
  collect_atoms : Request
  collect_clauses : Request

pub data Reply : Type 0 where
  -- the operators and the flag `double_quotes`, by which a text is read and a term is written
  standing : OperatorTable → Quotes → Reply
  -- the clauses in the order in which they are to be tried, each with the place that names it
  listed : List (Stored Clause) → Reply
  procedures : List Proc → Reply
  flags : List (Chars × Tree) → Reply
  -- the alias of a thread or queue, or its number where it has none
  named : Tree → Reply
  -- the message, its variables numbered from 0 in order of first occurrence
  message : Tree → Reply
  no_message : Reply
  -- how the thread ended, as thread_join/2 gives it
  status : Tree → Reply
  done : Reply
  -- the clause was erased before
  gone : Reply
  -- the request is refused with this error term (ISO 7.12.2), the first one that holds
  refused : Tree → Reply

-- The replies that a request can have: its own, and where it can be refused an error.
abbrev pub fits : Request → Reply → Bool
fits look (standing ops quotes) = true
fits (call_clauses t) (listed cs) = true
fits (call_clauses t) (refused e) = true
fits (inspected_clauses t) (listed cs) = true
fits (inspected_clauses t) (refused e) = true
fits (retracted_clauses t) (listed cs) = true
fits (retracted_clauses t) (refused e) = true
fits (cleared_clauses t) (listed cs) = true
fits (cleared_clauses t) (refused e) = true
fits (erase_clause j) done = true
fits (erase_clause j) gone = true
fits (erase_clause j) (refused e) = true
fits (assert_first c) done = true
fits (assert_first c) (refused e) = true
fits (assert_last c) done = true
fits (assert_last c) (refused e) = true
fits (consult_clause c) done = true
fits (consult_clause c) (refused e) = true
fits (abolish_procedure p) done = true
fits (abolish_procedure p) (refused e) = true
fits (make_dynamic ps) done = true
fits (make_dynamic ps) (refused e) = true
fits all_procedures (procedures ps) = true
fits (put_operators p k fs) done = true
fits (put_operators p k fs) (refused e) = true
fits read_operators (standing ops quotes) = true
fits (put_flag f v) done = true
fits (put_flag f v) (refused e) = true
fits all_flags (flags fs) = true
fits own_name (named t) = true
fits (create_thread goal names error) (named t) = true
fits (create_thread goal names error) (refused e) = true
fits (start_goal n goal) done = true
fits (start_goal n goal) (refused e) = true
fits (join_thread x) (status t) = true
fits (join_thread x) (refused e) = true
fits (send_message x t) done = true
fits (send_message x t) (refused e) = true
fits (get_message x t) (message m) = true
fits (get_message x t) (refused e) = true
fits (peek_message x t) (message m) = true
fits (peek_message x t) no_message = true
fits (peek_message x t) (refused e) = true
fits (create_queue a) (named t) = true
fits (create_queue a) (refused e) = true
fits (destroy_queue x) done = true
fits (destroy_queue x) (refused e) = true
fits collect_atoms done = true
fits collect_clauses done = true
fits _ _ = false

abbrev pub Fits : Request → Reply → Type 0
Fits q r = fits q r ≡ true
