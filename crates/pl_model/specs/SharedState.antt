-- The shared state at a generation: what the updates before it made of the state at the start. A generation is a number
-- of updates.
use Rattle.std.specs.Prelude.{ℕ, suc, zero, List, [], ◌∷◌, take, Option, Some, None}
use Rattle.pl_term.specs.Tree.{Tree}
use Rattle.pl_term.specs.Variables.{rename}
use Rattle.pl_model.specs.declared.ends.How.{How}
use Rattle.pl_model.specs.declared.ends.How.TheVariants.{Solved, False, Threw, Exited as LeftBy, Halted as HaltedWith, AtomSpace as WantedAtoms}
use Rattle.pl_model.specs.declared.threads.Status.{Status}
use Rattle.pl_model.specs.declared.threads.Status.TheVariants.{Succeeded, Failed, Exception, Exited, Halted, AtomSpace}
use Rattle.pl_model.specs.declared.operators.Kind.{Kind as OperatorKind}
use Rattle.pl_model.specs.declared.operators.Kind.TheVariants.{Xfx, Xfy, Yfx, Fy, Fx, Xf, Yf}
use Rattle.pl_model.specs.Operators.{Operator, Specifier, xfx, xfy, yfx, fx, fy, xf, yf}
use Rattle.pl_model.specs.OperatorTable.{OperatorTable, opening_table, changed}
use Rattle.pl_model.specs.History.{Clause, Kind, History, add_first, add_last, erase, abolish, set_dynamic, set_flag, set_op, make_queue, drop_queue, send, start, finish, join}
use Rattle.pl_model.specs.History as entries
use Rattle.pl_model.specs.Flags.{Flags, opening_flags, with_flag}
use Rattle.pl_model.specs.Database.{Database, opening_database, with_first, with_last, without_clause, without_procedure, with_dynamic_procedures}
use Rattle.pl_model.specs.Threads.{Threads, opening_threads, opening_count, counted, queue_made, queue_dropped, message_sent, message_taken, thread_started, thread_ended, thread_joined}

pub record SharedState : Type 0 where
  pub database : Database Clause
  pub operators : OperatorTable
  pub flags : Flags
  pub threads : Threads Tree
  -- the number that the next thread or queue gets
  pub count : ℕ

-- The state at the start, for a command with this number of goals.
abbrev pub opening_state : ℕ → SharedState
opening_state goals =
    record {
      database = opening_database;
      operators = opening_table;
      flags = opening_flags;
      threads = opening_threads;
      count = opening_count goals;
    }

-- What op/3 puts into the table (ISO 8.14.3), name by name.
abbrev pub kind_of : Specifier → OperatorKind
kind_of xfx = Xfx
kind_of xfy = Xfy
kind_of yfx = Yfx
kind_of fx = Fx
kind_of fy = Fy
kind_of xf = Xf
kind_of yf = Yf

abbrev pub with_operators : List Operator → OperatorTable → OperatorTable
with_operators [] t = t
with_operators (o ∷ os) t = with_operators os (changed t o.priority (kind_of o.specifier) o.name)

-- How a thread ended, by how its engine did. A ball is kept as a copy.
abbrev pub status_of : How Tree → Status Tree
status_of Solved = Succeeded
status_of False = Failed
status_of (Threw ball) = Exception (rename zero ball)
status_of (LeftBy t) = Exited (rename zero t)
status_of (HaltedWith n) = Halted n
status_of (WantedAtoms r) = AtomSpace

-- The state after the update that the engine `e` made at the place `k`.
abbrev pub change : ℕ → ℕ → Kind → SharedState → SharedState
change k e (add_first p c o) s = record s { database = with_first k p c o s.database }
change k e (add_last p c o) s = record s { database = with_last k p c o s.database }
change k e (erase j) s = record s { database = without_clause j k s.database }
change k e (abolish p) s = record s { database = without_procedure p k s.database }
change k e (set_dynamic ps) s = record s { database = with_dynamic_procedures ps s.database }
change k e (set_flag f v) s = record s { flags = with_flag f v s.flags }
change k e (set_op os) s = record s { operators = with_operators os s.operators }
change k e (make_queue n a) s = record s { threads = queue_made n a s.threads; count = counted n s.count }
change k e (drop_queue n) s = record s { threads = queue_dropped n s.threads }
change k e (send n t) s = record s { threads = message_sent n k t s.threads }
change k e (entries.take j) s = record s { threads = message_taken j s.threads }
change k e (start n t a) s = record s { threads = thread_started n a s.threads; count = counted n s.count }
change k e (finish how steps) s = record s { threads = thread_ended e (status_of how) s.threads }
change k e (join n) s = record s { threads = thread_joined n s.threads }

-- The number that the update gives to a thread or a queue.
abbrev pub number_given : Kind → Option ℕ
number_given (make_queue n a) = Some n
number_given (start n t a) = Some n
number_given _ = None

-- The state after these updates, of which the first is at the place `k`.
abbrev pub changes : ℕ → History → SharedState → SharedState
changes k [] s = s
changes k (x ∷ xs) s = changes (suc k) xs (change k x.engine x.kind s)

-- The state at the generation `g`.
unfoldable pub state_at : ℕ → History → ℕ → SharedState
state_at goals h g = changes zero (take g h) (opening_state goals)
