-- How the goals of a command and the program end, from the ends in the history and the states in which the engines stand.
use Rattle.std.specs.Prelude.{ℕ, suc, List, [], ◌∷◌, ◌++◌, Bool, true, false, not, ◌==◌, ◌&&◌, ◌||◌, Option, Some, None, codes, if◌then◌else◌}
use Rattle.pl_term.specs.Tree.{Chars, Tree}
use Rattle.pl_model.specs.declared.ends.How.{How}
use Rattle.pl_model.specs.declared.ends.How.TheVariants.{Solved, Threw, Halted, AtomSpace}
use Rattle.pl_model.specs.Threads.{goal_alias}
use Rattle.pl_model.specs.History.{History}
use Rattle.pl_model.specs.declared.threads.On.{On}
use Rattle.pl_model.specs.Service.{on_of}
use Rattle.run_model.specs.Execution.{Job, Move, requests, move, Word, goal_word, faulty_word, Consulted, wrote, Refusal, Execution}
use Rattle.run_model.specs.Lawful.{Program, Told, Beginning, beginnings, is_goal_number, main_job, started_job}
use Rattle.run_model.specs.Report.{Finals, final_of, refusal_of, end_in, words_of}
use Rattle.run_model.specs.declared.ends.End.{End}
use Rattle.run_model.specs.declared.ends.End.TheVariants.{Done, GoalFailed, Usage, Waiting, Memory, ReadFault, WriteFault, Halted as EndHalted}
use Rattle.run_model.specs.declared.ends.GoalEnd.{GoalEnd}
use Rattle.run_model.specs.declared.ends.GoalHow.{GoalHow}
use Rattle.run_model.specs.declared.ends.GoalHow.TheVariants.{Ended, Waits, Syntax}

-- Goals

-- The job of an engine that has begun.
abbrev pub job_of : Program → List Beginning → ℕ → Job
job_of p [] e = main_job p
job_of p (b ∷ bs) e = if b.engine == e then started_job p b else job_of p bs e

-- What the engine waits on that makes this move: what its request names.
abbrev pub awaited_by : ℕ → Move → Option On
awaited_by e (requests q next) = on_of e q
awaited_by e m = None

-- A goal ends as its engine does in the history, or it waits on this.
abbrev pub goal_how : Option On → Option (How Tree) → Option GoalHow
goal_how on (Some how) = Some (Ended how)
goal_how (Some on) None = Some (Waits on)
goal_how None None = None

-- The first goal is run by the engine main, any other by the engine with its number.
abbrev pub goal_name : ℕ → Chars
goal_name n = if n == 1 then codes "main" else goal_alias n

-- A goal ends as the engine with its number does, or by the error for which this engine could not be started.
abbrev pub engine_how : ℕ → Job → Option (How Tree) → Option Execution → Option Refusal → Option GoalHow
engine_how n job end x (Some r) = Some (Ended (Threw r.ball))
engine_how n job end None None = None
engine_how n job end (Some x) None = goal_how (awaited_by n (move job x)) end

abbrev pub word_how : Program → History → Finals → List Refusal → ℕ → Word → Option GoalHow
word_how p h finals rs n (faulty_word kind at) = Some (Syntax kind at)
word_how p h finals rs n (goal_word t names) =
    engine_how n (job_of p (beginnings h) n) (end_in h n) (final_of finals n) (refusal_of rs n)

abbrev pub with_end : ℕ → Option GoalHow → List GoalEnd → List GoalEnd
with_end n None es = es
with_end n (Some how) es = record { engine = n; name = goal_name n; how = how } ∷ es

abbrev pub ends_from : Program → History → Finals → List Refusal → ℕ → List Word → List GoalEnd
ends_from p h finals rs n [] = []
ends_from p h finals rs n (w ∷ ws) = with_end n (word_how p h finals rs n w) (ends_from p h finals rs (suc n) ws)

-- No goal has an end where the first engine did not come to the goals: it has read no words then.
abbrev pub ends_by : Program → Told → Finals → Option Execution → List GoalEnd
ends_by p told finals None = []
ends_by p told finals (Some x) = ends_from p told.history finals x.refusals 1 (words_of p told x)

abbrev pub goal_ends : Program → Told → Finals → List GoalEnd
goal_ends p told finals = ends_by p told finals (final_of finals 1)

-- The program

-- The engines that have begun, in the order of the report: the first one, those of the further goals, and the threads, as
-- they began. They have rising numbers.
abbrev pub goal_numbers : Program → List Beginning → List ℕ
goal_numbers p [] = []
goal_numbers p (b ∷ bs) =
    if is_goal_number p b.engine then b.engine ∷ goal_numbers p bs else goal_numbers p bs

abbrev pub thread_numbers : Program → List Beginning → List ℕ
thread_numbers p [] = []
thread_numbers p (b ∷ bs) =
    if is_goal_number p b.engine then thread_numbers p bs else b.engine ∷ thread_numbers p bs

abbrev pub engines : Program → Told → List ℕ
engines p told = 1 ∷ (goal_numbers p (beginnings told.history) ++ thread_numbers p (beginnings told.history))

-- The status of halt/1, where an engine has ended so.
abbrev pub halt_by : Option (How Tree) → Option ℕ
halt_by (Some (Halted n)) = Some n
halt_by end = None

abbrev pub or_else : Option ℕ → Option ℕ → Option ℕ
or_else (Some n) o = Some n
or_else None o = o

-- The first of these engines that has halted.
abbrev pub first_halt : History → List ℕ → Option ℕ
first_halt h [] = None
first_halt h (e ∷ es) = or_else (halt_by (end_in h e)) (first_halt h es)

abbrev pub has_no_end : Option (How Tree) → Bool
has_no_end None = true
has_no_end (Some how) = false

-- Whether one of these engines waits.
abbrev pub some_waits : History → List ℕ → Bool
some_waits h [] = false
some_waits h (e ∷ es) = has_no_end (end_in h e) || some_waits h es

abbrev pub lacks_atoms : Option (How Tree) → Bool
lacks_atoms (Some (AtomSpace found)) = true
lacks_atoms end = false

-- Whether one of these engines found no place for an atom.
abbrev pub some_lacks_atoms : History → List ℕ → Bool
some_lacks_atoms h [] = false
some_lacks_atoms h (e ∷ es) = lacks_atoms (end_in h e) || some_lacks_atoms h es

abbrev pub is_solved_how : How Tree → Bool
is_solved_how Solved = true
is_solved_how how = false

abbrev pub is_solved : GoalHow → Bool
is_solved (Ended how) = is_solved_how how
is_solved how = false

abbrev pub all_solved : List GoalEnd → Bool
all_solved [] = true
all_solved (g ∷ gs) = is_solved g.how && all_solved gs

-- Whether a line of the file is one of a fault that was kept.
abbrev pub is_fault : Consulted → Bool
is_fault (wrote t) = false
is_fault c = true

abbrev pub some_fault : List Consulted → Bool
some_fault [] = false
some_fault (c ∷ cs) = is_fault c || some_fault cs

abbrev pub faults_in : Option Execution → Bool
faults_in None = false
faults_in (Some x) = some_fault x.consulted

-- Whether each goal is solved, no engine lacked a place for an atom, and no fault of the file was kept.
abbrev pub all_done : Program → Told → Finals → Bool
all_done p told finals =
    all_solved (goal_ends p told finals)
    && (not (some_lacks_atoms told.history (engines p told)) && not (faults_in (final_of finals 1)))

-- The first that holds: an engine has halted, an engine waits, all is done or not.
abbrev pub end_by : Option ℕ → Bool → Bool → End
end_by (Some n) waits done = EndHalted n
end_by None true done = Waiting
end_by None false true = Done
end_by None false false = GoalFailed

abbrev pub end_of : Program → Told → Finals → End
end_of p told finals =
    end_by
    (first_halt told.history (engines p told))
    (some_waits told.history (engines p told))
    (all_done p told finals)

-- The exit status of each end.
abbrev pub status_of : End → ℕ
status_of Done = 0
status_of GoalFailed = 1
status_of Usage = 2
status_of Waiting = 3
status_of Memory = 255
status_of ReadFault = 5
status_of WriteFault = 6
status_of (EndHalted n) = n
