-- When the threads and queues that are held are those of the shared state after a history.
use Rattle.std.specs.Prelude.{◌≡◌, ◌≤◌, ℕ, [], ◌∷◌, length, Option, Some, None, ◌==◌, ◌||◌, if◌then◌else◌}
use Rattle.pl_term.specs.Tree.{Tree}
use Rattle.pl_term.specs.Variables.{is_in}
use Rattle.pl_model.specs.History.{History, Kind, abolish, add_first, add_last, erase, set_dynamic, set_flag, set_op, start, has_begun}
use Rattle.pl_model.specs.SharedState.{state_at}
use Rattle.atom_words.specs.declared.view.View.{View}
use Rattle.hub_threads.specs.Distinct.{has_number}
use Rattle.hub_threads.specs.Held.{Held, goal_of, thread_numbers}
use Rattle.hub_threads.specs.Serving.{threads_as}
use Rattle.hub_threads.specs.Weights.{weigh}
use Rattle.counted_terms.specs.CountedTerms.{naming, said}
use Rattle.counted_terms.specs.Keeping.{kept}

-- HOW OFTEN THE STORED MESSAGES, GOALS AND STATUSES COUNT AN ATOM
abbrev pub thread_counts : Held Tree → ℕ → ℕ
thread_counts q a = weigh (naming a) q

-- a term is stored among them: no weight of it is above that of all
abbrev pub IsStored : Tree → Held Tree → Type 0
IsStored t q = (w : Tree → ℕ) → w t ≤ weigh w q

-- the update is one of clauses, flags or operators
abbrev pub IsOfDatabase : Kind → Type 0
IsOfDatabase (add_first p c o) = Unit {0}
IsOfDatabase (add_last p c o) = Unit {0}
IsOfDatabase (erase j) = Unit {0}
IsOfDatabase (abolish p) = Unit {0}
IsOfDatabase (set_dynamic ps) = Unit {0}
IsOfDatabase (set_flag f v) = Unit {0}
IsOfDatabase (set_op os) = Unit {0}
IsOfDatabase _ = ⊥

-- the goal with which an engine was started
abbrev pub goal_in : ℕ → Kind → Option Tree
goal_in n (start b t a) = if b == n then Some t else None
goal_in n _ = None

abbrev pub first_some : Option Tree → Option Tree → Option Tree
first_some None o = o
first_some (Some t) o = Some t

abbrev pub started_goal : ℕ → History → Option Tree
started_goal n [] = None
started_goal n (x ∷ xs) = first_some (goal_in n x.kind) (started_goal n xs)

-- WHAT IS HELD IS THE STATE AFTER THE HISTORY, by the texts that the keeper with the view k keeps: the threads and queues with their messages and statuses, the number that comes next, which engines have begun, and with which goals those that were not handed out
pub record IsThreads (k : View) (q : Held Tree) (count goals : ℕ) (h : History) : Type 0 where
  pub threads : (state_at goals h (length h)).threads ≡ threads_as (said (kept k)) q.state
  pub number : (state_at goals h (length h)).count ≡ count
  pub begun : (e : ℕ) → has_begun h e ≡ (has_number e (thread_numbers q.state.threads) || is_in e q.state.joined)
  pub waiting : (n : ℕ) (t : Tree) → goal_of n q ≡ Some t → started_goal n h ≡ Some (said (kept k) t)
