-- Worked visits: requests of engines, one after the other, with the answers that are due.
use Rattle.std.specs.Prelude.{ℕ, suc, zero, ◌+◌, List, [], ◌∷◌, map, Option, Some, None, codes, pos}
use Rattle.pl_term.specs.Tree.{Chars, Tree, int, atom, comp, none}
use Rattle.pl_model.specs.History.{Proc, Clause, Kind, assert}
use Rattle.pl_model.specs.Database.{Database, Stored, opening_database, with_first, with_last, without_clause}
use Rattle.pl_model.specs.Threads.{Threads, opening_threads, thread_started}
use Rattle.pl_model.specs.SharedState.{SharedState, opening_state, change}
use Rattle.pl_model.specs.Requests.{Request}
use Rattle.pl_model.specs.Service.{Served, update_of, serve}

-- What a visit leaves: the update that it made is the next of the history.
abbrev pub generation_after : ℕ → Option Kind → ℕ
generation_after g None = g
generation_after g (Some k) = suc g

abbrev pub state_after : ℕ → ℕ → Option Kind → SharedState → SharedState
state_after g e None s = s
state_after g e (Some k) s = change g e k s

-- The answers to requests that engines make one after the other, from this state of the generation `g` on.
abbrev pub played : ℕ → SharedState → List (ℕ × Request) → List Served
played g s [] = []
played g s (x ∷ xs) =
    let a = serve x.0 x.1 s g
    in a ∷ played (generation_after g (update_of a)) (state_after g x.0 (update_of a) s) xs

-- The state after them.
abbrev pub left_by : ℕ → SharedState → List (ℕ × Request) → SharedState
left_by g s [] = s
left_by g s (x ∷ xs) =
    let a = serve x.0 x.1 s g
    in left_by (generation_after g (update_of a)) (state_after g x.0 (update_of a) s) xs

abbrev pub named_proc : Chars → ℕ → Proc
named_proc f n = record { name = f; arity = n }

-- The term f(t), and the fact f(t).
abbrev pub term_of : Chars → Tree → Tree
term_of f t = comp f t none

abbrev pub fact : Chars → Tree → Clause
fact f t = record { head = term_of f t; body = atom (codes "true"); variables = 0 }

abbrev pub number_term : ℕ → Tree
number_term n = int (pos n)

abbrev pub stored_fact : ℕ → Chars → Tree → Stored Clause
stored_fact k f t = record { place = k; procedure = named_proc f 1; clause = fact f t; erased = None }

-- Threads from the number `n` on, this many, have begun.
abbrev pub with_threads : ℕ → ℕ → Threads Tree → Threads Tree
with_threads n zero t = t
with_threads n (suc m) t = with_threads (suc n) m (thread_started n None t)

abbrev pub with_engines : ℕ → SharedState
with_engines n = record (opening_state 1) { threads = with_threads 2 n opening_threads; count = 2 + n }

-- A database whose clauses p(0) and p(1), and p(2) after them, were added at the places 0 to 2, of which the one at 0
-- was erased at 3, and one more was put before them at 4.
abbrev pub changed_database : Database Clause
changed_database =
    with_first 4 (named_proc (codes "p") 1) (fact (codes "p") (number_term 3)) assert
    (without_clause 0 3
    (with_last 2 (named_proc (codes "p") 1) (fact (codes "p") (number_term 2)) assert
    (with_last 1 (named_proc (codes "p") 1) (fact (codes "p") (number_term 1)) assert
    (with_last 0 (named_proc (codes "p") 1) (fact (codes "p") (number_term 0)) assert opening_database))))

abbrev pub places : List (Stored Clause) → List ℕ
places ss = map (λ (s : Stored Clause). s.place) ss
