-- At the generation of a state, what is seen is what was not erased.
use Rattle.std.proofs.Common.{◌≡◌, ◌≤◌, ◌<◌, ℕ, zero, suc, List, [], ◌∷◌, ◌++◌, map, Option, Some, None, Bool, true, false, refl, ap, ◌∙◌, arith, ◌+◌, lt-ltb}
use Rattle.std.proofs.lemmas.Bool.{lt-leb}
use Rattle.std.specs.Prelude.{if◌then◌else◌, cond, ◌&&◌, not, filter, take, is_some, nat_lt, nat_le, IfSome}
use Rattle.pl_model.specs.History.{Proc, Clause, Kind, History, add_first, add_last, erase, abolish, set_dynamic, set_flag, set_op, make_queue, drop_queue, send, start, finish, join}
use Rattle.pl_model.specs.History as entries
use Rattle.pl_model.specs.Database.{Stored, is_of, is_visible, is_erased, erased_where, is_at}
use Rattle.pl_model.specs.SharedState.{SharedState, change, changes, state_at, opening_state}

-- The clause was added, and was erased if it was, before the generation.
abbrev Past : {C : Type 0} → ℕ → Stored C → Type 0
Past g s = (s.place < g) × IfSome s.erased (λ k. k < g)

abbrev AllPast : {C : Type 0} → ℕ → List (Stored C) → Type 0
AllPast g [] = Unit {0}
AllPast g (s ∷ ss) = Past g s × AllPast g ss

erased_later : (o : Option ℕ) (g m : ℕ) → g ≤ m → IfSome o (λ k. k < g) → IfSome o (λ k. k < m)
erased_later None g m le past = past
erased_later (Some k) g m le past = omega (arith, le, past)

past_later : {C : Type 0} (ss : List (Stored C)) (g m : ℕ) → g ≤ m → AllPast g ss → AllPast m ss
past_later [] g m le past = past
past_later (s ∷ ss) g m le past =
    ((omega (arith, le, past.0.0), erased_later s.erased g m le past.0.1), past_later ss g m le past.1)

past_last : {C : Type 0} (ss : List (Stored C)) (s : Stored C) (g : ℕ) → AllPast g ss → Past g s → AllPast g (ss ++ s ∷ [])
past_last [] s g past last = (last, tt)
past_last (u ∷ ss) s g past last = (past.0, past_last ss s g past.1 last)

past_erased : {C : Type 0} (w : Bool) (k n : ℕ) (q : Proc) (c : C) (o : Option ℕ)
    → (n < suc k) × IfSome o (λ j. j < suc k)
    → let s : Stored C = record { place = n; procedure = q; clause = c; erased = o }
    in Past (suc k) (if w && not (is_erased s) then record s { erased = Some k } else s)
past_erased false k n q c o past = past
past_erased true k n q c None past = (past.0, omega arith)
past_erased true k n q c (Some j) past = past

past_all_erased : {C : Type 0} (test : Stored C → Bool) (k : ℕ) (ss : List (Stored C))
    → AllPast (suc k) ss
    → AllPast (suc k) (map (erased_where test k) ss)
past_all_erased test k [] past = past
past_all_erased test k (s ∷ ss) past =
    (past_erased (test s) k s.place s.procedure s.clause s.erased past.0, past_all_erased test k ss past.1)

past_changed : (k e : ℕ) (x : Kind) (s : SharedState)
    → AllPast (suc k) s.database.clauses
    → AllPast (suc k) (change k e x s).database.clauses
past_changed k e (add_first q c o) s past = ((omega arith, tt), past)
past_changed k e (add_last q c o) s past = past_last s.database.clauses _ (suc k) past (omega arith, tt)
past_changed k e (erase j) s past = past_all_erased (is_at j) k s.database.clauses past
past_changed k e (abolish q) s past = past_all_erased (is_of q) k s.database.clauses past
past_changed k e (set_dynamic ps) s past = past
past_changed k e (set_flag f v) s past = past
past_changed k e (set_op os) s past = past
past_changed k e (make_queue n a) s past = past
past_changed k e (drop_queue n) s past = past
past_changed k e (send n t) s past = past
past_changed k e (entries.take j) s past = past
past_changed k e (start n t a) s past = past
past_changed k e (finish how steps) s past = past
past_changed k e (join n) s past = past

past_changes : (h : History) (k g : ℕ) (s : SharedState)
    → AllPast k s.database.clauses
    → AllPast (k + g) (changes k (take g h) s).database.clauses
past_changes h k zero s past = past_later s.database.clauses k (k + 0) (omega arith) past
past_changes [] k (suc g) s past = past_later s.database.clauses k (k + suc g) (omega arith) past
past_changes (x ∷ h) k (suc g) s past =
    past_later (changes (suc k) (take g h) (change k x.engine x.kind s)).database.clauses (suc k + g) (k + suc g) (omega arith)
    (past_changes h (suc k) g (change k x.engine x.kind s)
    (past_changed k x.engine x.kind s (past_later s.database.clauses k (suc k) (omega arith) past)))

visible_now : (g n : ℕ) (o : Option ℕ)
    → n < g
    → IfSome o (λ k. k < g)
    → (nat_lt n g && elim o [ None ↦ true | Some k ↦ nat_le g k ]) ≡ not (is_some o)
visible_now g n None added erased = ap (λ x. x && true) (lt-ltb n g added)
visible_now g n (Some k) added erased = ap (λ x. x && nat_le g k) (lt-ltb n g added) ∙ lt-leb g k erased

seen_now : {C : Type 0} (g : ℕ) (p : Proc) (ss : List (Stored C))
    → AllPast g ss
    → filter (λ s. is_of p s && is_visible g s) ss ≡ filter (λ s. is_of p s && not (is_erased s)) ss
seen_now g p [] past = refl
seen_now g p (s ∷ ss) past =
    ap
    (λ x. cond (is_of p s && x) (s ∷ filter (λ s. is_of p s && is_visible g s) ss) (filter (λ s. is_of p s && is_visible g s) ss))
    (visible_now g s.place s.erased past.0.0 past.0.1)
    ∙ ap (λ l. cond (is_of p s && not (is_erased s)) (s ∷ l) l) (seen_now g p ss past.1)

pub present_view : (goals : ℕ) (h : History) (g : ℕ) (p : Proc)
    → filter (λ s. is_of p s && is_visible g s) (state_at goals h g).database.clauses
    ≡ filter (λ s. is_of p s && not (is_erased s)) (state_at goals h g).database.clauses
unfolding state_at
present_view goals h g p =
    let ss = (changes zero (take g h) (opening_state goals)).database.clauses
    in seen_now g p ss (past_later ss (zero + g) g (omega arith) (past_changes h zero g (opening_state goals) tt))
