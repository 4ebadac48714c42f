-- What a generation sees is the same whatever updates follow (the logical update view).
use Rattle.std.proofs.Common.{◌≡◌, ◌≤◌, ℕ, zero, suc, List, [], ◌∷◌, ◌++◌, map, Option, Some, None, Bool, true, false, refl, ap, ◌∙◌, arith, le-ltb, le-leb}
use Rattle.std.specs.Prelude.{if◌then◌else◌, cond, ◌&&◌, not, filter, take, nat_lt, ◌+◌}
use Rattle.std.proofs.lemmas.List.{append-nil}
use Rattle.std.proofs.lemmas.List.Elements.{filter-append}
use Rattle.pl_model.specs.Predicates.{same_proc}
use Rattle.pl_model.specs.History.{Proc, Clause, Kind, History, add_first, add_last, erase, abolish, set_dynamic, set_flag, set_op, make_queue, drop_queue, send, start, finish, join}
use Rattle.pl_model.specs.History as entries
use Rattle.pl_model.specs.Database.{Stored, is_of, is_visible, is_erased, added_clause, erased_where, named_clauses, is_at}
use Rattle.pl_model.specs.SharedState.{SharedState, change, changes, state_at, opening_state}

abbrev is_seen : {C : Type 0} → ℕ → Proc → Stored C → Bool
is_seen b p s = is_of p s && is_visible b s

abbrev view : {C : Type 0} → ℕ → Proc → List (Stored C) → List (ℕ × C)
view b p ss = named_clauses (filter (is_seen b p) ss)

-- A clause that is added at the generation or later is not seen.
hidden : (a t : Bool) → t ≡ false → (a && (t && true)) ≡ false
hidden true t e = ap (λ x. x && true) e
hidden false t e = refl

unseen : {C : Type 0} (k b : ℕ) (q p : Proc) (c : C) → b ≤ k → is_seen b p (added_clause k q c) ≡ false
unseen k b q p c le = hidden (same_proc q p) (nat_lt k b) (le-ltb k b le)

view_first : {C : Type 0} (k b : ℕ) (q p : Proc) (c : C) (ss : List (Stored C))
    → b ≤ k
    → view b p (added_clause k q c ∷ ss) ≡ view b p ss
view_first k b q p c ss le =
    ap (λ x. named_clauses (cond x (added_clause k q c ∷ filter (is_seen b p) ss) (filter (is_seen b p) ss))) (unseen k b q p c le)

view_last : {C : Type 0} (k b : ℕ) (q p : Proc) (c : C) (ss : List (Stored C))
    → b ≤ k
    → view b p (ss ++ added_clause k q c ∷ []) ≡ view b p ss
view_last k b q p c ss le =
    ap named_clauses (filter-append (is_seen b p) ss (added_clause k q c ∷ []))
    ∙ ap (λ x. named_clauses (filter (is_seen b p) ss ++ cond x (added_clause k q c ∷ []) [])) (unseen k b q p c le)
    ∙ ap named_clauses (append-nil (filter (is_seen b p) ss))

-- A clause that is erased at the generation or later is seen as before.
abbrev erased_by : {C : Type 0} → Bool → ℕ → Stored C → Stored C
erased_by w k s = if w && not (is_erased s) then record s { erased = Some k } else s

picked : {C : Type 0} (v : Bool) (s u : Stored C) (ss us : List (Stored C))
    → s.place ≡ u.place
    → s.clause ≡ u.clause
    → named_clauses ss ≡ named_clauses us
    → named_clauses (cond v (s ∷ ss) ss) ≡ named_clauses (cond v (u ∷ us) us)
picked true s u ss us at is rest = ap (λ n. (n, s.clause) ∷ named_clauses ss) at ∙ ap (λ c. (u.place, c) ∷ named_clauses ss) is ∙ ap (λ l. (u.place, u.clause) ∷ l) rest
picked false s u ss us at is rest = rest

kept_seen : {C : Type 0} (w : Bool) (k b n : ℕ) (q p : Proc) (c : C) (o : Option ℕ) (ss us : List (Stored C))
    → b ≤ k
    → named_clauses ss ≡ named_clauses us
    → let s : Stored C = record { place = n; procedure = q; clause = c; erased = o }
    in named_clauses (cond (is_seen b p (erased_by w k s)) (erased_by w k s ∷ ss) ss) ≡ named_clauses (cond (is_seen b p s) (s ∷ us) us)
kept_seen false k b n q p c o ss us le rest = picked _ _ _ ss us refl refl rest
kept_seen true k b n q p c None ss us le rest =
    ap (λ x. named_clauses (cond (same_proc q p && (nat_lt n b && x)) (record { place = n; procedure = q; clause = c; erased = Some k } ∷ ss) ss)) (le-leb b k le)
    ∙ picked _ _ (record { place = n; procedure = q; clause = c; erased = None }) ss us refl refl rest
kept_seen true k b n q p c (Some j) ss us le rest = picked _ _ _ ss us refl refl rest

view_erased : {C : Type 0} (test : Stored C → Bool) (k b : ℕ) (p : Proc) (ss : List (Stored C))
    → b ≤ k
    → view b p (map (erased_where test k) ss) ≡ view b p ss
view_erased test k b p [] le = refl
view_erased test k b p (s ∷ ss) le =
    kept_seen (test s) k b s.place s.procedure p s.clause s.erased _ _ le (view_erased test k b p ss le)

-- No update at the generation or later changes what the generation sees.
view_changed : (k e b : ℕ) (x : Kind) (p : Proc) (s : SharedState)
    → b ≤ k
    → view b p (change k e x s).database.clauses ≡ view b p s.database.clauses
view_changed k e b (add_first q c o) p s le = view_first k b q p c s.database.clauses le
view_changed k e b (add_last q c o) p s le = view_last k b q p c s.database.clauses le
view_changed k e b (erase j) p s le = view_erased (is_at j) k b p s.database.clauses le
view_changed k e b (abolish q) p s le = view_erased (is_of q) k b p s.database.clauses le
view_changed k e b (set_dynamic ps) p s le = refl
view_changed k e b (set_flag f v) p s le = refl
view_changed k e b (set_op os) p s le = refl
view_changed k e b (make_queue n a) p s le = refl
view_changed k e b (drop_queue n) p s le = refl
view_changed k e b (send n t) p s le = refl
view_changed k e b (entries.take j) p s le = refl
view_changed k e b (start n t a) p s le = refl
view_changed k e b (finish how steps) p s le = refl
view_changed k e b (join n) p s le = refl

view_later : (k b : ℕ) (xs : History) (p : Proc) (s : SharedState)
    → b ≤ k
    → view b p (changes k xs s).database.clauses ≡ view b p s.database.clauses
view_later k b [] p s le = refl
view_later k b (x ∷ xs) p s le =
    view_later (suc k) b xs p (change k x.engine x.kind s) (omega (arith, le)) ∙ view_changed k x.engine b x.kind p s le

view_between : (h : History) (k b g m : ℕ) (p : Proc) (s : SharedState)
    → b ≤ k + g
    → g ≤ m
    → view b p (changes k (take m h) s).database.clauses ≡ view b p (changes k (take g h) s).database.clauses
view_between h k b zero m p s below le = view_later k b (take m h) p s (omega (arith, below))
view_between h k b (suc g) zero p s below le = absurd (omega (arith, le))
view_between [] k b (suc g) (suc m) p s below le = refl
view_between (x ∷ h) k b (suc g) (suc m) p s below le =
    view_between h (suc k) b g m p (change k x.engine x.kind s) (omega (arith, below)) (omega (arith, le))

pub update_view : (goals : ℕ) (h : History) (g m : ℕ) (p : Proc)
    → g ≤ m
    → view g p (state_at goals h m).database.clauses ≡ view g p (state_at goals h g).database.clauses
unfolding state_at
update_view goals h g m p le = view_between h zero g g m p (opening_state goals) (omega arith) le
