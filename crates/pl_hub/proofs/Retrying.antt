-- The next clause of a list at the generation of an earlier visit.
use Rattle.std.proofs.Common.{◌≡◌, ◌≤◌, ℕ, zero, suc, List, [], ◌∷◌, length, Bool, true, false, cond, refl, sym, ap, ◌∙◌, subst, arith}
use Rattle.std.specs.Prelude.{◌&&◌, ◌||◌, ◌==◌, filter, take}
use Rattle.std.specs.List.{list_any}
use Rattle.std.proofs.lemmas.Bool.{false≢true}
use Rattle.std.proofs.lemmas.List.{take-append-le}
use mathlib.Core.List.{IsPrefix}
use Rattle.pl_term.specs.Tree.{Tree}
use Rattle.pl_model.specs.History.{Clause, History, Proc}
use Rattle.pl_model.specs.Predicates.{is_excluded, proc_of}
use Rattle.pl_model.specs.Database.{Database, Stored, choices, is_at, is_of, is_visible, named_clauses, seen}
use Rattle.pl_model.specs.SharedState.{SharedState, changes, opening_state, state_at}
use Rattle.clause_db.specs.Stands.{after}
use Rattle.world_api.specs.Told.{behind, clause_list, has_place}

-- A generation that has been seen is the same after further entries.
pub state_seen : (goals : ℕ) (xs h : History) (g : ℕ) → IsPrefix xs h → g ≤ length xs → state_at goals xs g ≡ state_at goals h g
unfolding state_at
state_seen goals xs h g p le = ap (λ (l : History). changes zero l (opening_state goals)) (sym (take-append-le g xs p.0 le) ∙ ap (take g) p.1)

pub list_seen : (goals : ℕ) (xs h : History) (g : ℕ) (goal : Tree) → IsPrefix xs h → g ≤ length xs → clause_list goals xs g goal ≡ clause_list goals h g goal
list_seen goals xs h g goal p le = ap (λ (s : SharedState). choices (λ (c : Clause). is_excluded goal c.head) g (proc_of goal) s.database) (state_seen goals xs h g p le)

-- A place names one clause at most, also of those that a generation sees.
module _ (j : ℕ) where
  places_same : (xs ys : List (Stored Clause)) → named_clauses xs ≡ named_clauses ys → length (filter (is_at j) xs) ≡ length (filter (is_at j) ys)
  places_same [] [] e = refl
  places_same [] (y ∷ ys) e = absurd (cc)
  places_same (x ∷ xs) [] e = absurd (cc)
  places_same (x ∷ xs) (y ∷ ys) e = go (x.place == j) (y.place == j) (ap (λ n. n == j) (place_is e)) (places_same xs ys (tail_is e))
    where
      place_is : named_clauses (x ∷ xs) ≡ named_clauses (y ∷ ys) → x.place ≡ y.place
      place_is h = ap (λ (t : ℕ × Clause). t.0) (head_is h)
        where
          head_is : named_clauses (x ∷ xs) ≡ named_clauses (y ∷ ys) → ◌≡◌ {A = ℕ × Clause} (x.place, x.clause) (y.place, y.clause)
          head_is k = cc

      tail_is : named_clauses (x ∷ xs) ≡ named_clauses (y ∷ ys) → named_clauses xs ≡ named_clauses ys
      tail_is h = cc

      go : (b c : Bool) → b ≡ c → length (filter (is_at j) xs) ≡ length (filter (is_at j) ys) → length (cond b (x ∷ filter (is_at j) xs) (filter (is_at j) xs)) ≡ length (cond c (y ∷ filter (is_at j) ys) (filter (is_at j) ys))
      go true true h r = ap suc r
      go true false h r = absurd (cc)
      go false true h r = absurd (cc)
      go false false h r = r

  fewer : (P : Stored Clause → Bool) (ss : List (Stored Clause)) → length (filter (is_at j) (filter P ss)) ≤ length (filter (is_at j) ss)
  fewer P [] = omega arith
  fewer P (s ∷ ss) = go (P s) (s.place == j) refl (fewer P ss)
    where
      go : (b c : Bool) → (s.place == j) ≡ c → length (filter (is_at j) (filter P ss)) ≤ length (filter (is_at j) ss)
          → length (filter (is_at j) (cond b (s ∷ filter P ss) (filter P ss))) ≤ length (cond c (s ∷ filter (is_at j) ss) (filter (is_at j) ss))
      go true true e ih = subst (λ x. length (cond x (s ∷ filter (is_at j) (filter P ss)) (filter (is_at j) (filter P ss))) ≤ suc (length (filter (is_at j) ss))) (sym e) (omega (arith, ih))
      go true false e ih = subst (λ x. length (cond x (s ∷ filter (is_at j) (filter P ss)) (filter (is_at j) (filter P ss))) ≤ length (filter (is_at j) ss)) (sym e) ih
      go false true e ih = omega (arith, ih)
      go false false e ih = ih

  pub once_seen : (g : ℕ) (p : Proc) (d n : Database Clause) → named_clauses (seen g p d) ≡ named_clauses (seen g p n) → length (filter (is_at j) n.clauses) ≤ 1 → length (filter (is_at j) (seen g p d)) ≤ 1
  once_seen g p d n same once =
      let e = places_same (seen g p d) (seen g p n) same in
      let f = fewer (λ s. is_of p s && is_visible g s) n.clauses in omega (arith, e, f, once)

  at_head : Stored Clause → List (Stored Clause) → Bool → List (Stored Clause)
  at_head s ss b = cond b (s ∷ filter (is_at j) ss) (filter (is_at j) ss)

  behind_here : (c : Stored Clause) (cs : List (Stored Clause)) → (c.place == j) ≡ true → behind j (c ∷ cs) ≡ cs
  behind_here c cs e = rw (e, behind) refl

  behind_on : (c : Stored Clause) (cs : List (Stored Clause)) → (c.place == j) ≡ false → behind j (c ∷ cs) ≡ behind j cs
  behind_on c cs e = rw (e, behind) refl

  module _ (P : Stored Clause → Bool) where
    no_place : (ss : List (Stored Clause)) → length (filter (is_at j) ss) ≤ 0 → has_place j (filter P ss) ≡ false
    no_place [] few = refl
    no_place (s ∷ ss) few = go (s.place == j) refl (P s) (no_place ss)
      where
        go : (b : Bool) → (s.place == j) ≡ b → (c : Bool)
            → (length (filter (is_at j) ss) ≤ 0 → has_place j (filter P ss) ≡ false)
            → has_place j (cond c (s ∷ filter P ss) (filter P ss)) ≡ false
        go true e c rest = absurd (omega (arith, subst (λ b. length (cond b (s ∷ filter (is_at j) ss) (filter (is_at j) ss)) ≤ 0) e few))
        go false e true rest = ap (λ b. b || has_place j (filter P ss)) e ∙ rest (subst (λ b. length (cond b (s ∷ filter (is_at j) ss) (filter (is_at j) ss)) ≤ 0) e few)
        go false e false rest = rest (subst (λ b. length (cond b (s ∷ filter (is_at j) ss) (filter (is_at j) ss)) ≤ 0) e few)

    -- WHAT FOLLOWS the clause in the list is what follows it among those that are seen, less the excluded ones
    pub behind_filter : (ss : List (Stored Clause)) → length (filter (is_at j) ss) ≤ 1 → has_place j (filter P ss) ≡ true → behind j (filter P ss) ≡ filter P (after j ss)
    behind_filter [] once there = absurd (cc)
    behind_filter (s ∷ ss) once there = go (s.place == j) refl (P s) refl (behind_filter ss) there
      where
        go : (b : Bool) → (s.place == j) ≡ b → (c : Bool) → P s ≡ c
            → (length (filter (is_at j) ss) ≤ 1 → has_place j (filter P ss) ≡ true → behind j (filter P ss) ≡ filter P (after j ss))
            → has_place j (cond c (s ∷ filter P ss) (filter P ss)) ≡ true
            → behind j (cond c (s ∷ filter P ss) (filter P ss)) ≡ filter P (cond b ss (after j ss))
        go true e true h rest in_list = behind_here s (filter P ss) e
        go true e false h rest in_list =
            let none_left : length (filter (is_at j) ss) ≤ 0 = omega (arith, subst (λ b. length (cond b (s ∷ filter (is_at j) ss) (filter (is_at j) ss)) ≤ 1) e once) in
            absurd (false≢true (sym (no_place ss none_left) ∙ in_list))
        go false e true h rest in_list =
            behind_on s (filter P ss) e
            ∙ rest (subst (λ b. length (cond b (s ∷ filter (is_at j) ss) (filter (is_at j) ss)) ≤ 1) e once) (subst (λ b. (b || has_place j (filter P ss)) ≡ true) e in_list)
        go false e false h rest in_list = rest (subst (λ b. length (cond b (s ∷ filter (is_at j) ss) (filter (is_at j) ss)) ≤ 1) e once) in_list

    pub is_seen : (ss : List (Stored Clause)) → has_place j (filter P ss) ≡ true → list_any (is_at j) ss ≡ true
    is_seen [] there = absurd (cc)
    is_seen (s ∷ ss) there = go (s.place == j) refl (P s) (is_seen ss) there
      where
        go : (b : Bool) → (s.place == j) ≡ b → (c : Bool)
            → (has_place j (filter P ss) ≡ true → list_any (is_at j) ss ≡ true)
            → has_place j (cond c (s ∷ filter P ss) (filter P ss)) ≡ true
            → list_any (is_at j) (s ∷ ss) ≡ true
        go true e c rest h = ap (λ b. b || list_any (is_at j) ss) e
        go false e true rest h = ap (λ b. b || list_any (is_at j) ss) e ∙ rest (subst (λ b. (b || has_place j (filter P ss)) ≡ true) e h)
        go false e false rest h = ap (λ b. b || list_any (is_at j) ss) e ∙ rest h
