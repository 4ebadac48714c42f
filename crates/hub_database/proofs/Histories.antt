-- The shared state at each generation, after one update more.
use Rattle.std.proofs.Common.{◌≡◌, ◌<◌, ◌≤◌, ℕ, zero, suc, ◌+◌, List, [], ◌∷◌, ◌++◌, Bool, true, false, length, refl, sym, ap, ◌∙◌, arith, leb-true}
use Rattle.std.specs.Prelude.{nat_le, if◌then◌else◌, take}
use Rattle.std.proofs.Math.Path.{fun_ext}
use Rattle.std.proofs.Math.Seq.{take-length}
use Rattle.std.proofs.lemmas.Bool.{leb-false}
use Rattle.std.proofs.lemmas.List.{take-append-le, length-append}
use Rattle.pl_model.specs.History.{Clause, Entry, History}
use Rattle.pl_model.specs.Database.{Database}
use Rattle.pl_model.specs.SharedState.{SharedState, change, changes, state_at, opening_state}
use Rattle.clause_db.specs.Stands.{then_at}
use Rattle.hub_database.specs.Database.{databases}

changes_snoc : (k : ℕ) (xs : History) (x : Entry) (s : SharedState)
    → changes k (xs ++ x ∷ []) s ≡ change (k + length xs) x.engine x.kind (changes k xs s)
changes_snoc k [] x s = ap (λ n. change n x.engine x.kind s) (let e : k ≡ k + 0 = omega arith in e)
changes_snoc k (y ∷ ys) x s =
    changes_snoc (suc k) ys x (change k y.engine y.kind s)
    ∙ ap (λ n. change n x.engine x.kind (changes (suc k) ys (change k y.engine y.kind s)))
    (let e : suc k + length ys ≡ k + suc (length ys) = omega arith in e)

all_taken : {X : Type 0} (xs : List X) (g : ℕ) → length xs ≤ g → take g xs ≡ xs
all_taken [] zero le = refl
all_taken [] (suc g) le = refl
all_taken (x ∷ xs) zero le = absurd (omega arith)
all_taken (x ∷ xs) (suc g) le = ap (λ l. x ∷ l) (all_taken xs g (omega arith))

module _ (goals : ℕ) (h : History) where
  -- the generations up to the last one are as they were
  pub state_before : (x : Entry) (g : ℕ) → g ≤ length h → state_at goals (h ++ x ∷ []) g ≡ state_at goals h g
  unfolding state_at
  state_before x g le = ap (λ l. changes zero l (opening_state goals)) (take-append-le g h (x ∷ []) le)

  -- no generation is above the last one
  pub state_past : (g : ℕ) → length h ≤ g → state_at goals h g ≡ state_at goals h (length h)
  unfolding state_at
  state_past g le = ap (λ l. changes zero l (opening_state goals)) (all_taken h g le ∙ sym (take-length h))

  -- the one above it is what the update makes of it
  pub state_after : (x : Entry) (g : ℕ) → length h < g → state_at goals (h ++ x ∷ []) g ≡ change (length h) x.engine x.kind (state_at goals h (length h))
  unfolding state_at
  state_after x g lt =
      ap (λ l. changes zero l (opening_state goals)) (all_taken (h ++ x ∷ []) g (let n : length (h ++ x ∷ []) ≡ length h + 1 = length-append h (x ∷ []) in omega arith))
      ∙ changes_snoc zero h x (opening_state goals)
      ∙ ap (λ n. change n x.engine x.kind (changes zero h (opening_state goals))) (let e : 0 + length h ≡ length h = omega arith in e)
      ∙ ap (λ l. change (length h) x.engine x.kind (changes zero l (opening_state goals))) (sym (take-length h))

  -- AN UPDATE OF THE DATABASE
  module _ (x : Entry) (f : Database Clause → Database Clause) (does : (change (length h) x.engine x.kind (state_at goals h (length h))).database ≡ f (databases goals h (length h))) where
    database_at : (g : ℕ) → then_at (length h) f (databases goals h) g ≡ databases goals (h ++ x ∷ []) g
    database_at g = go (nat_le g (length h)) refl
      where
        go : (b : Bool) → nat_le g (length h) ≡ b → (if b then databases goals h g else f (databases goals h (length h))) ≡ databases goals (h ++ x ∷ []) g
        go true e = ap (λ (s : SharedState). s.database) (sym (state_before x g (leb-true g (length h) e)))
        go false e = sym (ap (λ (s : SharedState). s.database) (state_after x g (let m = leb-false g (length h) e in omega arith)) ∙ does)

    pub databases_then : then_at (length h) f (databases goals h) ≡ databases goals (h ++ x ∷ [])
    databases_then = fun_ext database_at

  -- ONE THAT IS NONE OF THE DATABASE'S
  module _ (x : Entry) (other : (change (length h) x.engine x.kind (state_at goals h (length h))).database ≡ databases goals h (length h)) where
    same_at : (g : ℕ) → databases goals h g ≡ databases goals (h ++ x ∷ []) g
    same_at g = go (nat_le g (length h)) refl
      where
        go : (b : Bool) → nat_le g (length h) ≡ b → databases goals h g ≡ databases goals (h ++ x ∷ []) g
        go true e = ap (λ (s : SharedState). s.database) (sym (state_before x g (leb-true g (length h) e)))
        go false e =
            let above : length h < g = let m = leb-false g (length h) e in omega arith in
            ap (λ (s : SharedState). s.database) (state_past g (let m = leb-false g (length h) e in omega arith))
            ∙ sym (ap (λ (s : SharedState). s.database) (state_after x g above) ∙ other)

    pub databases_same : databases goals h ≡ databases goals (h ++ x ∷ [])
    databases_same = fun_ext same_at

  -- the newest state
  pub newest_after : (x : Entry) → state_at goals (h ++ x ∷ []) (length (h ++ x ∷ [])) ≡ change (length h) x.engine x.kind (state_at goals h (length h))
  newest_after x = state_after x (length (h ++ x ∷ [])) (let n : length (h ++ x ∷ []) ≡ length h + 1 = length-append h (x ∷ []) in omega arith)
