-- The shared state after one update more.
use Rattle.std.proofs.Common.{◌≡◌, ℕ, zero, suc, ◌+◌, List, [], ◌∷◌, ◌++◌, length, sym, ap, ◌∙◌, arith}
use Rattle.std.proofs.Math.Seq.{take-length}
use Rattle.pl_model.specs.History.{Entry, History}
use Rattle.pl_model.specs.SharedState.{SharedState, change, changes, state_at, opening_state}

changes_snoc : (k : ℕ) (xs : History) (x : Entry) (s : SharedState)
    → changes k (xs ++ x ∷ []) s ≡ change (k + length xs) x.engine x.kind (changes k xs s)
changes_snoc k [] x s = ap (λ n. change n x.engine x.kind s) (let e : k ≡ k + 0 = omega arith in e)
changes_snoc k (y ∷ ys) x s =
    changes_snoc (suc k) ys x (change k y.engine y.kind s)
    ∙ ap (λ n. change n x.engine x.kind (changes (suc k) ys (change k y.engine y.kind s)))
    (let e : suc k + length ys ≡ k + suc (length ys) = omega arith in e)

pub newest_after : (goals : ℕ) (h : History) (x : Entry)
    → state_at goals (h ++ x ∷ []) (length (h ++ x ∷ [])) ≡ change (length h) x.engine x.kind (state_at goals h (length h))
unfolding state_at
newest_after goals h x =
    ap (λ l. changes zero l (opening_state goals)) (take-length (h ++ x ∷ []))
    ∙ changes_snoc zero h x (opening_state goals)
    ∙ ap (λ n. change n x.engine x.kind (changes zero h (opening_state goals))) (let e : 0 + length h ≡ length h = omega arith in e)
    ∙ ap (λ l. change (length h) x.engine x.kind (changes zero l (opening_state goals))) (sym (take-length h))
