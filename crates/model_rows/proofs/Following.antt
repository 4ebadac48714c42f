-- Runs by pieces: from where an engine stands on, so many moves.
use Rattle.std.proofs.Common.{◌≡◌, ◌≤◌, ◌+◌, ◌-◌, ℕ, zero, suc, List, ap, sym, ◌∙◌, arith}
use Rattle.pl_model.specs.History.{History}
use Rattle.pl_model.specs.Resolution.{Ending}
use Rattle.run_model.specs.Execution.{Job, Execution, over, ends, move, move_by}
use Rattle.run_model.specs.Lawful.{Standing, advanced, run}

abbrev pub follow : ℕ → ℕ → Job → History → List ℕ → ℕ → Standing → Standing
follow e goals job h gens zero a = a
follow e goals job h gens (suc m) a =
    let b = follow e goals job h gens m a in advanced e goals h gens b (move job b.execution)

pub run_more : (e goals : ℕ) (job : Job) (h : History) (gens : List ℕ) (n m : ℕ)
    → run e goals job h gens (n + m) ≡ follow e goals job h gens m (run e goals job h gens n)
run_more e goals job h gens n zero = let same : n + zero ≡ n = omega arith in ap (run e goals job h gens) same
run_more e goals job h gens n (suc m) =
    let same : n + suc m ≡ suc (n + m) = omega arith
    in ap (run e goals job h gens) same
    ∙ ap (λ a. advanced e goals h gens a (move job a.execution)) (run_more e goals job h gens n m)

-- An engine that has ended stands still.
over_stops : (job : Job) (s : Execution) (x : Ending) → s.activity ≡ over x → move job s ≡ ends x
unfolding move
over_stops job s x e = ap (move_by job s) e

over_next : (e goals : ℕ) (job : Job) (h : History) (gens : List ℕ) (a : Standing) (x : Ending)
    → a.execution.activity ≡ over x
    → advanced e goals h gens a (move job a.execution) ≡ a
over_next e goals job h gens a x is_over = ap (advanced e goals h gens a) (over_stops job a.execution x is_over)

over_follows : (e goals : ℕ) (job : Job) (h : History) (gens : List ℕ) (m : ℕ) (a : Standing) (x : Ending)
    → a.execution.activity ≡ over x
    → (follow e goals job h gens m a).execution.activity ≡ over x
over_follows e goals job h gens zero a x is_over = is_over
over_follows e goals job h gens (suc m) a x is_over =
    let before : (follow e goals job h gens m a).execution.activity ≡ over x = over_follows e goals job h gens m a x is_over
    in ap (λ b. b.execution.activity) (over_next e goals job h gens (follow e goals job h gens m a) x before) ∙ before

-- Where it has not ended it had not ended before.
pub not_before : (e goals : ℕ) (job : Job) (h : History) (gens : List ℕ) (n k : ℕ)
    → ((x : Ending) → (run e goals job h gens n).execution.activity ≡ over x → ⊥)
    → k ≤ n
    → (x : Ending)
    → (run e goals job h gens k).execution.activity ≡ over x
    → ⊥
not_before e goals job h gens n k running le x is_over =
    let same : k + (n - k) ≡ n = omega (arith, le)
    in running
    x
    (ap (λ i. (run e goals job h gens i).execution.activity) (sym same)
    ∙ ap (λ a. a.execution.activity) (run_more e goals job h gens k (n - k))
    ∙ over_follows e goals job h gens (n - k) (run e goals job h gens k) x is_over)
