-- Entries after a generation change nothing of the runs within it.
use Rattle.std.proofs.Common.{◌≡◌, ◌≤◌, ℕ, zero, suc, List, [], ◌∷◌, ◌++◌, length, Option, Some, None, refl, ap, ◌∙◌, arith, subst}
use Rattle.std.specs.List.{slice_get}
use Rattle.pl_model.specs.History.{History}
use Rattle.pl_model.specs.Requests.{Request, Reply}
use Rattle.pl_model.specs.Service.{serve}
use Rattle.pl_model.proofs.StateLater.{state_later}
use Rattle.run_model.specs.Execution.{Job, Execution, Move, moves, requests, ends, move}
use Rattle.run_model.specs.Lawful.{Standing, after_service, at_generation, advanced, run, Rises}

-- Each generation lies within so many entries.
abbrev pub AllAtMost : List ℕ → ℕ → Type 0
AllAtMost gens high = (i g : ℕ) → slice_get gens i ≡ Some g → g ≤ high

pub first_at_most : (low : ℕ) (gens : List ℕ) (high : ℕ) → Rises low gens high → low ≤ high
first_at_most low [] high r = r
first_at_most low (g ∷ gens) high r = let h : g ≤ high = first_at_most g gens high r.1 in omega (arith, r.0)

pub rises_at_most : (low : ℕ) (gens : List ℕ) (high : ℕ) → Rises low gens high → AllAtMost gens high
rises_at_most low [] high r i g e = absurd (cc)
rises_at_most low (x ∷ gens) high r zero g e =
    let same : x ≡ g = cc in subst (λ (y : ℕ). y ≤ high) same (first_at_most x gens high r.1)
rises_at_most low (x ∷ gens) high r (suc i) g e = rises_at_most x gens high r.1 i g e

at_generation_later : (e goals : ℕ) (h later : History) (a : Standing) (q : Request) (next : Reply → Execution) (o : Option ℕ)
    → ((g : ℕ) → o ≡ Some g → g ≤ length h)
    → at_generation e goals (h ++ later) a q next o ≡ at_generation e goals h a q next o
at_generation_later e goals h later a q next None within = refl
at_generation_later e goals h later a q next (Some g) within =
    ap (λ w. after_service a next g (serve e q w g)) (state_later goals h later g (within g refl))

advanced_later : (e goals : ℕ) (h later : History) (gens : List ℕ) (a : Standing) (m : Move)
    → AllAtMost gens (length h)
    → advanced e goals (h ++ later) gens a m ≡ advanced e goals h gens a m
advanced_later e goals h later gens a (moves x) within = refl
advanced_later e goals h later gens a (requests q next) within =
    at_generation_later e goals h later a q next (slice_get gens a.asked) (within a.asked)
advanced_later e goals h later gens a (ends how) within = refl

run_within : (e goals : ℕ) (job : Job) (h later : History) (gens : List ℕ) (n : ℕ)
    → AllAtMost gens (length h)
    → run e goals job (h ++ later) gens n ≡ run e goals job h gens n
run_within e goals job h later gens zero within = refl
run_within e goals job h later gens (suc n) within =
    ap (λ a. advanced e goals (h ++ later) gens a (move job a.execution)) (run_within e goals job h later gens n within)
    ∙ advanced_later
    e
    goals
    h
    later
    gens
    (run e goals job h gens n)
    (move job (run e goals job h gens n).execution)
    within

pub run_later : (e goals : ℕ) (job : Job) (h later : History) (gens : List ℕ) (n : ℕ)
    → Rises zero gens (length h)
    → run e goals job (h ++ later) gens n ≡ run e goals job h gens n
run_later e goals job h later gens n rises = run_within e goals job h later gens n (rises_at_most zero gens (length h) rises)
