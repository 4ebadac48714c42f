-- An engine that runs in a front is not the hub's.
use Rattle.std.proofs.Common.{◌≡◌, ◌≤◌, ℕ, ◌+◌, ◌==◌, List, [], ◌∷◌, ◌++◌, Bool, true, false, refl, ap, arith, eq-eqb}
use Rattle.std.specs.Prelude.{if◌then◌else◌}
use Rattle.pl_model.specs.History.{Entry}
use Rattle.pl_history.specs.Fronts.{Life, gains, own_engine, own_runs, times, with_generation}

none_by : (b : Bool) (x : Entry) (g : ℕ) (l : Life) (ls : List Life) → (if b then 1 else 0) + times x.engine ls ≡ 0
    → (times x.engine ls ≡ 0 → gains x g ls ≡ ls)
    → (if b then record { engine = l.engine; updates = l.updates ++ x.kind ∷ []; generations = with_generation x.kind g l.generations } else l) ∷ gains x g ls ≡ l ∷ ls
none_by true x g l ls none rest = absurd (omega (arith, none))
none_by false x g l ls none rest = ap (λ (k : List Life). l ∷ k) (rest (omega (arith, none)))

-- no list gains by an entry of an engine that is not carried
pub gains_none : (x : Entry) (g : ℕ) (ls : List Life) → times x.engine ls ≡ 0 → gains x g ls ≡ ls
gains_none x g [] none = refl
gains_none x g (l ∷ ls) none = none_by (l.engine == x.engine) x g l ls none (gains_none x g ls)

counted_by : (b : Bool) (n : ℕ) → b ≡ true → 1 ≤ (if b then 1 else 0) + n
counted_by true n is = omega arith
counted_by false n is = absurd (cc)

-- the front's own engine is carried by it
pub times_own : (e : ℕ) (ls : List Life) → own_engine ls ≡ e → own_runs ls ≡ true → 1 ≤ times e ls
times_own e [] own runs = absurd (cc)
times_own e (l ∷ ls) own runs = counted_by (l.engine == e) (times e ls) (eq-eqb l.engine e own)

pub alone : (e : ℕ) (hub front : List Life) → own_engine front ≡ e → own_runs front ≡ true → times e hub + times e front ≤ 1 → times e hub ≡ 0
alone e hub front own runs le = let one = times_own e front own runs in omega (arith, le, one)
