-- Engines that fronts carry, and what is told of them as the history grows.
use Rattle.std.proofs.Common.{◌≡◌, ℕ, ◌+◌, ◌<◌, ◌≢◌, ◌==◌, List, [], ◌∷◌, ◌++◌, Bool, true, false, ◌||◌, refl, ap, sym, ◌∙◌, arith, eq-eqb, ne_eqb, eqb-true, append-nil, append_assoc, zero-add, length, ◌&&◌, not, Option}
use Rattle.std.specs.Prelude.{if◌then◌else◌}
use mathlib.Core.List.{IsPrefix}
use Rattle.pl_term.specs.Tree.{Chars, Tree}
use Rattle.pl_model.specs.History.{Kind, Entry, History, start, begins, has_begun, mine, is_end}
use Rattle.pl_history.specs.Fronts.{Life, times, life_gains, gains, begun_by, with_generation, visited, picked, without, IsTold, AllTold, runs_in, has_end, own_engine, own_runs, own_updates}
use Rattle.pl_history.specs.Laws.{one_if}
use Rattle.pl_history.proofs.Timing.{told_beside, told_appended, told_seen, told_new}

-- How often an engine is carried

pub times-append : (e : ℕ) (xs ys : List Life) → times e (xs ++ ys) ≡ times e xs + times e ys
times-append e [] ys = sym (zero-add (times e ys))
times-append e (l ∷ xs) ys = omega (arith, times-append e xs ys)

life_by : (b : Bool) (m l : Life) → m.engine ≡ l.engine → (if b then m else l).engine ≡ l.engine
life_by true m l e = e
life_by false m l e = refl

pub engine-life_gains : (x : Entry) (g : ℕ) (l : Life) → (life_gains x g l).engine ≡ l.engine
engine-life_gains x g l = life_by (l.engine == x.engine) _ l refl

pub times-gains : (e : ℕ) (x : Entry) (g : ℕ) (ls : List Life) → times e (gains x g ls) ≡ times e ls
times-gains e x g [] = refl
times-gains e x g (l ∷ ls) =
    ap (λ n. (if n == e then 1 else 0) + times e (gains x g ls)) (engine-life_gains x g l)
    ∙ ap (λ n. (if l.engine == e then 1 else 0) + n) (times-gains e x g ls)

pub times-visited : (e g : ℕ) (ls : List Life) → times e (visited g ls) ≡ times e ls
times-visited e g [] = refl
times-visited e g (l ∷ ls) = refl

pub times-begun_by : (e : ℕ) (k : Kind) → times e (begun_by k) ≡ one_if (begins e k)
times-begun_by e (start n goal alias) = omega arith
times-begun_by e _ = refl

pick_by : (b : Bool) (d e : ℕ) (l : Life) (ls : List Life)
    → times d (picked e ls) + times d (without e ls) ≡ times d ls
    → times d (if b then l ∷ [] else picked e ls) + times d (if b then ls else l ∷ without e ls) ≡ times d (l ∷ ls)
pick_by true d e l ls h = omega arith
pick_by false d e l ls h = omega (arith, h)

pub times-picked : (d e : ℕ) (ls : List Life) → times d (picked e ls) + times d (without e ls) ≡ times d ls
times-picked d e [] = refl
times-picked d e (l ∷ ls) = pick_by (l.engine == e) d e l ls (times-picked d e ls)

pub other_engine : (a e n : ℕ) → (if a == e then 1 else 0) + n ≡ 0 → a ≢ e
other_engine a e n none same =
    let one : one_if (a == e) ≡ one_if true = ap one_if (eq-eqb a e same) in absurd (omega (arith, one, none))

-- The history, filtered by an engine

add_by : (b : Bool) (k : Kind) (ms : List Kind) → b ≡ true → (if b then k ∷ [] else []) ≡ k ∷ []
add_by b k ms e = ap (λ c. if c then k ∷ [] else []) e

mine_seam : (b : Bool) (k : Kind) (ms ns : List Kind) → (if b then k ∷ (ms ++ ns) else ms ++ ns) ≡ (if b then k ∷ ms else ms) ++ ns
mine_seam true k ms ns = refl
mine_seam false k ms ns = refl

pub mine_snoc : (h : History) (x : Entry) (e : ℕ) → mine (h ++ x ∷ []) e ≡ mine h e ++ (if x.engine == e then x.kind ∷ [] else [])
mine_snoc [] x e = refl
mine_snoc (y ∷ h) x e =
    ap (λ ks. if y.engine == e then y.kind ∷ ks else ks) (mine_snoc h x e)
    ∙ mine_seam (y.engine == e) y.kind (mine h e) _

pub mine_own : (h : History) (x : Entry) (e : ℕ) → x.engine ≡ e → mine (h ++ x ∷ []) e ≡ mine h e ++ x.kind ∷ []
mine_own h x e same = mine_snoc h x e ∙ ap (λ b. mine h e ++ (if b then x.kind ∷ [] else [])) (eq-eqb x.engine e same)

pub mine_else : (h : History) (x : Entry) (e : ℕ) → x.engine ≢ e → mine (h ++ x ∷ []) e ≡ mine h e
mine_else h x e other =
    mine_snoc h x e ∙ ap (λ b. mine h e ++ (if b then x.kind ∷ [] else [])) (ne_eqb x.engine e other) ∙ append-nil (mine h e)

-- What is told of the engines

pub told-append : (h : History) (xs ys : List Life) → AllTold h xs → AllTold h ys → AllTold h (xs ++ ys)
told-append h [] ys s t = t
told-append h (l ∷ xs) ys s t = (s.0, told-append h xs ys s.1 t)

pub told_else : (h : History) (x : Entry) (ls : List Life) → times x.engine ls ≡ 0 → AllTold h ls → AllTold (h ++ x ∷ []) ls
told_else h x [] none t = tt
told_else h x (l ∷ ls) none t =
    let other : l.engine ≢ x.engine = other_engine l.engine x.engine (times x.engine ls) none in
    let rest : times x.engine ls ≡ 0 = omega (arith, none) in (
      told_beside h x l (λ e. other (sym e)) (t.0.updates ∙ sym (mine_else h x l.engine (λ e. other (sym e)))) t.0,
      told_else h x ls rest t.1,
    )

other_by : (a b : ℕ) → (a == b) ≡ false → b ≢ a
other_by a b is e = let same : (a == b) ≡ true = eq-eqb a b (sym e) in absurd (cc)

life_told : (b : Bool) (h : History) (x : Entry) (g : ℕ) (l : Life)
    → (l.engine == x.engine) ≡ b
    → g ≡ length h
    → IsTold h l
    → IsTold (h ++ x ∷ []) (if b then record { engine = l.engine; updates = l.updates ++ x.kind ∷ []; generations = with_generation x.kind g l.generations } else l)
life_told true h x g l is at t =
    told_appended h x g l at (ap (λ ks. ks ++ x.kind ∷ []) t.updates ∙ sym (mine_own h x l.engine (sym (eqb-true l.engine x.engine is)))) t
life_told false h x g l is at t =
    let other : x.engine ≢ l.engine = other_by l.engine x.engine is in
    told_beside h x l other (t.updates ∙ sym (mine_else h x l.engine other)) t

pub told_gains : (h : History) (x : Entry) (g : ℕ) (ls : List Life) → g ≡ length h → AllTold h ls → AllTold (h ++ x ∷ []) (gains x g ls)
told_gains h x g [] at t = tt
told_gains h x g (l ∷ ls) at t = (life_told (l.engine == x.engine) h x g l refl at t.0, told_gains h x g ls at t.1)

pub told_visited : (h : History) (g : ℕ) (ls : List Life) → g ≡ length h → AllTold h ls → AllTold h (visited g ls)
told_visited h g [] at t = tt
told_visited h g (l ∷ ls) at t = (told_seen h g l at t.0, t.1)

pub told_begun : (h : History) (k : Kind) → ((e : ℕ) → begins e k ≡ true → [] ≡ mine h e) → AllTold h (begun_by k)
told_begun h (start n goal alias) none = (told_new h n (none n (eq-eqb n n refl)), tt)
told_begun h _ none = tt

picked_told : (b : Bool) (h : History) (e : ℕ) (l : Life) (ls : List Life) → AllTold h (picked e ls) → IsTold h l → AllTold h (if b then l ∷ [] else picked e ls)
picked_told true h e l ls s t = (t, tt)
picked_told false h e l ls s t = s

pub told_picked : (h : History) (e : ℕ) (ls : List Life) → AllTold h ls → AllTold h (picked e ls)
told_picked h e [] t = tt
told_picked h e (l ∷ ls) t = picked_told (l.engine == e) h e l ls (told_picked h e ls t.1) t.0

without_told : (b : Bool) (h : History) (e : ℕ) (l : Life) (ls : List Life) → AllTold h (without e ls) → AllTold h (l ∷ ls) → AllTold h (if b then ls else l ∷ without e ls)
without_told true h e l ls s t = t.1
without_told false h e l ls s t = (t.0, s)

pub told_without : (h : History) (e : ℕ) (ls : List Life) → AllTold h ls → AllTold h (without e ls)
told_without h e [] t = tt
told_without h e (l ∷ ls) t = without_told (l.engine == e) h e l ls (told_without h e ls t.1) t

-- The engine that is picked is the engine's, and one.

one_by : (b : Bool) (e : ℕ) (l : Life) (ls : List Life)
    → (l.engine == e) ≡ b
    → 0 < (if b then 1 else 0) + times e ls
    → (0 < times e ls → (m : Life) × (picked e ls ≡ m ∷ []) × (m.engine ≡ e))
    → (m : Life) × ((if b then l ∷ [] else picked e ls) ≡ m ∷ []) × (m.engine ≡ e)
one_by true e l ls is some_one rest = (l, refl, eqb-true l.engine e is)
one_by false e l ls is some_one rest = rest (omega (arith, some_one))

pub picked_one : (e : ℕ) (ls : List Life) → 0 < times e ls → (m : Life) × (picked e ls ≡ m ∷ []) × (m.engine ≡ e)
picked_one e [] h = absurd (omega arith)
picked_one e (l ∷ ls) h = one_by (l.engine == e) e l ls refl h (picked_one e ls)

-- Engines that have begun

or_turn : (a b : Bool) → (a || b) ≡ (b || a)
or_turn true true = refl
or_turn true false = refl
or_turn false true = refl
or_turn false false = refl

or_three : (a b c : Bool) → (a || (b || c)) ≡ ((a || b) || c)
or_three true b c = refl
or_three false b c = refl

pub begun_snoc : (h : History) (x : Entry) (e : ℕ) → has_begun (h ++ x ∷ []) e ≡ (has_begun h e || begins e x.kind)
begun_snoc [] x e = or_turn (begins e x.kind) (e == 1)
begun_snoc (y ∷ h) x e = ap (λ b. begins e y.kind || b) (begun_snoc h x e) ∙ or_three (begins e y.kind) (has_begun h e) (begins e x.kind)

one_of : (a b : Bool) → (b ≡ true → a ≡ false) → one_if (a || b) ≡ one_if a + one_if b
one_of true true apart = absurd (let e = apart refl in cc)
one_of true false apart = refl
one_of false true apart = refl
one_of false false apart = refl

pub one_begun : (h : History) (x : Entry) (e : ℕ)
    → (begins e x.kind ≡ true → has_begun h e ≡ false)
    → one_if (has_begun (h ++ x ∷ []) e) ≡ one_if (has_begun h e) + one_if (begins e x.kind)
one_begun h x e apart = ap one_if (begun_snoc h x e) ∙ one_of (has_begun h e) (begins e x.kind) apart

or_none : (a b : Bool) → (a || b) ≡ false → a ≡ false
or_none true b e = e
or_none false b e = refl

pub begun_before : (h : History) (x : Entry) (e : ℕ) → has_begun (h ++ x ∷ []) e ≡ false → has_begun h e ≡ false
begun_before h x e none = or_none (has_begun h e) (begins e x.kind) (sym (begun_snoc h x e) ∙ none)

-- Beginnings

pub prefix_more : (xs h ys : History) → IsPrefix xs h → IsPrefix xs (h ++ ys)
prefix_more xs h ys p = (p.0 ++ ys, sym (append_assoc xs p.0 ys) ∙ ap (λ zs. zs ++ ys) p.1)

pub prefix_all : (xs h : History) → xs ≡ h → IsPrefix xs h
prefix_all xs h e = ([], append-nil xs ∙ e)

-- An engine that runs here is carried here.

and_left : (b c : Bool) → (b && c) ≡ true → b ≡ true
and_left true c e = refl
and_left false c e = absurd (cc)

carried_by : (b c d : Bool) (n : ℕ) → ((b && c) || d) ≡ true → (d ≡ true → 0 < n) → 0 < (if b then 1 else 0) + n
carried_by true c d n e rest = omega arith
carried_by false c d n e rest = omega (arith, rest e)

pub runs_carried : (e : ℕ) (ls : List Life) → runs_in e ls ≡ true → 0 < times e ls
runs_carried e [] is = absurd (cc)
runs_carried e (l ∷ ls) is = carried_by (l.engine == e) (not (has_end l.updates)) (runs_in e ls) (times e ls) is (runs_carried e ls)

one_carried : (b c : Bool) (m n : ℕ) → (b || c) ≡ true → (b ≡ true → 0 < m) → (c ≡ true → 0 < n) → 0 < m + n
one_carried true c m n e f g = omega (arith, f refl)
one_carried false c m n e f g = omega (arith, g e)

pub runs_one : (e : ℕ) (hub front : List Life) → (runs_in e hub || runs_in e front) ≡ true → 0 < times e hub + times e front
runs_one e hub front is =
    one_carried (runs_in e hub) (runs_in e front) (times e hub) (times e front) is (runs_carried e hub) (runs_carried e front)

-- A front's own engine, as its lists gain.

own_by : (b : Bool) (e : ℕ) (l : Life) (ls : List Life) → (l.engine == e) ≡ b → l.engine ≡ e → not (has_end l.updates) ≡ true
    → (((l.engine == e) && not (has_end l.updates)) || runs_in e ls) ≡ true
own_by b e l ls is same runs =
    let t : (l.engine == e) ≡ true = eq-eqb l.engine e same in
    ap (λ c. (c && not (has_end l.updates)) || runs_in e ls) t ∙ ap (λ c. c || runs_in e ls) runs

pub own_runs_in : (e : ℕ) (ls : List Life) → own_engine ls ≡ e → own_runs ls ≡ true → runs_in e ls ≡ true
own_runs_in e [] same runs = absurd (cc)
own_runs_in e (l ∷ ls) same runs = own_by (l.engine == e) e l ls refl same runs

pub or_right : (b c : Bool) → c ≡ true → (b || c) ≡ true
or_right true c e = refl
or_right false c e = e

-- An update that is no end and begins nothing.

no_end_more : (ks : List Kind) (k : Kind) → is_end k ≡ false → has_end (ks ++ k ∷ []) ≡ has_end ks
no_end_more [] k e = ap (λ b. b || false) e
no_end_more (j ∷ ks) k e = ap (λ b. is_end j || b) (no_end_more ks k e)

life_runs : (b : Bool) (x : Entry) (g : ℕ) (l : Life) → is_end x.kind ≡ false
    → not (has_end (if b then record { engine = l.engine; updates = l.updates ++ x.kind ∷ []; generations = with_generation x.kind g l.generations } else l).updates) ≡ not (has_end l.updates)
life_runs true x g l e = ap not (no_end_more l.updates x.kind e)
life_runs false x g l e = refl

pub own_runs_on : (x : Entry) (g : ℕ) (ls : List Life) → is_end x.kind ≡ false → own_runs (gains x g ls) ≡ own_runs ls
own_runs_on x g [] e = refl
own_runs_on x g (l ∷ ls) e = life_runs (l.engine == x.engine) x g l e

pub own_engine-gains : (x : Entry) (g : ℕ) (ls : List Life) → own_engine (gains x g ls) ≡ own_engine ls
own_engine-gains x g [] = refl
own_engine-gains x g (l ∷ ls) = engine-life_gains x g l

pub own_updates-gains : (x : Entry) (g : ℕ) (ls : List Life) → own_engine ls ≡ x.engine → own_runs ls ≡ true → own_updates (gains x g ls) ≡ own_updates ls ++ x.kind ∷ []
own_updates-gains x g [] same runs = absurd (cc)
own_updates-gains x g (l ∷ ls) same runs =
    ap (λ b. (if b then record { engine = l.engine; updates = l.updates ++ x.kind ∷ []; generations = with_generation x.kind g l.generations } else l).updates) (eq-eqb l.engine x.engine same)

pub told_own : (h : History) (ls : List Life) → AllTold h ls → own_runs ls ≡ true → own_updates ls ≡ mine h (own_engine ls)
told_own h [] told runs = absurd (cc)
told_own h (l ∷ ls) told runs = told.0.updates

-- An engine that has just begun is handed over.

pub begun_alone : (x : Entry) (g n : ℕ) (t : Tree) (a : Option Chars) (ls : List Life) → ls ≡ [] → gains x g ls ++ begun_by (start n t a) ≡ record { engine = n; updates = []; generations = [] } ∷ []
begun_alone x g n t a ls e = ap (λ ms. gains x g ms ++ begun_by (start n t a)) e

pub without_begun : (n : ℕ) (ls : List Life) → ls ≡ record { engine = n; updates = []; generations = [] } ∷ [] → without n ls ≡ []
without_begun n ls e =
    let one : Life = record { engine = n; updates = []; generations = [] } in
    ap (without n) e ∙ ap (λ b. if b then [] else one ∷ []) (eq-eqb n n refl)

pub picked_begun : (n : ℕ) (ls : List Life) → ls ≡ record { engine = n; updates = []; generations = [] } ∷ [] → picked n ls ≡ record { engine = n; updates = []; generations = [] } ∷ []
picked_begun n ls e =
    let one : Life = record { engine = n; updates = []; generations = [] } in
    ap (picked n) e ∙ ap (λ b. if b then one ∷ [] else []) (eq-eqb n n refl)

pub times_begun : (n : ℕ) (ls : List Life) → ls ≡ record { engine = n; updates = []; generations = [] } ∷ [] → 0 < times n ls
times_begun n ls e =
    let one : Life = record { engine = n; updates = []; generations = [] } in
    let is : times n ls ≡ one_if true + 0 = ap (times n) e ∙ ap (λ b. one_if b + 0) (eq-eqb n n refl) in omega (arith, is)

pub not_begun_yet : (h : History) (x : Entry) (e : ℕ) → has_begun h e ≡ false → begins e x.kind ≡ false → has_begun (h ++ x ∷ []) e ≡ false
not_begun_yet h x e before other = begun_snoc h x e ∙ ap (λ b. b || begins e x.kind) before ∙ other
