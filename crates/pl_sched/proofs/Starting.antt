-- The beginning of an engine, by the update that started it.
use Rattle.std.proofs.Common.{◌≡◌, ◌<◌, ℕ, zero, suc, ◌==◌, List, [], ◌∷◌, Bool, true, false, length, Option, Some, None, refl, sym, ap, ◌∙◌, arith, eqb-true}
use Rattle.std.specs.Prelude.{Contains, if◌then◌else◌, slice_index_or}
use Rattle.atomic_table.specs.Seated.{TableId}
use Rattle.pl_term.specs.Tree.{Chars, Tree}
use Rattle.pl_model.specs.History.{Entry, History, Kind, abolish, add_first, add_last, drop_queue, erase, finish, join, make_queue, send, set_dynamic, set_flag, set_op, start}
use Rattle.pl_model.specs.History as entries
use Rattle.run_model.specs.Lawful.{Beginning, beginnings, beginnings_from}
use Rattle.atom_api.specs.Names.{Names}
use Rattle.pl_history.specs.Fronts.{FrontState, own_generations, own_updates}
use Rattle.counted_terms.specs.CountedTerms.{said}
use Rattle.hub_threads.specs.Threads.{first_some, goal_in, started_goal}
use Rattle.pl_hub.specs.Beginning.{HasBegun}
use Rattle.pl_hub.specs.declared.beginning.Begun.{Begun}
use Rattle.pl_sched.specs.Newcomers.{IsNew}

-- an engine that began so is among the beginnings
abbrev pub BeginsIn : ℕ → Tree → List Beginning → Type 0
BeginsIn n t bs = (b : Beginning) × Contains bs b × (b.engine ≡ n) × (b.goal ≡ t)

there : (n : ℕ) (t : Tree) (c : Beginning) (bs : List Beginning) → BeginsIn n t bs → BeginsIn n t (c ∷ bs)
there n t c bs b = (b.0, (suc b.1.0, (let lt = b.1.1 in omega (arith, lt)), b.1.2), b.2, b.3)

some_is : (a b : Tree) → ◌≡◌ {A = Option Tree} (Some a) (Some b) → a ≡ b
some_is a b e = cc

started_by : (n b : ℕ) (u t : Tree) (a : Option Chars) (place : ℕ) (xs : History) (hit : Bool) → (b == n) ≡ hit
    → first_some (if hit then Some u else None) (started_goal n xs) ≡ Some t
    → (started_goal n xs ≡ Some t → BeginsIn n t (beginnings_from (suc place) xs))
    → BeginsIn n t (record { engine = b; goal = u; alias = a; low = suc place } ∷ beginnings_from (suc place) xs)
started_by n b u t a place xs true hit is rest = (record { engine = b; goal = u; alias = a; low = suc place }, (0, omega arith, refl), eqb-true b n hit, some_is u t is)
started_by n b u t a place xs false hit is rest = there n t (record { engine = b; goal = u; alias = a; low = suc place }) (beginnings_from (suc place) xs) (rest is)

by_kind : (n : ℕ) (t : Tree) (place e : ℕ) (k : Kind) (xs : History)
    → first_some (goal_in n k) (started_goal n xs) ≡ Some t
    → (started_goal n xs ≡ Some t → BeginsIn n t (beginnings_from (suc place) xs))
    → BeginsIn n t (beginnings_from place (record { engine = e; kind = k } ∷ xs))
by_kind n t place e (start b u a) xs is rest = started_by n b u t a place xs (b == n) refl is rest
by_kind n t place e (add_first p c o) xs is rest = rest is
by_kind n t place e (add_last p c o) xs is rest = rest is
by_kind n t place e (erase j) xs is rest = rest is
by_kind n t place e (abolish p) xs is rest = rest is
by_kind n t place e (set_dynamic ps) xs is rest = rest is
by_kind n t place e (set_flag f v) xs is rest = rest is
by_kind n t place e (set_op os) xs is rest = rest is
by_kind n t place e (make_queue i a) xs is rest = rest is
by_kind n t place e (drop_queue i) xs is rest = rest is
by_kind n t place e (send i u) xs is rest = rest is
by_kind n t place e (entries.take j) xs is rest = rest is
by_kind n t place e (finish how steps) xs is rest = rest is
by_kind n t place e (join i) xs is rest = rest is

started_from : (n : ℕ) (t : Tree) (place : ℕ) (h : History) → started_goal n h ≡ Some t → BeginsIn n t (beginnings_from place h)
started_from n t place [] is = absurd (cc)
started_from n t place (x ∷ xs) is = by_kind n t place x.engine x.kind xs is (started_from n t (suc place) xs)

-- THE GOAL with which the history started the engine is that of one of its beginnings
pub begins_so : (n : ℕ) (t : Tree) (h : History) → started_goal n h ≡ Some t → BeginsIn n t (beginnings h)
begins_so n t h is = started_from n t zero h is

-- AN ENGINE THAT HAS BEGUN so is a new one
pub new_engine : (table : TableId) (b : Begun) (m : Names) (f g hub new : FrontState) → HasBegun table b m f g hub new → 1 < b.number → IsNew table b.number b.goal m g
new_engine table b m f g hub new begun above =
    let saw : g.seen ≡ hub.seen = ap (λ (x : FrontState). x.seen) begun.front in
    let c = begins_so b.number (said m b.goal) g.seen (ap (started_goal b.number) saw ∙ begun.goal) in
    record {
      own = begun.own;
      above = above;
      nothing = ap (λ (x : FrontState). own_generations x.lives) begun.front;
      silent = ap (λ (x : FrontState). own_updates x.lives) begun.front;
      begun = c.0;
      among = c.1;
      engine = c.2;
      goal_is = c.3;
      named = begun.named;
    }
