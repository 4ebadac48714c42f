-- What is shown of a worked history, part by part.
use Rattle.std.proofs.Common.{◌≡◌, ◌<◌, ◌++◌, ℕ, zero, suc, List, [], ◌∷◌, length, map, Option, Some, Bool, true, false, refl, ap, sym, ◌∙◌, arith, subst, get_or, inl, inr}
use Rattle.std.specs.Prelude.{◌==◌, if◌then◌else◌}
use Rattle.std.specs.List.{slice_get, Contains}
use Rattle.std.proofs.lemmas.Bool.{eqb-true}
use Rattle.pl_term.specs.Tree.{Tree}
use Rattle.pl_model.specs.declared.ends.How.{How}
use Rattle.pl_model.specs.History.{Entry, History, finish, mine}
use Rattle.pl_model.specs.SharedState.{state_at}
use Rattle.pl_model.specs.Requests.{Request, Reply}
use Rattle.pl_model.specs.Service.{waits, serve}
use Rattle.pl_model.specs.Resolution.{Ending}
use Rattle.run_model.specs.Execution.{Job, Activity, Execution, over, Move, moves, requests, ends, move}
use Rattle.run_model.specs.Lawful.{Standing, run, Rises, AllStand, EndsSo, RanToEnd, IsDone}
use Rattle.run_model.specs.Report.{stood, Finals, final_of}
use Rattle.model_rows.proofs.Following.{not_before}

abbrev pub is_over : Activity → Bool
is_over (over x) = true
is_over _ = false

not_over : (a : Activity) (x : Ending) → is_over a ≡ false → a ≡ over x → ⊥
not_over a x running e = let is : false ≡ true = sym running ∙ ap is_over e in absurd (cc)

-- The last move ends the engine, and the move before it did not.
abbrev ends_there : (e goals : ℕ) (job : Job) (low : ℕ) (h : History) (gens : List ℕ) (n place : ℕ) (how : How Tree) (ending : Ending) (a : Standing)
    → run e goals job h gens (suc n) ≡ a
    → is_over (run e goals job h gens n).execution.activity ≡ false
    → slice_get h place ≡ Some (record { engine = e; kind = finish how (suc n) })
    → Rises low gens place
    → a.asked ≡ length gens
    → AllStand e h gens a.made
    → mine h e ≡ map (λ m. m.kind) a.made ++ finish how (suc n) ∷ []
    → a.execution.activity ≡ over ending
    → EndsSo ending how
    → RanToEnd e goals job low h gens
ends_there e goals job low h gens n place how ending a is running entry rises asked stand own ended so =
    record {
      steps = suc n;
      how = how;
      ending = ending;
      place = place;
      entry = entry;
      lawful =
          record {
            rises = rises;
            each = ap (λ b. b.asked) is ∙ asked;
            stand = subst (λ (b : Standing). AllStand e h gens b.made) (sym is) stand;
            mine_is = own ∙ ap (λ b. map (λ m. m.kind) b.made ++ finish how (suc n) ∷ []) (sym is);
          };
      ended = ap (λ b. b.execution.activity) is ∙ ended;
      ends_so = so;
      first =
          λ k below x f.
          not_before
          e
          goals
          job
          h
          gens
          n
          k
          (λ y. not_over (run e goals job h gens n).execution.activity y running)
          (omega (arith, below))
          x
          f;
    }

pub done_there : (e goals slots : ℕ) (job : Job) (low : ℕ) (h : History) (gens : List ℕ) (n place : ℕ) (how : How Tree) (ending : Ending) (a : Standing)
    → run e goals job h gens (suc n) ≡ a
    → is_over (run e goals job h gens n).execution.activity ≡ false
    → slice_get h place ≡ Some (record { engine = e; kind = finish how (suc n) })
    → Rises low gens place
    → a.asked ≡ length gens
    → AllStand e h gens a.made
    → mine h e ≡ map (λ m. m.kind) a.made ++ finish how (suc n) ∷ []
    → a.execution.activity ≡ over ending
    → EndsSo ending how
    → (d : IsDone e goals slots job low h gens) × (Some a.execution ≡ Some (stood d))
done_there e goals slots job low h gens n place how ending a is running entry rises asked stand own ended so = (
  inl (ends_there e goals job low h gens n place how ending a is running entry rises asked stand own ended so),
  ap (λ b. Some b.execution) (sym is),
)

-- The next request waits.
pub waits_there : (e goals slots : ℕ) (job : Job) (low : ℕ) (h : History) (gens : List ℕ) (n : ℕ) (q : Request) (next : Reply → Execution) (a : Standing)
    → run e goals job h gens n ≡ a
    → Rises low gens (length h)
    → a.asked ≡ length gens
    → AllStand e h gens a.made
    → mine h e ≡ map (λ m. m.kind) a.made ++ []
    → move job a.execution ≡ requests q next
    → serve e q (state_at goals h (length h)) (length h) ≡ waits
    → (d : IsDone e goals slots job low h gens) × (Some a.execution ≡ Some (stood d))
waits_there e goals slots job low h gens n q next a is rises asked stand own asks waits_is = (
  inr
      (inl
      (record {
        steps = n;
        request = q;
        next = next;
        lawful =
            record {
              rises = rises;
              each = ap (λ b. b.asked) is ∙ asked;
              stand = subst (λ (b : Standing). AllStand e h gens b.made) (sym is) stand;
              mine_is = own ∙ ap (λ b. map (λ m. m.kind) b.made ++ []) (sym is);
            };
        asks = ap (λ b. move job b.execution) is ∙ asks;
        waits_there = waits_is;
      })),
  ap (λ b. Some b.execution) (sym is),
)

-- What a move leads to by a reply, where it is a request.
abbrev pub by_reply : Execution → Move → Reply → Execution
by_reply x (requests q next) r = next r
by_reply x (moves y) r = y
by_reply x (ends how) r = x

-- Each entry is made by one of these engines.
abbrev pub AllBy : List ℕ → History → Type 0
AllBy es [] = Unit {0}
AllBy es (x ∷ xs) = Contains es x.engine × AllBy es xs

by_one : (es : List ℕ) (h : History) (k : ℕ) (x : Entry) → AllBy es h → k < length h → get_or h k x ≡ x → Contains es x.engine
by_one es [] k x all below e = absurd (omega (arith, below))
by_one es (y ∷ h) zero x all below e = subst (λ (z : Entry). Contains es z.engine) e all.0
by_one es (y ∷ h) (suc k) x all below e = by_one es h k x all.1 (omega (arith, below)) e

pub made_by_these : (es : List ℕ) (h : History) (x : Entry) → AllBy es h → Contains h x → Contains es x.engine
made_by_these es h x all c = by_one es h c.0 x all c.1 c.2

-- The only member of a list of one.
pub only_member : {X : Type 0} (x y : X) → Contains (x ∷ []) y → x ≡ y
only_member x y (zero, below, e) = e
only_member x y (suc k, below, e) = absurd (omega (arith, below))

-- The engines whose states at the end are told.
named_by : (b : Bool) (n e : ℕ) (y x : Execution) (o : Option Execution) (ns : List ℕ)
    → (n == e) ≡ b
    → (o ≡ Some x → Contains ns e)
    → (if b then Some y else o) ≡ Some x
    → Contains (n ∷ ns) e
named_by true n e y x o ns same next f = (0, omega arith, eqb-true n e same)
named_by false n e y x o ns same next f = let c : Contains ns e = next f in (suc c.0, omega (arith, c.1), c.2)

pub final_is_named : (fs : Finals) (e : ℕ) (x : Execution) → final_of fs e ≡ Some x → Contains (map (λ (p : ℕ × Execution). p.0) fs) e
final_is_named [] e x f = absurd (cc)
final_is_named (p ∷ fs) e x f =
    named_by (p.0 == e) p.0 e p.1 x (final_of fs e) (map (λ (p : ℕ × Execution). p.0) fs) refl (final_is_named fs e x) f
