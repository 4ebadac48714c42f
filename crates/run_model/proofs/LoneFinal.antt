-- Where a lone engine stands at the end of its run.
use Rattle.std.proofs.Common.{◌≡◌, ℕ, zero, suc, List, [], ◌∷◌, ◌++◌, length, Option, Some, None, Bool, true, false, refl, ap, sym, ◌∙◌, arith, subst, inl, inr, append-nil, eqb-true}
use Rattle.std.specs.Prelude.{◌==◌, slice_get, if◌then◌else◌}
use Rattle.std.specs.List.{Contains}
use Rattle.pl_term.specs.Tree.{Tree}
use Rattle.pl_model.specs.declared.ends.AtomRecord.{AtomRecord}
use Rattle.pl_model.specs.declared.ends.How.{How}
use Rattle.pl_model.specs.declared.ends.How.TheVariants.{AtomSpace}
use Rattle.pl_model.specs.History.{Kind, Entry, History, finish, IsPlain, AllPlain}
use Rattle.pl_model.specs.Resolution.{Ending}
use Rattle.run_model.specs.Execution.{Job, Execution, over, move}
use Rattle.run_model.specs.AtomRecords.{IsTrue}
use Rattle.run_model.specs.Lawful.{Beginning, EndsSo, IsRunning, IsDone, Program, Told, WaitsAtEnd, beginnings, engine_numbers, generations_of, main_job, run}
use Rattle.run_model.specs.Progress.{Seen, Reached, WaitsNow, Alone, told_at_end, told_waiting}
use Rattle.run_model.specs.Report.{AreFinal, stood}
use Rattle.run_model.proofs.Progress.{reached_end, reached_state, reached_atoms}
use Rattle.run_model.proofs.LawfulAlone.{begun_none, begun_none_at_end}

-- The request that waits, with the state in which the engine stands then.
pub reached_waits_so : (e goals : ℕ) (job : Job) (low : ℕ) (seen : Seen) (n : ℕ)
    → Reached e goals job low seen n
    → WaitsNow e goals job seen
    → (d : WaitsAtEnd e goals job low seen.history seen.gens)
    × ((run e goals job seen.history seen.gens d.steps).execution ≡ seen.execution)
reached_waits_so e goals job low seen n r w = (
  record {
    steps = n;
    request = w.request;
    next = w.next;
    lawful =
        record {
          rises = r.rises;
          each = r.asked;
          stand = r.stand;
          mine_is = r.mine_is ∙ sym (append-nil _);
        };
    asks = ap (move job) r.execution_is ∙ w.asks_is;
    waits_there = w.served;
  },
  r.execution_is,
)

-- The one end in the history of a lone engine.
steps_in : Kind → ℕ → ℕ
steps_in (finish how n) m = n
steps_in _ m = m

kind_in : Option Entry → Kind → Kind
kind_in None k = k
kind_in (Some x) k = x.kind

pub only_end : (h : History) (k : ℕ) (how other : How Tree) (n m : ℕ) → AllPlain 1 h
    → slice_get (h ++ record { engine = 1; kind = finish how n } ∷ []) k ≡ Some (record { engine = 1; kind = finish other m })
    → m ≡ n
unfolding steps_in kind_in
only_end [] zero how other n m p e = sym (ap (λ (x : Option Entry). steps_in (kind_in x (finish how n)) n) e)
only_end [] (suc k) how other n m p e =
    let no : None ≡ Some (let x : Entry = record { engine = 1; kind = finish other m } in x) = e in absurd (cc)
only_end (x ∷ h) zero how other n m p e =
    let is : x.kind ≡ finish other m = ap (λ (y : Option Entry). kind_in y x.kind) e in absurd (subst IsPlain is p.1)
only_end (x ∷ h) (suc k) how other n m p e = only_end h k how other n m p.2 e

-- The state of the first engine alone.
one_engine : (b : Bool) (e : ℕ) (x y : Execution) → (1 == e) ≡ b → (if b then Some x else None) ≡ Some y → Contains (1 ∷ []) e
one_engine true e x y is f = subst (λ (i : ℕ). Contains (1 ∷ []) i) (eqb-true 1 e is) (0, omega arith, refl)
one_engine false e x y is f = absurd (cc)

lone_final : (p : Program) (told : Told) (x : Execution)
    → beginnings told.history ≡ []
    → ((d : IsDone 1 (length p.words) p.slots (main_job p) zero told.history (generations_of told.generations 1)) × (stood d ≡ x))
    → AreFinal p told ((1, x) ∷ [])
lone_final p told x none d =
    record {
      only =
          λ e y f.
          subst
          (λ (bs : List Beginning). Contains (engine_numbers bs) e)
          (sym none)
          (one_engine (1 == e) e x y refl f);
      main = (d.0, ap Some (sym d.1));
      started =
          λ b c.
          let impossible : Contains (let bs : List Beginning = [] in bs) b =
          subst (λ (bs : List Beginning). Contains bs b) none c
          in absurd (omega (arith, impossible.1));
    }

pub lone_final_end : (p : Program) (seen : Seen) (n : ℕ) (ending : Ending) (how : How Tree)
    → Alone (length p.words) (main_job p) seen n
    → seen.execution.activity ≡ over ending
    → EndsSo ending how
    → AreFinal p (told_at_end seen how n) ((1, seen.execution) ∷ [])
lone_final_end p seen n ending how a is_ended so =
    let later : History = record { engine = 1; kind = finish how n } ∷ []
    in let d = reached_end 1 (length p.words) (main_job p) zero seen n ending how a.reached is_ended so
    in let same : d.steps ≡ n = only_end seen.history d.place how d.how n d.steps a.plain d.entry
    in lone_final
    p
    (told_at_end seen how n)
    seen.execution
    (begun_none_at_end zero seen.history how n a.plain) (
      inl d,
      ap (λ (k : ℕ). (run 1 (length p.words) (main_job p) (seen.history ++ later) seen.gens k).execution) same
          ∙ reached_state 1 (length p.words) (main_job p) zero seen n later a.reached,
    )

pub lone_final_wait : (p : Program) (seen : Seen) (n : ℕ)
    → Alone (length p.words) (main_job p) seen n
    → WaitsNow 1 (length p.words) (main_job p) seen
    → AreFinal p (told_waiting seen) ((1, seen.execution) ∷ [])
lone_final_wait p seen n a w =
    let d = reached_waits_so 1 (length p.words) (main_job p) zero seen n a.reached w
    in lone_final p (told_waiting seen) seen.execution (begun_none zero seen.history a.plain) (inr (inl d.0), d.1)

pub lone_final_atoms : (p : Program) (seen : Seen) (n : ℕ) (found : AtomRecord)
    → Alone (length p.words) (main_job p) seen n
    → IsRunning seen.execution
    → IsTrue p.slots found
    → AreFinal p (told_at_end seen (AtomSpace found) n) ((1, seen.execution) ∷ [])
lone_final_atoms p seen n found a runs true_of =
    let later : History = record { engine = 1; kind = finish (AtomSpace found) n } ∷ []
    in let d = reached_atoms 1 (length p.words) p.slots (main_job p) zero seen n found a.reached runs true_of
    in let same : d.steps ≡ n = only_end seen.history d.place (AtomSpace found) (AtomSpace d.found) n d.steps a.plain d.entry
    in lone_final
    p
    (told_at_end seen (AtomSpace found) n)
    seen.execution
    (begun_none_at_end zero seen.history (AtomSpace found) n a.plain) (
      inr (inr d),
      ap (λ (k : ℕ). (run 1 (length p.words) (main_job p) (seen.history ++ later) seen.gens k).execution) same
          ∙ reached_state 1 (length p.words) (main_job p) zero seen n later a.reached,
    )
