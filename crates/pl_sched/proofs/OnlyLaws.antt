-- Only engines that have begun make entries.
use Rattle.std.proofs.Common.{◌≡◌, ◌⊎◌, inl, inr, ◌<◌, ℕ, zero, suc, List, [], ◌∷◌, ◌++◌, length, Result, Ok, Err, refl, sym, ap, subst, ◌∙◌, arith}
use Rattle.std.proofs.lemmas.List.{map-append}
use Rattle.std.proofs.lemmas.List.Elements.{All-cons, All-contains, All-nil, Contains-append_cases, Contains-append_left}
use Rattle.std.specs.Prelude.{OnErr, OnOk, map}
use Rattle.std.specs.List.{All, Contains}
use Rattle.atomic_table.specs.Seated.{TableId}
use Rattle.atom_words.specs.declared.view.View.{View}
use Rattle.pl_term.specs.Tree.{Tree}
use Rattle.pl_model.specs.declared.ends.How.{How}
use Rattle.pl_model.specs.History.{Entry, History, Kind, finish}
use Rattle.run_model.specs.Execution.{Job}
use Rattle.run_model.specs.Lawful.{Beginning, Program, beginnings, beginnings_from, engine_numbers}
use Rattle.run_model.proofs.BeginningsStay.{beginnings_stay}
use Rattle.pl_history.specs.Fronts.{FrontState}
use Rattle.term_store.specs.declared.argument_key.ArgumentKey.{ArgumentKey}
use Rattle.world_api.specs.declared.answer.Answer.{Answer}
use Rattle.world_api.specs.declared.answer.Answer.TheVariants.{Served, Waits, NeedsAtoms, Retry, Worn, Memory}
use Rattle.world_api.specs.declared.visit.Visit.{Visit}
use Rattle.world_api.specs.declared.visit.Visit.TheVariants as visits
use Rattle.world_api.specs.Told.{Told}
use Rattle.pl_hub.specs.Ending.{IsEnded}
use Rattle.pl_hub.specs.Fronts.{Grows, told_of}
use Rattle.pl_hub.specs.Settling.{entry}
use Rattle.pl_hub.specs.Visits.{IsTold, IsVisit}
use Rattle.run_model.specs.WholeRuns.{IsJob}
use Rattle.pl_sched.specs.Ledger.{AreOnly, IsBegun}

mapped : (bs : List Beginning) (b : Beginning) → Contains bs b → Contains (map (λ (c : Beginning). c.engine) bs) b.engine
mapped [] b (i, lt, is) = absurd (omega (arith, lt))
mapped (c ∷ bs) b (zero, lt, is) = (zero, omega arith, ap (λ (x : Beginning). x.engine) is)
mapped (c ∷ bs) b (suc j, lt, is) =
    let m = mapped bs b (j, omega (arith, lt), is) in
    let low = m.1 in
    (suc m.0, omega (arith, low), m.2)

-- AN ENGINE WITH A JOB has begun
pub job_begun : (p : Program) (e : ℕ) (h : History) (job : Job) (low : ℕ) → IsJob p e h job low → IsBegun h e
job_begun p e h job low (inl main) = (zero, omega arith, sym main.0)
job_begun p e h job low (inr started) = subst (λ (n : ℕ). IsBegun h n) started.2 (among (mapped (beginnings h) started.0 started.1))
  where
    among : Contains (map (λ (c : Beginning). c.engine) (beginnings h)) started.0.engine → IsBegun h started.0.engine
    among k = let low = k.1 in (suc k.0, omega (arith, low), k.2)

-- and has begun whatever entries follow
pub still_begun : (h later : History) (e : ℕ) → IsBegun h e → IsBegun (h ++ later) e
still_begun h later e begun =
    subst (λ (ns : List ℕ). Contains ns e)
    (sym (ap engine_numbers (beginnings_stay h later) ∙ ap (λ (ns : List ℕ). 1 ∷ ns) (map-append (λ (c : Beginning). c.engine) (beginnings h) (beginnings_from (length h) later))))
    (Contains-append_left (engine_numbers (beginnings h)) (map (λ (c : Beginning). c.engine) (beginnings_from (length h) later)) e begun)

-- ENTRIES OF SUCH AN ENGINE
pub only_more : (h later : History) (e : ℕ) → AreOnly h → IsBegun h e → All (λ (x : Entry). x.engine ≡ e) later → AreOnly (h ++ later)
only_more h later e only begun own x among = found (Contains-append_cases h later x among)
  where
    found : Contains h x ⊎ Contains later x → IsBegun (h ++ later) x.engine
    found (inl old) = still_begun h later x.engine (only x old)
    found (inr new) = still_begun h later x.engine (subst (λ (n : ℕ). IsBegun h n) (sym (All-contains (λ (y : Entry). y.engine ≡ e) later x own new)) begun)

-- what a front has seen begins the history
begun_in_all : (h k : History) (later : History) (e : ℕ) → k ≡ h ++ later → IsBegun h e → IsBegun k e
begun_in_all h k later e is begun = subst (λ (l : History). IsBegun l e) (sym is) (still_begun h later e begun)

-- A VISIT of such an engine
pub only_visited : {table : TableId} {goals e : ℕ} {v w : View} {visit : Visit Tree ArgumentKey} (a : Answer Tree) (f g hub new : FrontState) → IsVisit table goals e v w visit a f g hub new
    → AreOnly hub.seen
    → IsBegun f.seen e
    → AreOnly new.seen
only_visited {table} {goals} {e} {v} {w} {visit} (Served r k) f g hub new is only begun =
    subst AreOnly (sym is.carried.grown) (only_more hub.seen is.carried.later e only (begun_in_all f.seen hub.seen is.visited.0.later e is.visited.0.grown begun) is.carried.own)
only_visited {table} {goals} {e} {v} {w} {visit} (Waits on k) f g hub new is only begun =
    subst AreOnly (sym is.carried.grown) (only_more hub.seen is.carried.later e only (begun_in_all f.seen hub.seen is.visited.0.later e is.visited.0.grown begun) is.carried.own)
only_visited {table} {goals} {e} {v} {w} {visit} (NeedsAtoms p) f g hub new is only begun = subst (λ (x : FrontState). AreOnly x.seen) (sym is.history) only
only_visited {table} {goals} {e} {v} {w} {visit} (Retry c) f g hub new is only begun = subst (λ (x : FrontState). AreOnly x.seen) (sym is.history) only
only_visited {table} {goals} {e} {v} {w} {visit} (Worn x) f g hub new is only begun = subst (λ (y : FrontState). AreOnly y.seen) (sym is.history) only
only_visited {table} {goals} {e} {v} {w} {visit} Memory f g hub new is only begun = subst (λ (x : FrontState). AreOnly x.seen) (sym is.history) only

pub begun_after : {table : TableId} {goals e : ℕ} {v w : View} {visit : Visit Tree ArgumentKey} (a : Answer Tree) (f g hub new : FrontState) → IsVisit table goals e v w visit a f g hub new
    → IsBegun f.seen e
    → IsBegun g.seen e
begun_after {table} {goals} {e} {v} {w} {visit} (Served r k) f g hub new is begun =
    subst (λ (l : History). IsBegun l e) is.history (begun_in_all hub.seen new.seen is.carried.later e is.carried.grown (begun_in_all f.seen hub.seen is.visited.0.later e is.visited.0.grown begun))
begun_after {table} {goals} {e} {v} {w} {visit} (Waits on k) f g hub new is begun =
    subst (λ (l : History). IsBegun l e) is.history (begun_in_all hub.seen new.seen is.carried.later e is.carried.grown (begun_in_all f.seen hub.seen is.visited.0.later e is.visited.0.grown begun))
begun_after {table} {goals} {e} {v} {w} {visit} (NeedsAtoms p) f g hub new is begun = subst (λ (t : Told). IsBegun t.history e) (sym is.visited) begun
begun_after {table} {goals} {e} {v} {w} {visit} (Retry c) f g hub new is begun = subst (λ (t : Told). IsBegun t.history e) (sym is.visited) begun
begun_after {table} {goals} {e} {v} {w} {visit} (Worn x) f g hub new is begun = subst (λ (t : Told). IsBegun t.history e) (sym is.visited) begun
begun_after {table} {goals} {e} {v} {w} {visit} Memory f g hub new is begun = subst (λ (t : Told). IsBegun t.history e) (sym is.visited) begun

-- AN END of such an engine
only_ended : (goals e : ℕ) (k : Kind) (f g hub new : FrontState) → IsEnded goals e k f g hub new → AreOnly hub.seen → IsBegun f.seen e → AreOnly new.seen
only_ended goals e k f g hub new ended only begun =
    subst AreOnly (sym (ended.history ∙ ap (λ (t : Told). t.history) ended.told))
    (only_more hub.seen (entry e k ∷ []) e only (begun_in_all f.seen hub.seen ended.follows.later e ended.follows.grown begun)
    (All-cons (λ (x : Entry). x.engine ≡ e) (entry e k) [] refl (All-nil (λ (x : Entry). x.engine ≡ e))))

pub only_or : {A X : Type 0} (r : Result A X) (goals e : ℕ) (how : How Tree) (n : ℕ) (f g hub new : FrontState)
    → OnOk r (IsEnded goals e (finish how n) f g hub new)
    → OnErr r ((g ≡ f) × (new ≡ hub))
    → AreOnly hub.seen
    → IsBegun f.seen e
    → AreOnly new.seen
only_or (Ok x) goals e how n f g hub new ended same only begun = only_ended goals e (finish how n) f g hub new ended only begun
only_or (Err x) goals e how n f g hub new ended same only begun = subst (λ (z : FrontState). AreOnly z.seen) (sym same.1) only
