-- In which state an engine stands that has ended or waits: the one to which it had come.
use Rattle.std.proofs.Common.{◌≡◌, ◌≤◌, ◌<◌, ℕ, zero, List, [], ◌∷◌, ◌++◌, length, ap, sym, ◌∙◌, arith, append-nil}
use Rattle.std.proofs.lemmas.Option.{slice_get_within}
use Rattle.pl_term.specs.Tree.{Tree}
use Rattle.pl_model.specs.declared.ends.AtomRecord.{AtomRecord}
use Rattle.pl_model.specs.declared.ends.How.{How}
use Rattle.pl_model.specs.declared.ends.How.TheVariants.{AtomSpace}
use Rattle.pl_model.specs.History.{History, finish, mine}
use Rattle.pl_model.specs.Resolution.{Ending}
use Rattle.run_model.specs.AtomRecords.{IsTrue}
use Rattle.run_model.specs.Execution.{Job, Execution, over}
use Rattle.run_model.specs.Lawful.{EndsSo, IsRunning, RanOutOfAtoms, RanToEnd, Rises, Standing, WaitsAtEnd, run}
use Rattle.run_model.specs.Progress.{Reached, Seen, WaitsNow}
use Rattle.run_model.proofs.EndsStay.{atoms_end_stays, end_stays}
use Rattle.run_model.proofs.LawfulEntries.{rises_higher}
use Rattle.run_model.proofs.LawfulStable.{run_later}
use Rattle.run_model.proofs.Progress.{reached_atoms, reached_end, reached_state, reached_wait}

-- The engine has ended, or found no place for an atom, or waits, and so many steps lead to this state.
abbrev pub EndedAt : ℕ → ℕ → Job → ℕ → History → List ℕ → Execution → Type 0
EndedAt e goals job low h gens x = (r : RanToEnd e goals job low h gens) × ((run e goals job h gens r.steps).execution ≡ x)

abbrev pub OutAt : ℕ → ℕ → ℕ → Job → ℕ → History → List ℕ → Execution → Type 0
OutAt e goals slots job low h gens x = (r : RanOutOfAtoms e goals slots job low h gens) × ((run e goals job h gens r.steps).execution ≡ x)

abbrev pub WaitsAt : ℕ → ℕ → Job → ℕ → History → List ℕ → Execution → Type 0
WaitsAt e goals job low h gens x = (r : WaitsAtEnd e goals job low h gens) × ((run e goals job h gens r.steps).execution ≡ x)

pub ended_at : (e goals : ℕ) (job : Job) (low : ℕ) (seen : Seen) (n : ℕ) (ending : Ending) (how : How Tree)
    → Reached e goals job low seen n
    → seen.execution.activity ≡ over ending
    → EndsSo ending how
    → EndedAt e goals job low (seen.history ++ record { engine = e; kind = finish how n } ∷ []) seen.gens seen.execution
unfolding reached_end
ended_at e goals job low seen n ending how r is so =
    (reached_end e goals job low seen n ending how r is so, reached_state e goals job low seen n (record { engine = e; kind = finish how n } ∷ []) r)

pub out_at : (e goals slots : ℕ) (job : Job) (low : ℕ) (seen : Seen) (n : ℕ) (found : AtomRecord)
    → Reached e goals job low seen n
    → IsRunning seen.execution
    → IsTrue slots found
    → OutAt e goals slots job low (seen.history ++ record { engine = e; kind = finish (AtomSpace found) n } ∷ []) seen.gens seen.execution
unfolding reached_atoms
out_at e goals slots job low seen n found r runs true_of =
    (reached_atoms e goals slots job low seen n found r runs true_of, reached_state e goals job low seen n (record { engine = e; kind = finish (AtomSpace found) n } ∷ []) r)

pub waits_at : (e goals : ℕ) (job : Job) (low : ℕ) (seen : Seen) (n : ℕ)
    → Reached e goals job low seen n
    → WaitsNow e goals job seen
    → WaitsAt e goals job low seen.history seen.gens seen.execution
unfolding reached_wait
waits_at e goals job low seen n r w =
    (reached_wait e goals job low seen n r w, ap (λ (h : History). (run e goals job h seen.gens n).execution) (sym (append-nil seen.history)) ∙ reached_state e goals job low seen n [] r)

-- It stays so when others have made entries.
rises_zero : (low : ℕ) (gens : List ℕ) (high top : ℕ) → Rises low gens high → high ≤ top → Rises zero gens top
rises_zero low [] high top r le = omega arith
rises_zero low (g ∷ gens) high top r le = let first : zero ≤ g = omega arith in (first, rises_higher g gens high top r.1 le)

same_run : (e goals : ℕ) (job : Job) (low : ℕ) (h later : History) (gens : List ℕ) (n high : ℕ) (x : Execution) → Rises low gens high → high ≤ length h
    → (run e goals job h gens n).execution ≡ x
    → (run e goals job (h ++ later) gens n).execution ≡ x
same_run e goals job low h later gens n high x rises within is =
    ap (λ (a : Standing). a.execution) (run_later e goals job h later gens n (rises_zero low gens high (length h) rises within)) ∙ is

pub ended_still : (e goals : ℕ) (job : Job) (low : ℕ) (h later : History) (gens : List ℕ) (x : Execution) → mine later e ≡ []
    → EndedAt e goals job low h gens x
    → EndedAt e goals job low (h ++ later) gens x
unfolding end_stays
ended_still e goals job low h later gens x others d =
    let r = d.0 in
    let within : r.place < length h = slice_get_within h r.place _ r.entry in
    (end_stays e goals job low h later gens others r, same_run e goals job low h later gens r.steps r.place x r.lawful.rises (omega (arith, within)) d.1)

pub out_still : (e goals slots : ℕ) (job : Job) (low : ℕ) (h later : History) (gens : List ℕ) (x : Execution) → mine later e ≡ []
    → OutAt e goals slots job low h gens x
    → OutAt e goals slots job low (h ++ later) gens x
unfolding atoms_end_stays
out_still e goals slots job low h later gens x others d =
    let r = d.0 in
    let within : r.place < length h = slice_get_within h r.place _ r.entry in
    (atoms_end_stays e goals slots job low h later gens others r, same_run e goals job low h later gens r.steps r.place x r.lawful.rises (omega (arith, within)) d.1)
