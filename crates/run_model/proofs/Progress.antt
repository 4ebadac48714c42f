-- What an engine has reached stays so move by move, and is lawful at its end and where it waits.
use Rattle.std.proofs.Common.{◌≡◌, ◌≤◌, ◌<◌, ℕ, zero, suc, List, [], ◌∷◌, ◌++◌, length, map, Option, Some, refl, ap, sym, ◌∙◌, arith, subst, length-append, append-nil, append_assoc, ◌⊎◌, inl, inr}
use Rattle.std.specs.List.{slice_get}
use Rattle.std.proofs.Math.Nat.{eq-or-lt_of_le}
use Rattle.pl_term.specs.Tree.{Tree}
use Rattle.pl_model.specs.declared.ends.AtomRecord.{AtomRecord}
use Rattle.pl_model.specs.declared.ends.How.{How}
use Rattle.pl_model.specs.declared.ends.How.TheVariants.{AtomSpace}
use Rattle.pl_model.specs.History.{Kind, History, finish, mine}
use Rattle.pl_model.specs.Requests.{Request, Reply}
use Rattle.pl_model.specs.Service.{answers, serve, entry_by, served_now}
use Rattle.pl_model.specs.Resolution.{Ending}
use Rattle.run_model.specs.AtomRecords.{IsTrue}
use Rattle.run_model.specs.Execution.{Job, Execution, over, moves, requests, ends, at_start, move, move_by}
use Rattle.run_model.specs.Lawful.{Standing, Rises, made_by, after_service, at_generation, advanced, run, AllStand, IsLawful, EndsSo, RanToEnd, WaitsAtEnd, IsRunning, RanOutOfAtoms}
use Rattle.run_model.specs.Progress.{Seen, Reached, standing_at, MovesTo, AsksTo, WaitsNow}
use Rattle.pl_model.proofs.StateLater.{state_later}
use Rattle.run_model.proofs.LawfulEntries.{slice_get_seam, mine-append, mine-entry_by, mine-more, rises_more, rises_higher, stand_entries, stand_more}

-- An engine that has ended makes no move.
ended_stops : (job : Job) (s : Execution) (x : Ending) → s.activity ≡ over x → move job s ≡ ends x
unfolding move
ended_stops job s x e = ap (move_by job s) e

goes_runs : (job : Job) (s t : Execution) (x : Ending) → move job s ≡ moves t → s.activity ≡ over x → ⊥
goes_runs job s t x moves_is e = let stop : move job s ≡ ends x = ended_stops job s x e in absurd (cc)

asks_runs : (job : Job) (s : Execution) (q : Request) (next : Reply → Execution) (x : Ending)
    → move job s ≡ requests q next
    → s.activity ≡ over x
    → ⊥
asks_runs job s q next x asks_is e = let stop : move job s ≡ ends x = ended_stops job s x e in absurd (cc)

-- A run that stands so, whatever entries and generations follow.
record ReachedAs (e goals : ℕ) (job : Job) (low : ℕ) (seen : Seen) (n : ℕ) : Type 0 where
  pub at : Standing
  pub reaches : (later : History) (more : List ℕ) → run e goals job (seen.history ++ later) (seen.gens ++ more) n ≡ at
  pub execution_is : at.execution ≡ seen.execution
  pub asked : at.asked ≡ length seen.gens
  pub rises : Rises low seen.gens (length seen.history)
  pub stand : AllStand e seen.history seen.gens at.made
  pub mine_is : mine seen.history e ≡ map (λ m. m.kind) at.made
  pub goes_on :
      (later : History) (more : List ℕ) (k : ℕ)
      → k < n
      → (x : Ending)
      → (run e goals job (seen.history ++ later) (seen.gens ++ more) k).execution.activity ≡ over x
      → ⊥

stands_now : (e goals : ℕ) (job : Job) (low : ℕ) (seen : Seen) (n : ℕ)
    → (r : ReachedAs e goals job low seen n)
    → standing_at e goals job seen n ≡ r.at
stands_now e goals job low seen n r =
    ap (λ h. run e goals job h seen.gens n) (sym (append-nil seen.history))
    ∙ ap (λ gs. run e goals job (seen.history ++ []) gs n) (sym (append-nil seen.gens))
    ∙ r.reaches [] []

reached_of : (e goals : ℕ) (job : Job) (low : ℕ) (seen : Seen) (n : ℕ)
    → ReachedAs e goals job low seen n
    → Reached e goals job low seen n
reached_of e goals job low seen n r =
    let is : standing_at e goals job seen n ≡ r.at = stands_now e goals job low seen n r
    in record {
      reaches = λ later more. r.reaches later more ∙ sym is;
      execution_is = ap (λ a. a.execution) is ∙ r.execution_is;
      asked = ap (λ a. a.asked) is ∙ r.asked;
      rises = r.rises;
      stand = subst (λ (a : Standing). AllStand e seen.history seen.gens a.made) (sym is) r.stand;
      mine_is = r.mine_is ∙ ap (λ (a : Standing). map (λ m. m.kind) a.made) (sym is);
      goes_on = r.goes_on;
    }

parts_of : (e goals : ℕ) (job : Job) (low : ℕ) (seen : Seen) (n : ℕ)
    → Reached e goals job low seen n
    → ReachedAs e goals job low seen n
parts_of e goals job low seen n r =
    record {
      at = standing_at e goals job seen n;
      reaches = r.reaches;
      execution_is = r.execution_is;
      asked = r.asked;
      rises = r.rises;
      stand = r.stand;
      mine_is = r.mine_is;
      goes_on = r.goes_on;
    }

as_start : (e goals : ℕ) (job : Job) (low : ℕ) (h : History)
    → mine h e ≡ []
    → low ≤ length h
    → ReachedAs e goals job low (record { execution = at_start job; history = h; gens = [] }) 0
as_start e goals job low h own begun =
    record {
      at = record { execution = at_start job; asked = zero; made = [] };
      reaches = λ later more. refl;
      execution_is = refl;
      asked = refl;
      rises = begun;
      stand = tt;
      mine_is = own;
      goes_on = λ later more k below x f. omega (arith, below);
    }

as_later : (e goals : ℕ) (job : Job) (low : ℕ) (seen : Seen) (n : ℕ) (later : History)
    → mine later e ≡ []
    → ReachedAs e goals job low seen n
    → ReachedAs e goals job low (record seen { history = seen.history ++ later }) n
as_later e goals job low seen n later others r =
    record {
      at = r.at;
      reaches =
          λ last more.
          ap (λ h. run e goals job h (seen.gens ++ more) n) (append_assoc seen.history later last) ∙ r.reaches (later ++ last) more;
      execution_is = r.execution_is;
      asked = r.asked;
      rises =
          rises_higher
          low
          seen.gens
          (length seen.history)
          (length (seen.history ++ later))
          r.rises
          (omega (arith, length-append seen.history later));
      stand = stand_entries e seen.history later seen.gens r.at.made r.stand;
      mine_is =
          mine-append seen.history later e
          ∙ ap (λ ks. mine seen.history e ++ ks) others
          ∙ append-nil (mine seen.history e)
          ∙ r.mine_is;
      goes_on =
          λ last more k below x f.
          r.goes_on
          (later ++ last)
          more
          k
          below
          x
          (ap (λ h. (run e goals job h (seen.gens ++ more) k).execution.activity) (sym (append_assoc seen.history later last)) ∙ f);
    }

-- A number below the successor of another one is below that or is it.
below_suc : (k n : ℕ) → k < suc n → (k ≡ n) ⊎ (k < n)
below_suc k n below = let le : k ≤ n = omega (arith, below) in eq-or-lt_of_le le

-- No step up to the present one had ended.
pub runs_on : (e goals : ℕ) (job : Job) (h : History) (gens : List ℕ) (n : ℕ) (a : Standing)
    → run e goals job h gens n ≡ a
    → ((x : Ending) → a.execution.activity ≡ over x → ⊥)
    → ((k : ℕ) → k < n → (x : Ending) → (run e goals job h gens k).execution.activity ≡ over x → ⊥)
    → (k : ℕ)
    → (k ≡ n) ⊎ (k < n)
    → (x : Ending)
    → (run e goals job h gens k).execution.activity ≡ over x
    → ⊥
runs_on e goals job h gens n a is now before k (inr lt) x f = before k lt x f
runs_on e goals job h gens n a is now before k (inl same) x f =
    now x (ap (λ b. b.execution.activity) (sym is) ∙ ap (λ i. (run e goals job h gens i).execution.activity) (sym same) ∙ f)

-- What is seen of an engine is told by its parts.
seen_is : (s : Seen) (state : Execution) (h : History) (gens : List ℕ)
    → s.execution ≡ state
    → s.history ≡ h
    → s.gens ≡ gens
    → record { execution = state; history = h; gens = gens } ≡ s
seen_is s state h gens a b c =
    ap (λ x. let t : Seen = record { execution = x; history = h; gens = gens } in t) (sym a)
    ∙ ap (λ x. let t : Seen = record { execution = s.execution; history = x; gens = gens } in t) (sym b)
    ∙ ap (λ x. let t : Seen = record { execution = s.execution; history = s.history; gens = x } in t) (sym c)

as_state_step : (e goals : ℕ) (job : Job) (low : ℕ) (old : Seen) (s : Execution) (n : ℕ)
    → move job old.execution ≡ moves s
    → ReachedAs e goals job low old n
    → ReachedAs e goals job low (record old { execution = s }) (suc n)
as_state_step e goals job low old s n goes_old r =
    let moves_is : move job r.at.execution ≡ moves s = ap (move job) r.execution_is ∙ goes_old
    in record {
      at = record r.at { execution = s };
      reaches =
          λ later more.
          ap
          (λ a. advanced e goals (old.history ++ later) (old.gens ++ more) a (move job a.execution))
          (r.reaches later more)
          ∙ ap (advanced e goals (old.history ++ later) (old.gens ++ more) r.at) moves_is;
      execution_is = refl;
      asked = r.asked;
      rises = r.rises;
      stand = r.stand;
      mine_is = r.mine_is;
      goes_on =
          λ later more k below.
          runs_on
          e
          goals
          job
          (old.history ++ later)
          (old.gens ++ more)
          n
          r.at
          (r.reaches later more)
          (λ y. goes_runs job r.at.execution s y moves_is)
          (r.goes_on later more)
          k
          (below_suc k n below);
    }

as_goes : (e goals : ℕ) (job : Job) (low : ℕ) (old new : Seen) (n : ℕ)
    → MovesTo job old new
    → ReachedAs e goals job low old n
    → ReachedAs e goals job low new (suc n)
as_goes e goals job low old new n g r =
    subst
    (λ (s : Seen). ReachedAs e goals job low s (suc n))
    (seen_is new new.execution old.history old.gens refl g.history_is g.gens_is)
    (as_state_step e goals job low old new.execution n g.moves_is r)

-- The move by which a request after all entries is answered, whatever follows.
asks_advance : (e goals : ℕ) (job : Job) (h later : History) (gens more : List ℕ) (a : Standing) (q : Request) (next : Reply → Execution) (r : Reply) (k : Option Kind)
    → a.asked ≡ length gens
    → move job a.execution ≡ requests q next
    → served_now e goals h q ≡ answers r k
    → advanced e goals (h ++ later) (gens ++ length h ∷ more) a (move job a.execution)
    ≡ record { execution = next r; asked = suc a.asked; made = a.made ++ made_by a.asked (length h) k }
asks_advance e goals job h later gens more a q next r k asked asks_is served =
    ap (advanced e goals (h ++ later) (gens ++ length h ∷ more) a) asks_is
    ∙ ap
    (λ i. at_generation e goals (h ++ later) a q next (slice_get (gens ++ length h ∷ more) i))
    asked
    ∙ ap (at_generation e goals (h ++ later) a q next) (slice_get_seam gens (length h) more)
    ∙ ap
    (λ w. after_service a next (length h) (serve e q w (length h)))
    (state_later goals h later (length h) (omega arith))
    ∙ ap (after_service a next (length h)) served

-- The entries and generations that follow a request, beside its own.
asks_front : (e : ℕ) (h later : History) (k : Option Kind)
    → (h ++ entry_by e k) ++ later ≡ h ++ (entry_by e k ++ later)
asks_front e h later k = append_assoc h (entry_by e k) later

as_request : (e goals : ℕ) (job : Job) (low : ℕ) (old : Seen) (q : Request) (next : Reply → Execution) (r : Reply) (k : Option Kind) (n : ℕ)
    → move job old.execution ≡ requests q next
    → served_now e goals old.history q ≡ answers r k
    → ReachedAs e goals job low old n
    → ReachedAs
    e
    goals
    job
    low
    (record {
      execution = next r;
      history = old.history ++ entry_by e k;
      gens = old.gens ++ length old.history ∷ [];
    })
    (suc n)
as_request e goals job low old q next r k n asks_old served p =
    let asks_is : move job p.at.execution ≡ requests q next = ap (move job) p.execution_is ∙ asks_old
    in let top : ℕ = length old.history
    in let back : (later : History) (more : List ℕ) (i : ℕ) →
    run e goals job ((old.history ++ entry_by e k) ++ later) ((old.gens ++ top ∷ []) ++ more) i ≡
    run e goals job (old.history ++ (entry_by e k ++ later)) (old.gens ++ top ∷ more) i =
    λ later more i.
    ap (λ h. run e goals job h ((old.gens ++ top ∷ []) ++ more) i) (append_assoc old.history (entry_by e k) later)
    ∙ ap
    (λ gs. run e goals job (old.history ++ (entry_by e k ++ later)) gs i)
    (append_assoc old.gens (top ∷ []) more)
    in record {
      at =
          record {
            execution = next r;
            asked = suc p.at.asked;
            made = p.at.made ++ made_by p.at.asked top k;
          };
      reaches =
          λ later more.
          back later more (suc n)
          ∙ ap
          (λ a.
          advanced
          e
          goals
          (old.history ++ (entry_by e k ++ later))
          (old.gens ++ top ∷ more)
          a
          (move job a.execution))
          (p.reaches (entry_by e k ++ later) (top ∷ more))
          ∙ asks_advance e goals job old.history (entry_by e k ++ later) old.gens more p.at q next r k p.asked asks_is served;
      execution_is = refl;
      asked = omega (arith, p.asked, length-append old.gens (top ∷ []));
      rises =
          rises_more
          low
          old.gens
          top
          (length (old.history ++ entry_by e k))
          p.rises
          (omega (arith, length-append old.history (entry_by e k)));
      stand =
          subst
          (λ (i : ℕ).
          AllStand
          e
          (old.history ++ entry_by e k)
          (old.gens ++ top ∷ [])
          (p.at.made ++ made_by i top k))
          (sym p.asked)
          (stand_more e old.history old.gens k p.at.made p.stand);
      mine_is = mine-more old.history e p.at.asked top k p.at.made p.mine_is;
      goes_on =
          λ later more i below x f.
          runs_on
          e
          goals
          job
          (old.history ++ (entry_by e k ++ later))
          (old.gens ++ top ∷ more)
          n
          p.at
          (p.reaches (entry_by e k ++ later) (top ∷ more))
          (λ y. asks_runs job p.at.execution q next y asks_is)
          (p.goes_on (entry_by e k ++ later) (top ∷ more))
          i
          (below_suc i n below)
          x
          (ap (λ a. a.execution.activity) (sym (back later more i)) ∙ f);
    }

as_asks : (e goals : ℕ) (job : Job) (low : ℕ) (old new : Seen) (n : ℕ)
    → AsksTo e goals job old new
    → ReachedAs e goals job low old n
    → ReachedAs e goals job low new (suc n)
as_asks e goals job low old new n g r =
    subst
    (λ (s : Seen). ReachedAs e goals job low s (suc n))
    (seen_is
    new
    (g.next g.reply)
    (old.history ++ entry_by e g.update)
    (old.gens ++ length old.history ∷ [])
    g.execution_is
    g.history_is
    g.gens_is)
    (as_request e goals job low old g.request g.next g.reply g.update n g.asks_is g.served r)

pub reached_start : (e goals : ℕ) (job : Job) (low : ℕ) (h : History)
    → mine h e ≡ []
    → low ≤ length h
    → Reached e goals job low (record { execution = at_start job; history = h; gens = [] }) 0
reached_start e goals job low h own begun =
    reached_of e goals job low (record { execution = at_start job; history = h; gens = [] }) 0 (as_start e goals job low h own begun)

pub reached_later : (e goals : ℕ) (job : Job) (low : ℕ) (seen : Seen) (n : ℕ) (later : History)
    → mine later e ≡ []
    → Reached e goals job low seen n
    → Reached e goals job low (record seen { history = seen.history ++ later }) n
reached_later e goals job low seen n later others r =
    reached_of
    e
    goals
    job
    low
    (record seen { history = seen.history ++ later })
    n
    (as_later e goals job low seen n later others (parts_of e goals job low seen n r))

pub reached_goes : (e goals : ℕ) (job : Job) (low : ℕ) (old new : Seen) (n : ℕ)
    → MovesTo job old new
    → Reached e goals job low old n
    → Reached e goals job low new (suc n)
reached_goes e goals job low old new n g r =
    reached_of e goals job low new (suc n) (as_goes e goals job low old new n g (parts_of e goals job low old n r))

pub reached_asks : (e goals : ℕ) (job : Job) (low : ℕ) (old new : Seen) (n : ℕ)
    → AsksTo e goals job old new
    → Reached e goals job low old n
    → Reached e goals job low new (suc n)
reached_asks e goals job low old new n g r =
    reached_of e goals job low new (suc n) (as_asks e goals job low old new n g (parts_of e goals job low old n r))

-- The run as it stands.
pub reached_at : (e goals : ℕ) (job : Job) (low : ℕ) (seen : Seen) (n : ℕ) (later : History)
    → (r : Reached e goals job low seen n)
    → run e goals job (seen.history ++ later) seen.gens n ≡ standing_at e goals job seen n
reached_at e goals job low seen n later r =
    ap (λ gs. run e goals job (seen.history ++ later) gs n) (sym (append-nil seen.gens)) ∙ r.reaches later []

pub reached_state : (e goals : ℕ) (job : Job) (low : ℕ) (seen : Seen) (n : ℕ) (later : History)
    → Reached e goals job low seen n
    → (run e goals job (seen.history ++ later) seen.gens n).execution ≡ seen.execution
reached_state e goals job low seen n later r = ap (λ a. a.execution) (reached_at e goals job low seen n later r) ∙ r.execution_is

-- The updates of a run with what follows its history.
pub lawful_before : (e goals : ℕ) (job : Job) (low : ℕ) (seen : Seen) (n : ℕ) (later : History)
    → (r : Reached e goals job low seen n)
    → IsLawful e goals job low (seen.history ++ later) seen.gens n (length seen.history) (mine later e)
lawful_before e goals job low seen n later r =
    let run_is : run e goals job (seen.history ++ later) seen.gens n ≡ standing_at e goals job seen n = reached_at e goals job low seen n later r
    in record {
      rises = r.rises;
      each = ap (λ a. a.asked) run_is ∙ r.asked;
      stand =
          subst
          (λ (a : Standing). AllStand e (seen.history ++ later) seen.gens a.made)
          (sym run_is)
          (stand_entries e seen.history later seen.gens (standing_at e goals job seen n).made r.stand);
      mine_is =
          mine-append seen.history later e
          ∙ ap (λ ks. ks ++ mine later e) r.mine_is
          ∙ ap (λ a. map (λ m. m.kind) a.made ++ mine later e) (sym run_is);
    }

-- The updates with the engine's end after them.
pub lawful_at_end : (e goals : ℕ) (job : Job) (low : ℕ) (seen : Seen) (n : ℕ) (how : How Tree)
    → Reached e goals job low seen n
    → IsLawful e goals job low (seen.history ++ record { engine = e; kind = finish how n } ∷ []) seen.gens n (length seen.history) (finish how n ∷ [])
lawful_at_end e goals job low seen n how r =
    let later : History = record { engine = e; kind = finish how n } ∷ []
    in subst
    (λ (ks : List Kind). IsLawful e goals job low (seen.history ++ later) seen.gens n (length seen.history) ks)
    (mine-entry_by e zero zero (Some (finish how n)))
    (lawful_before e goals job low seen n later r)

-- The engine has ended, and its end is entered.
unfoldable pub reached_end : (e goals : ℕ) (job : Job) (low : ℕ) (seen : Seen) (n : ℕ) (ending : Ending) (how : How Tree)
    → Reached e goals job low seen n
    → seen.execution.activity ≡ over ending
    → EndsSo ending how
    → RanToEnd e goals job low (seen.history ++ record { engine = e; kind = finish how n } ∷ []) seen.gens
reached_end e goals job low seen n ending how r is_ended so =
    let later : History = record { engine = e; kind = finish how n } ∷ []
    in let run_is : run e goals job (seen.history ++ later) seen.gens n ≡ standing_at e goals job seen n = reached_at e goals job low seen n later r
    in record {
      steps = n;
      how = how;
      ending = ending;
      place = length seen.history;
      entry = slice_get_seam seen.history (record { engine = e; kind = finish how n }) [];
      lawful = lawful_at_end e goals job low seen n how r;
      ended = ap (λ a. a.execution.activity) run_is ∙ ap (λ s. s.activity) r.execution_is ∙ is_ended;
      ends_so = so;
      first =
          λ k below x f.
          r.goes_on
          later
          []
          k
          below
          x
          (ap (λ gs. (run e goals job (seen.history ++ later) gs k).execution.activity) (append-nil seen.gens) ∙ f);
    }

-- The engine found no place for an atom, and its end is entered.
unfoldable pub reached_atoms : (e goals slots : ℕ) (job : Job) (low : ℕ) (seen : Seen) (n : ℕ) (found : AtomRecord)
    → Reached e goals job low seen n
    → IsRunning seen.execution
    → IsTrue slots found
    → RanOutOfAtoms e goals slots job low (seen.history ++ record { engine = e; kind = finish (AtomSpace found) n } ∷ []) seen.gens
reached_atoms e goals slots job low seen n found r runs true_of =
    let later : History = record { engine = e; kind = finish (AtomSpace found) n } ∷ []
    in let run_is : run e goals job (seen.history ++ later) seen.gens n ≡ standing_at e goals job seen n = reached_at e goals job low seen n later r
    in record {
      steps = n;
      found = found;
      place = length seen.history;
      entry = slice_get_seam seen.history (record { engine = e; kind = finish (AtomSpace found) n }) [];
      lawful = lawful_at_end e goals job low seen n (AtomSpace found) r;
      never_over =
          λ k up_to.
          runs_on
          e
          goals
          job
          (seen.history ++ later)
          seen.gens
          n
          (standing_at e goals job seen n)
          run_is
          (λ x f. runs x (ap (λ s. s.activity) (sym r.execution_is) ∙ f))
          (λ i below x f.
          r.goes_on
          later
          []
          i
          below
          x
          (ap (λ gs. (run e goals job (seen.history ++ later) gs i).execution.activity) (append-nil seen.gens) ∙ f))
          k
          (eq-or-lt_of_le up_to);
      is_true = true_of;
    }

-- The engine waits, and the history is at its end.
unfoldable pub reached_wait : (e goals : ℕ) (job : Job) (low : ℕ) (seen : Seen) (n : ℕ)
    → Reached e goals job low seen n
    → WaitsNow e goals job seen
    → WaitsAtEnd e goals job low seen.history seen.gens
reached_wait e goals job low seen n r w =
    let same : (run e goals job seen.history seen.gens n).execution ≡ seen.execution =
    ap (λ h. (run e goals job h seen.gens n).execution) (sym (append-nil seen.history))
    ∙ reached_state e goals job low seen n [] r
    in record {
      steps = n;
      request = w.request;
      next = w.next;
      lawful =
          subst
          (λ (h : History). IsLawful e goals job low h seen.gens n (length seen.history) [])
          (append-nil seen.history)
          (lawful_before e goals job low seen n [] r);
      asks = ap (move job) same ∙ w.asks_is;
      waits_there = w.served;
    }
