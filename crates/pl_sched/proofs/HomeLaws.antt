-- What is known of an engine at home, where others made entries since.
use Rattle.std.proofs.Common.{◌≡◌, ◌⊎◌, inl, inr, ◌≤◌, ℕ, suc, ◌+◌, List, [], ◌∷◌, ◌++◌, Bool, true, false, length, Option, Some, None, IsSome, refl, sym, ap, subst, ◌∙◌, arith, append-nil}
use Rattle.std.specs.Prelude.{Contains}
use Rattle.std.specs.List.{All}
use Rattle.std.specs.declared.alloc.Global.{Global}
use Rattle.std.specs.declared.sync.Arc.{Arc}
use Rattle.std.proofs.lemmas.List.{length-append}
use Rattle.std.proofs.lemmas.List.Elements.{All-append, All-cons, All-nil}
use mathlib.Core.List.{IsPrefix}
use Rattle.pl_term.specs.Tree.{Tree}
use Rattle.atomic_table.specs.Seated.{TableId}
use Rattle.pl_model.specs.declared.ends.AtomRecord.{AtomRecord}
use Rattle.pl_model.specs.declared.ends.How.{How}
use Rattle.pl_model.specs.declared.ends.How.TheVariants.{AtomSpace}
use Rattle.pl_model.specs.declared.grammar.Quotes.{Quotes}
use Rattle.pl_model.specs.OperatorTable.{OperatorTable}
use Rattle.pl_model.specs.History.{Entry, History, Kind, finish, mine}
use Rattle.pl_model.specs.Resolution.{Ending}
use Rattle.run_model.specs.AtomRecords.{IsTrue}
use Rattle.run_model.specs.Execution.{Job, Execution, move, over}
use Rattle.run_model.specs.Lawful.{Beginning, EndsSo, IsDone, IsRunning, Program, RanOutOfAtoms, RanToEnd, WaitsAtEnd, beginnings}
use Rattle.run_model.specs.Progress.{Reached, Seen}
use Rattle.run_model.proofs.BeginningsStay.{beginning_stays}
use Rattle.run_model.proofs.EndsStay.{end_in_stays}
use Rattle.run_model.proofs.LawfulEntries.{mine-append}
use Rattle.run_model.specs.Report.{end_in, end_place, stood}
use Rattle.run_model.specs.Ends.{awaited_by}
use Rattle.run_model.proofs.Progress.{reached_later}
use Rattle.run_model.proofs.StoodLaws.{EndedAt, OutAt, WaitsAt, ended_at, ended_still, out_at, out_still, waits_at}
use Rattle.atom_api.specs.Names.{Names}
use Rattle.world_api.specs.declared.answer.On.{On}
use Rattle.world_api.specs.Answers.{on_by}
use Rattle.world_api.specs.Texts.{text_of}
use Rattle.world_api.specs.Told.{Follows, Told, has_ended}
use Rattle.script_api.specs.Parts.{seen_in}
use Rattle.pl_history.specs.Fronts.{AllTold, FrontState, Life, has_end, own_engine, own_generations, own_updates}
use Rattle.pl_hub.specs.Ending.{IsOver}
use Rattle.pl_hub.specs.Fronts.{IsOwn, told_of}
use Rattle.pl_sched.specs.declared.mark.End.{End}
use Rattle.pl_sched.specs.declared.mark.Mark.{Mark}
use Rattle.pl_sched.specs.declared.mark.Mark.TheVariants.{Ready, Waits, ForCycles, Ended}
use Rattle.pl_sched.proofs.EndIn.{ended_standing, first_in, none_in, still_none, waiting_standing}
use Rattle.pl_sched.proofs.Running.{still_runs}
use Rattle.run_model.specs.WholeRuns.{IsJob}
use Rattle.pl_sched.specs.Homes.{EndsAs, HasEnded, IsAtHome, IsFinal, IsFront, IsGone, IsMarked, IsStandingAt, IsUnderWay, IsWaiting, is_ended}

-- FRONTS THAT HAVE SEEN ONE HISTORY, and one more
pub one_seen : (h : History) (fs : List FrontState) (f : FrontState) (gs : List FrontState) → gs ≡ fs ++ f ∷ [] → All (λ (x : FrontState). x.seen ≡ h) fs → f.seen ≡ h → All (λ (x : FrontState). x.seen ≡ h) gs
one_seen h fs f gs is all seen =
    subst (λ (l : List FrontState). All (λ (x : FrontState). x.seen ≡ h) l) (sym is)
    (All-append (λ (x : FrontState). x.seen ≡ h) fs (f ∷ []) all (All-cons (λ (x : FrontState). x.seen ≡ h) f [] seen (All-nil (λ (x : FrontState). x.seen ≡ h))))

-- ENTRIES OF OTHERS
no_more : {A : Type 0} (xs ys : List A) → xs ++ ys ≡ xs → ys ≡ []
no_more [] ys e = e
no_more (x ∷ xs) ys e = no_more xs ys (tail_is e)
  where
    tail_is : x ∷ (xs ++ ys) ≡ x ∷ xs → xs ++ ys ≡ xs
    tail_is h = cc

told_ended : (h : History) (e : ℕ) (ls : List Life) → AllTold h ls → own_engine ls ≡ e → has_end (own_updates ls) ≡ true → own_updates ls ≡ mine h e
told_ended h e [] told own ended = absurd (cc)
told_ended h e (l ∷ ls) told own ended = told.0.updates ∙ ap (mine h) own

-- what came since the front of an engine that has ended saw the history is no update of its engine
pub others_since : (t : TableId) (e : ℕ) (f : FrontState) → IsOver t e f → (h : History) (behind : IsPrefix f.seen h) → AllTold h f.lives → mine behind.0 e ≡ []
others_since t e f gone h behind told =
    no_more (mine f.seen e) (mine behind.0 e)
    (sym (mine-append f.seen behind.0 e) ∙ ap (λ (l : History). mine l e) behind.1 ∙ sym (told_ended h e f.lives told gone.engine gone.ended) ∙ gone.updates)

-- THE JOB of an engine stays
pub job_stays : (p : Program) (e : ℕ) (h later : History) (job : Job) (low : ℕ) → IsJob p e h job low → IsJob p e (h ++ later) job low
job_stays p e h later job low (inl main) = inl main
job_stays p e h later job low (inr started) = inr (started.0, beginning_stays h later started.0 started.1, started.2, started.3, started.4)

-- THE END, once it is entered, and the state to which the engine had come
abbrev EndsBy : Program → ℕ → ℕ → Job → ℕ → History → List ℕ → Execution → Type 0
EndsBy p e goals job low h gens x = EndedAt e goals job low h gens x ⊎ OutAt e goals p.slots job low h gens x

entered : (p : Program) (e goals : ℕ) (job : Job) (low : ℕ) (s : Seen) (n : ℕ) (how : How Tree) → Reached e goals job low s n → EndsAs p s.execution how
    → EndsBy p e goals job low (s.history ++ record { engine = e; kind = finish how n } ∷ []) s.gens s.execution
entered p e goals job low s n how r (inl ends) = inl (ended_at e goals job low s n ends.0 how r ends.1 ends.2)
entered p e goals job low s n how r (inr found) =
    inr (subst (λ (k : How Tree). OutAt e goals p.slots job low (s.history ++ record { engine = e; kind = finish k n } ∷ []) s.gens s.execution) (sym found.1)
    (out_at e goals p.slots job low s n found.0 r found.2 found.3))

ended_stays : (p : Program) (e goals : ℕ) (job : Job) (low : ℕ) (h later : History) (gens : List ℕ) (x : Execution) → mine later e ≡ [] → EndsBy p e goals job low h gens x
    → EndsBy p e goals job low (h ++ later) gens x
ended_stays p e goals job low h later gens x others (inl r) = inl (ended_still e goals job low h later gens x others r)
ended_stays p e goals job low h later gens x others (inr r) = inr (out_still e goals p.slots job low h later gens x others r)

is_done : (p : Program) (e goals : ℕ) (job : Job) (low : ℕ) (h : History) (gens : List ℕ) (x : Execution) → EndsBy p e goals job low h gens x → (d : IsDone e goals p.slots job low h gens) × (stood d ≡ x)
is_done p e goals job low h gens x (inl r) = (inl r.0, r.1)
is_done p e goals job low h gens x (inr r) = (inr (inr r.0), r.1)

module _ {E : Type 0} (stands : Names → Told → E → Job → Execution → Type 0) (ready : Names → Told → E → Type 0) (moves : E → ℕ) (p : Program) where
  module _ (end : End) (m : Names) (t : Told) (x : E) (d : HasEnded stands ready moves p end m t x) where
    abbrev last : Entry
    last = record { engine = d.before.engine; kind = finish end.how (moves x) }

    whole : (d.before.history ++ d.follows.later) ++ last ∷ [] ≡ t.history
    whole = ap (λ (h : History). h ++ last ∷ []) (sym d.follows.grown) ∙ sym d.history

    came_to : Reached d.before.engine d.before.goals d.way.job d.way.low (record { execution = d.way.execution; history = d.before.history ++ d.follows.later; gens = d.before.gens }) (moves x)
    came_to = reached_later d.before.engine d.before.goals d.way.job d.way.low (seen_in d.before d.way.execution) (moves x) d.follows.later d.follows.others d.way.reached

    ended_here : EndsBy p d.before.engine d.before.goals d.way.job d.way.low t.history d.before.gens d.way.execution
    ended_here =
        subst (λ (h : History). EndsBy p d.before.engine d.before.goals d.way.job d.way.low h d.before.gens d.way.execution) whole
        (entered p d.before.engine d.before.goals d.way.job d.way.low (record { execution = d.way.execution; history = d.before.history ++ d.follows.later; gens = d.before.gens }) (moves x) end.how came_to d.ends)

    pub ended_told : EndsBy p t.engine t.goals d.way.job d.way.low t.history t.gens d.way.execution
    ended_told =
        subst (λ (e : ℕ). EndsBy p e t.goals d.way.job d.way.low t.history t.gens d.way.execution) (sym d.engine)
        (subst (λ (n : ℕ). EndsBy p d.before.engine n d.way.job d.way.low t.history t.gens d.way.execution) (sym d.goals)
        (subst (λ (gs : List ℕ). EndsBy p d.before.engine d.before.goals d.way.job d.way.low t.history gs d.way.execution) (sym d.gens) ended_here))

    pub job_told : IsJob p t.engine t.history d.way.job d.way.low
    job_told =
        subst (λ (e : ℕ). IsJob p e t.history d.way.job d.way.low) (sym d.engine)
        (subst (λ (h : History). IsJob p d.before.engine h d.way.job d.way.low) whole
        (job_stays p d.before.engine (d.before.history ++ d.follows.later) (last ∷ []) d.way.job d.way.low
        (job_stays p d.before.engine d.before.history d.follows.later d.way.job d.way.low d.way.is_job)))

    runs_until : has_ended d.before.engine d.entries ≡ false
    runs_until =
        subst (λ (h : History). has_ended d.before.engine h ≡ false) (sym d.follows.grown) (still_none d.before.history d.follows.later d.before.engine d.runs d.follows.others)

    pub end_told : end_in t.history t.engine ≡ Some end.how
    end_told =
        ap (λ (h : History). end_in h t.engine) d.history
        ∙ (ap (end_in (d.entries ++ last ∷ [])) d.engine ∙ first_in d.entries d.before.engine end.how (moves x) runs_until)

    pub stood_at : (h rest : History) → h ≡ t.history ++ rest → IsStandingAt t.goals h (end_place t.engine h 0) end.operators end.quotes
    stood_at h rest is =
        subst (λ (g : ℕ). IsStandingAt g h (end_place t.engine h 0) end.operators end.quotes) (sym d.goals)
        (subst (λ (n : ℕ). IsStandingAt d.before.goals h (end_place n h 0) end.operators end.quotes) (sym d.engine)
        (ended_standing d.before.goals d.before.engine d.entries rest h end.how (moves x) end.operators end.quotes runs_until (is ∙ ap (λ (l : History). l ++ rest) d.history) d.standing))

  -- AN ENGINE THAT HAS ENDED IS DONE, whatever others entered since
  pub gone_final : (table : TableId) (goals e : ℕ) (end : End) (f : FrontState) (x : E) → IsGone stands ready moves p table goals e end f x
      → (h : History) → IsPrefix f.seen h → AllTold h f.lives
      → IsFinal stands ready moves p table goals e (Some end.how) None end.operators end.quotes (record f { seen = h }) x
  gone_final table goals e end f x gone h behind told =
      let d = gone.ended in
      let others = others_since table e f gone.front h behind told in
      let own = gone.front.engine in
      let done = is_done p e goals d.way.job d.way.low h (own_generations f.lives) d.way.execution
      (subst (λ (l : History). EndsBy p e goals d.way.job d.way.low l (own_generations f.lives) d.way.execution) behind.1
      (ended_stays p e goals d.way.job d.way.low f.seen behind.0 (own_generations f.lives) d.way.execution others
      (subst (λ (n : ℕ). EndsBy p n goals d.way.job d.way.low f.seen (own_generations f.lives) d.way.execution) own (ended_told end gone.held (told_of goals f) x d)))) in
      record {
        carried = own;
        held = gone.held;
        before = d.before;
        way = d.way;
        is_job =
            subst (λ (l : History). IsJob p e l d.way.job d.way.low) behind.1
            (job_stays p e f.seen behind.0 d.way.job d.way.low
            (subst (λ (n : ℕ). IsJob p n f.seen d.way.job d.way.low) own (job_told end gone.held (told_of goals f) x d)));
        done = done.0;
        stood_is = done.1;
        end_is =
            subst (λ (l : History). end_in l e ≡ Some end.how) behind.1
            (end_in_stays f.seen behind.0 e end.how (subst (λ (n : ℕ). end_in f.seen n ≡ Some end.how) own (end_told end gone.held (told_of goals f) x d)));
        standing = subst (λ (n : ℕ). IsStandingAt goals h (end_place n h 0) end.operators end.quotes) own (stood_at end gone.held (told_of goals f) x d h behind.0 (sym behind.1));
        waits = λ none. absurd (cc);
        awaits = λ none. absurd (cc);
      }

  -- one that came home so
  pub gone_home : (answered : E → Bool) (table : TableId) (goals e : ℕ) (mark : Mark) (end : End) (m : Names) (f : FrontState) (x : E) → mark ≡ Ended end → IsAtHome stands ready moves p answered table goals e mark m f x
      → IsGone stands ready moves p table goals e end f x
  gone_home answered table goals e mark end m f x is home =
      let there : IsAtHome stands ready moves p answered table goals e (Ended end) m f x = subst (λ (k : Mark). IsAtHome stands ready moves p answered table goals e k m f x) is home in
      record { front = there.front; held = m; ended = there.marked }

  none_left : (f : FrontState) (h : History) (behind : IsPrefix f.seen h) (g : ℕ) → g ≡ length f.seen → length h ≤ g → f.seen ≡ h
  none_left f h behind g at le =
      go behind.0 behind.1 (let n = length-append f.seen behind.0 in let l = ap (λ (k : History). length k) behind.1 in omega (arith, n, l, at, le))
    where
      go : (later : History) → f.seen ++ later ≡ h → length later ≡ 0 → f.seen ≡ h
      go [] grown none = sym (append-nil f.seen) ∙ grown
      go (y ∷ ys) grown none = absurd (omega (arith, none))

  -- AND SO IS ONE THAT WAITS in the state as the history stands
  pub waiting_final : (table : TableId) (goals e : ℕ) (on : On) (m : Names) (ops : Arc OperatorTable Global) (quotes : Quotes) (f : FrontState) (x : E) (g : ℕ) → IsOwn table e f
      → IsWaiting stands ready moves p on m (told_of goals f) x → g ≡ length f.seen
      → (h : History) → IsPrefix f.seen h → length h ≤ g → IsStandingAt goals h (length h) ops quotes
      → IsFinal stands ready moves p table goals e None (Some (on_by (text_of m) on)) ops quotes (record f { seen = h }) x
  waiting_final table goals e on m ops quotes f x g own w at h behind le standing =
      let same = none_left f h behind g at le in
      let free : has_ended e h ≡ false =
      subst (λ (l : History). has_ended e l ≡ false) same (subst (λ (n : ℕ). has_ended n f.seen ≡ false) own.engine (still_runs goals f own)) in
      let there : WaitsAt e goals w.way.job w.way.low h (own_generations f.lives) w.way.execution =
      subst (λ (l : History). WaitsAt e goals w.way.job w.way.low l (own_generations f.lives) w.way.execution) same
      (subst (λ (n : ℕ). WaitsAt n goals w.way.job w.way.low f.seen (own_generations f.lives) w.way.execution) own.engine
      (waits_at (own_engine f.lives) goals w.way.job w.way.low (seen_in (told_of goals f) w.way.execution) (moves x) w.way.reached w.waits)) in
      record {
        carried = own.engine;
        held = m;
        before = told_of goals f;
        way = w.way;
        is_job =
            subst (λ (l : History). IsJob p e l w.way.job w.way.low) same
            (subst (λ (n : ℕ). IsJob p n f.seen w.way.job w.way.low) own.engine w.way.is_job);
        done = inr (inl there.0);
        stood_is = there.1;
        end_is = none_in h e free;
        standing = waiting_standing goals e h ops quotes free standing;
        waits = λ none. refl;
        awaits = λ none. subst (λ (n : ℕ). awaited_by n (move w.way.job w.way.execution) ≡ Some (on_by (text_of m) on)) own.engine w.awaits;
      }

  -- one that came home waiting
  pub waiting_home : (answered : E → Bool) (table : TableId) (goals e : ℕ) (mark : Mark) (on : On) (m : Names) (ops : Arc OperatorTable Global) (quotes : Quotes) (f : FrontState) (x : E) (g : ℕ) → mark ≡ Waits on g → IsAtHome stands ready moves p answered table goals e mark m f x
      → (h : History) → IsPrefix f.seen h → length h ≤ g → IsStandingAt goals h (length h) ops quotes
      → IsFinal stands ready moves p table goals e None (Some (on_by (text_of m) on)) ops quotes (record f { seen = h }) x
  waiting_home answered table goals e mark on m ops quotes f x g is home h behind le standing =
      let there : IsAtHome stands ready moves p answered table goals e (Waits on g) m f x = subst (λ (k : Mark). IsAtHome stands ready moves p answered table goals e k m f x) is home in
      waiting_final table goals e on m ops quotes f x g there.front there.marked.0 there.marked.1 h behind le standing

-- AN ENGINE THAT HAS NOT ENDED runs in its front, is under way, and has not answered how its execution has ended
pub own_home : (table : TableId) (e : ℕ) (k : Mark) (f : FrontState) → is_ended k ≡ false → IsFront table e k f → IsOwn table e f
own_home table e Ready f is own = own
own_home table e (Waits on g) f is own = own
own_home table e (ForCycles s) f is own = own
own_home table e (Ended end) f is own = absurd (cc)

module _ {E : Type 0} (stands : Names → Told → E → Job → Execution → Type 0) (ready : Names → Told → E → Type 0) (moves : E → ℕ) (p : Program) (over : E → Bool) where
  pub way_home : (k : Mark) (m : Names) (t : Told) (x : E) → is_ended k ≡ false → IsMarked stands ready moves p over k m t x → IsUnderWay stands ready moves p m t x
  way_home Ready m t x is h = h.0
  way_home (Waits on g) m t x is h = h.0.way
  way_home (ForCycles s) m t x is h = h.0
  way_home (Ended end) m t x is h = absurd (cc)

  pub goes_home : (k : Mark) (m : Names) (t : Told) (x : E) → is_ended k ≡ false → IsMarked stands ready moves p over k m t x → over x ≡ false
  goes_home Ready m t x is h = h.1
  goes_home (Waits on g) m t x is h = h.2
  goes_home (ForCycles s) m t x is h = h.1
  goes_home (Ended end) m t x is h = absurd (cc)
