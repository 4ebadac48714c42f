-- A turn of an engine that a worker carries: what is known of it afterwards.
use Rattle.std.proofs.Common.{◌≡◌, ℕ, List, length, Bool, true, false, Option, Result, Ok, Err, sym, subst, ◌⊎◌, inl, inr, ◌∙◌}
use Rattle.std.specs.Prelude.{IfErr}
use Rattle.pl_term.specs.Tree.{Chars, Tree}
use Rattle.atomic_table.specs.Seated.{TableId}
use Rattle.pl_model.specs.declared.ends.How.{How}
use Rattle.pl_model.specs.declared.ends.SlotPass.{SlotPass}
use Rattle.pl_model.specs.History.{History}
use Rattle.run_model.specs.Execution.{Script, Job, Consulted, Execution}
use Rattle.run_model.specs.Lawful.{Program}
use Rattle.run_model.specs.Progress.{Reached}
use Rattle.atom_api.specs.Names.{Names}
use Rattle.world_api.specs.declared.answer.On.{On}
use Rattle.world_api.specs.Told.{Told}
use Rattle.script_api.specs.Parts.{Part, seen_in}
use Rattle.script_api.specs.Scripts.{IsLater}
use Rattle.pl_history.specs.Fronts.{FrontState, own_engine}
use Rattle.pl_hub.specs.Fronts.{IsOwn, told_of}
use Rattle.engine_run.specs.declared.runner.Runner.{Runner}
use Rattle.engine_run.specs.declared.runner.Turn.{Turn}
use Rattle.engine_run.specs.declared.runner.Turn.TheVariants.{Ended, Goes}
use Rattle.engine_run.specs.declared.unfinished.Unfinished.{Unfinished}
use Rattle.engine_run.specs.declared.unfinished.Unfinished.TheVariants.{Memory, NeedsAtoms, Waits, Worn}
use Rattle.engine_run.specs.Ran.{IsNameHeld}
use Rattle.engine_run.specs.Runners.{AnswerStands, CameTo, HasTurned, IsBetween, StandsFor, Turned, ends_by, is_over}
use Rattle.engine_run.specs.Searched.{UnlessMemory}
use Rattle.pl_sched.specs.declared.mark.Mark.{Mark}
use Rattle.pl_sched.specs.declared.mark.Mark.TheVariants as marks
use Rattle.run_model.specs.WholeRuns.{IsJob}
use Rattle.pl_sched.specs.Homes.{EndsAs, IsAtHome, IsUnderWay, is_ended}
use Rattle.pl_sched.specs.Runs.{HasGone}
use Rattle.pl_sched.proofs.HomeLaws.{goes_home, job_stays, own_home, way_home}

-- THE FRONT COMES BACK WITH ITS OWN ENGINE
pub own_again : (table : TableId) (goals e k : ℕ) (f g : FrontState) → IsOwn table e f → IsOwn table k g → IsLater (told_of goals f) (told_of goals g) → IsOwn table e g
own_again table goals e k f g own back later =
    subst (λ (n : ℕ). IsOwn table n g) (sym back.engine ∙ (later.engine ∙ own.engine)) back

module _ {S : Type 0} (execution : (ℕ → Chars) → S → Job → List Consulted → Execution) (part : S → Option Part) (plays : (ℕ → Chars) → S → Script → Type 0) (kept : S → Bool)
    (name : S → Chars) (variables : S → List (Chars × ℕ)) (done : S → Bool) (names : S → List ℕ) (p : Program) where
  abbrev Stands : Names → Told → Runner S → Job → Execution → Type 0
  Stands = λ (m : Names) (t : Told) (r : Runner S) (job : Job) (x : Execution). StandsFor execution part plays kept name variables m t r job x

  abbrev Ready : Names → Told → Runner S → Type 0
  Ready = λ (m : Names) (t : Told) (r : Runner S). IsBetween part done names m t r

  abbrev moves : Runner S → ℕ
  moves = λ (r : Runner S). r.moves

  abbrev over : Runner S → Bool
  over = λ (r : Runner S). is_over r.stage

  abbrev UnderWay : Names → Told → Runner S → Type 0
  UnderWay m t r = IsUnderWay Stands Ready moves p m t r

  abbrev Gone : Names → Told → Runner S → Names → Told → Runner S → Turned → Type 0
  Gone m t old n u new r = HasTurned execution part plays kept name variables m t old n u new r

  module _ (m n : Names) (t u : Told) (old new : Runner S) where
    -- IT IS STILL UNDER WAY, as many moves later as were counted, and the answer is told of where it stands
    module _ (r : Turned) (way : UnderWay m t old) (gone : Gone m t old n u new r) (now : Ready n u new) (later : IsLater t u) where
      came : CameTo execution part plays kept name variables way.job way.execution t old n u new r
      came = gone way.job way.execution way.stands_for

      reached_there : Reached u.engine u.goals way.job way.low (seen_in u came.there) new.moves
      reached_there =
          subst (λ (e : ℕ). Reached e u.goals way.job way.low (seen_in u came.there) new.moves) (sym came.comes.comes.engine)
          (subst (λ (g : ℕ). Reached t.engine g way.job way.low (seen_in u came.there) new.moves) (sym came.comes.comes.goals)
          (subst (λ (k : ℕ). Reached t.engine t.goals way.job way.low (seen_in u came.there) k) came.comes.counted
          (came.comes.comes.comes way.low old.moves way.reached)))

      job_there : IsJob p u.engine u.history way.job way.low
      job_there =
          subst (λ (e : ℕ). IsJob p e u.history way.job way.low) (sym later.engine)
          (subst (λ (h : History). IsJob p t.engine h way.job way.low) (sym later.grown)
          (job_stays p t.engine t.history later.later way.job way.low way.is_job))

      pub goes_on : (w : UnderWay n u new) × AnswerStands n u w.job r w.execution
      goes_on = (
        record {
          is_ready = now;
          job = way.job;
          low = way.low;
          is_job = job_there;
          execution = came.there;
          stands_for = came.stands;
          reached = reached_there;
        },
        came.answer,
      )

  module _ (table : TableId) (goals e k : ℕ) (m n : Names) (f g : FrontState) (old new : Runner S) (own : IsOwn table e f) (back : IsOwn table k g) (way : UnderWay m (told_of goals f) old) where
    abbrev GoneHome : Turned → Type 0
    GoneHome r = HasGone execution part plays kept name variables done names p table goals e n g new r

    gone_by : (r : Turned) → Gone m (told_of goals f) old n (told_of goals g) new r → Ready n (told_of goals g) new → is_over new.stage ≡ ends_by r → IsLater (told_of goals f) (told_of goals g) → IfErr r (IsNameHeld n) → GoneHome r
    gone_by r gone now over_is later named =
        let w = goes_on m n (told_of goals f) (told_of goals g) old new r way gone now later in
        record { own = own_again table goals e k f g own back later; way = w.0; answer_stands = w.1; over_is = over_is; named = named }

    pub has_gone : (r : Turned) → UnlessMemory r (Gone m (told_of goals f) old n (told_of goals g) new r) → UnlessMemory r (Ready n (told_of goals g) new) → UnlessMemory r (is_over new.stage ≡ ends_by r)
        → UnlessMemory r (IsLater (told_of goals f) (told_of goals g))
        → IfErr r (IsNameHeld n)
        → UnlessMemory r (GoneHome r)
    has_gone (Ok x) a b c d h = gone_by (Ok x) a b c d h
    has_gone (Err (Waits on at)) a b c d h = gone_by (Err (Waits on at)) a b c d h
    has_gone (Err (NeedsAtoms q)) a b c d h = gone_by (Err (NeedsAtoms q)) a b c d h
    has_gone (Err (Worn w)) a b c d h = gone_by (Err (Worn w)) a b c d h
    has_gone (Err Memory) a b c d h = tt

  -- whatever the front is called before and after
  pub has_gone_so : (table : TableId) (goals e k : ℕ) (m n : Names) (f w v g : FrontState) (old new : Runner S) → w ≡ f → g ≡ v → IsOwn table e f → IsOwn table k g
      → UnderWay m (told_of goals f) old
      → (r : Turned)
      → UnlessMemory r (Gone m (told_of goals w) old n (told_of goals v) new r)
      → UnlessMemory r (Ready n (told_of goals v) new)
      → UnlessMemory r (is_over new.stage ≡ ends_by r)
      → UnlessMemory r (IsLater (told_of goals w) (told_of goals v))
      → IfErr r (IsNameHeld n)
      → UnlessMemory r (HasGone execution part plays kept name variables done names p table goals e n g new r)
  has_gone_so table goals e k m n f w v g old new was is own back way r a b c d h =
      subst (λ (z : FrontState). UnlessMemory r (HasGone execution part plays kept name variables done names p table goals e n z new r)) (sym is)
      (has_gone table goals e k m n w v old new (subst (λ (z : FrontState). IsOwn table e z) (sym was) own) (subst (λ (z : FrontState). IsOwn table k z) is back)
      (subst (λ (z : FrontState). UnderWay m (told_of goals z) old) (sym was) way) r a b c d h)

  -- the same by other names of what is held before and after
  pub has_gone_from : (table : TableId) (goals e k : ℕ) (l m n o : Names) (f w v g : FrontState) (old new : Runner S) → m ≡ l → o ≡ n → w ≡ f → g ≡ v → IsOwn table e f → IsOwn table k g
      → UnderWay l (told_of goals f) old
      → (r : Turned)
      → UnlessMemory r (Gone m (told_of goals w) old n (told_of goals v) new r)
      → UnlessMemory r (Ready n (told_of goals v) new)
      → UnlessMemory r (is_over new.stage ≡ ends_by r)
      → UnlessMemory r (IsLater (told_of goals w) (told_of goals v))
      → IfErr r (IsNameHeld n)
      → UnlessMemory r (HasGone execution part plays kept name variables done names p table goals e o g new r)
  has_gone_from table goals e k l m n o f w v g old new first last was is own back way r a b c d h =
      subst (λ (z : Names). UnlessMemory r (HasGone execution part plays kept name variables done names p table goals e z g new r)) (sym last)
      (has_gone_so table goals e k m n f w v g old new was is own back (subst (λ (z : Names). UnderWay z (told_of goals f) old) (sym first) way) r a b c d h)

  -- AN ENGINE THAT HAS NOT ENDED leaves its home so
  pub leaves : (table : TableId) (goals e : ℕ) (k : Mark) (m : Names) (f : FrontState) (x : Runner S) → is_ended k ≡ false → IsAtHome Stands Ready moves p over table goals e k m f x
      → IsOwn table e f × UnderWay m (told_of goals f) x × (is_over x.stage ≡ false)
  leaves table goals e k m f x is home = (
    own_home table e k f is home.front,
    way_home Stands Ready moves p over k m (told_of goals f) x is home.marked,
    goes_home Stands Ready moves p over k m (told_of goals f) x is home.marked,
  )

  module _ (table : TableId) (goals e : ℕ) (m : Names) (f : FrontState) (x : Runner S) where
    abbrev HomeAfter : Turned → Type 0
    HomeAfter r = HasGone execution part plays kept name variables done names p table goals e m f x r

    pub gone_at : (r s : Turned) → r ≡ s → UnlessMemory r (HomeAfter r) → UnlessMemory s (HomeAfter s)
    gone_at r s is gone = subst (λ (y : Turned). UnlessMemory y (HomeAfter y)) is gone

    pub turn_at : (r s : Turn) → r ≡ s → HomeAfter (Ok r) → HomeAfter (Ok s)
    turn_at r s is gone = subst (λ (y : Turn). HomeAfter (Ok y)) is gone

    pub stop_at : (r s : Unfinished) → r ≡ s → UnlessMemory {E = Turn} (Err r) (HomeAfter (Err r)) → UnlessMemory {E = Turn} (Err s) (HomeAfter (Err s))
    stop_at r s is gone = subst (λ (y : Unfinished). UnlessMemory {E = Turn} (Err y) (HomeAfter (Err y))) is gone

    -- AN ENGINE THAT GOES ON is at home
    pub home_ready : HomeAfter (Ok Goes) → IsAtHome Stands Ready moves p over table goals e marks.Ready m f x
    home_ready h = record { front = h.own; marked = (h.way, h.over_is) }

    -- so is one that has no place for an atom, or found none before and has made no step since
    pub home_again : (s : SlotPass) → HomeAfter (Ok Goes) → IsAtHome Stands Ready moves p over table goals e (marks.ForCycles s) m f x
    home_again s h = record { front = h.own; marked = (h.way, h.over_is) }

    pub home_going : (k : Mark) → (k ≡ marks.Ready) ⊎ ((s : SlotPass) × (k ≡ marks.ForCycles s)) → HomeAfter (Ok Goes) → IsAtHome Stands Ready moves p over table goals e k m f x
    home_going k (inl is) h = subst (λ (y : Mark). IsAtHome Stands Ready moves p over table goals e y m f x) (sym is) (home_ready h)
    home_going k (inr is) h = subst (λ (y : Mark). IsAtHome Stands Ready moves p over table goals e y m f x) (sym is.1) (home_again is.0 h)

    -- so is one that waits
    pub home_waiting : (on : On) (at : ℕ) → HomeAfter (Err (Waits on at)) → IsAtHome Stands Ready moves p over table goals e (marks.Waits on at) m f x
    home_waiting on at h = record { front = h.own; marked = (record { way = h.way; waits = h.answer_stands.1.waits; awaits = h.answer_stands.1.awaits; held = h.named }, h.answer_stands.0, h.over_is) }

    -- and one that has ended has come to its end
    pub ends_now : (how : How Tree) → HomeAfter (Ok (Ended how)) → (w : UnderWay m (told_of goals f) x) × EndsAs p w.execution how
    ends_now how h = (h.way, inl (h.answer_stands.0, h.answer_stands.2, h.answer_stands.1))
