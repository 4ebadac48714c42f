-- The end of an engine that a worker carries.
use Rattle.std.proofs.Common.{◌≡◌, ℕ, List, [], ◌∷◌, ◌++◌, Bool, false, length, refl, sym, ap, subst, ◌∙◌, append-nil, inr}
use Rattle.pl_term.specs.Tree.{Tree}
use Rattle.atomic_table.specs.Seated.{TableId}
use Rattle.pl_model.specs.declared.ends.AtomRecord.{AtomRecord}
use Rattle.pl_model.specs.declared.ends.How.{How}
use Rattle.pl_model.specs.declared.ends.How.TheVariants.{AtomSpace}
use Rattle.pl_model.specs.History.{History, finish}
use Rattle.run_model.specs.AtomRecords.{IsTrue}
use Rattle.run_model.specs.Execution.{Job, Execution}
use Rattle.run_model.specs.Lawful.{IsRunning, Program}
use Rattle.atom_api.specs.Names.{Names}
use Rattle.world_api.specs.Texts.{Holds}
use Rattle.world_api.specs.Told.{Follows, Told}
use Rattle.script_api.specs.Residents.{CanHold, Waited}
use Rattle.pl_history.specs.Fronts.{FrontState}
use Rattle.pl_hub.specs.Ending.{IsEnded, IsOver}
use Rattle.pl_hub.specs.Fronts.{IsOwn, told_of}
use Rattle.pl_hub.specs.Settling.{entry}
use Rattle.pl_sched.specs.declared.mark.End.{End}
use Rattle.pl_sched.specs.declared.mark.Mark.TheVariants.{Ended}
use Rattle.pl_sched.proofs.Running.{still_runs}
use Rattle.pl_sched.specs.Homes.{EndsAs, HasEnded, IsAtHome, IsStandingAt, IsUnderWay}

module _ {E : Type 0} (stands : Names → Told → E → Job → Execution → Type 0) (ready : Names → Told → E → Type 0) (moves : E → ℕ) (p : Program) where
  abbrev pub EndsHere : Names → Told → E → How Tree → Type 0
  EndsHere m t x how = (way : IsUnderWay stands ready moves p m t x) × EndsAs p way.execution how

  -- ITS ATOMS HOLD MORE, and it is under way as it was
  pub ends_still : ((m n : Names) (t u : Told) (e : E) → Waited m t n u → ready m t e → ready n u e × ((job : Job) (x : Execution) → stands m t e job x → stands n u e job x))
      → (m n : Names) (t : Told) (x : E) (how : How Tree) → Holds m n → CanHold n
      → EndsHere m t x how
      → EndsHere n t x how
  ends_still later m n t x how holds can here =
      let way = here.0 in
      let waited : Waited m t n t = record { holds = holds; can = can; engine = refl; goals = refl; gens = refl; follows = record { later = []; grown = sym (append-nil t.history); others = refl } } in
      let there = later m n t t x waited way.is_ready in (
        record {
          is_ready = there.0;
          job = way.job;
          low = way.low;
          is_job = way.is_job;
          execution = way.execution;
          stands_for = there.1 way.job way.execution way.stands_for;
          reached = way.reached;
        },
        here.1,
      )

  -- AN ENGINE WHOSE END WAS ENTERED is at home
  module _ (over : E → Bool) (table : TableId) (goals e : ℕ) (m : Names) (f g hub new : FrontState) (x : E) (end : End) where
    pub home_ended : (count : ℕ) → count ≡ moves x → IsOwn table e f → EndsHere m (told_of goals f) x end.how → IsEnded goals e (finish end.how count) f g hub new
        → IsStandingAt goals hub.seen (length hub.seen) end.operators end.quotes
        → IsAtHome stands ready moves p over table goals e (Ended end) m g x
    home_ended count counted own here ended standing =
        let told = ended.told in
        record {
          front = subst (λ (t : TableId). IsOver t e g) own.table ended.over;
          marked = record {
            before = told_of goals f;
            runs = still_runs goals f own;
            way = here.0;
            engine = ap (λ (t : Told). t.engine) told;
            goals = ap (λ (t : Told). t.goals) told;
            gens = ap (λ (t : Told). t.gens) told;
            entries = hub.seen;
            follows = subst (λ (n : ℕ). Follows n f.seen hub.seen) (sym own.engine) ended.follows;
            history =
                ap (λ (t : Told). t.history) told
                ∙ (ap (λ (n : ℕ). hub.seen ++ record { engine = n; kind = finish end.how count } ∷ []) (sym own.engine)
                ∙ ap (λ (k : ℕ). hub.seen ++ record { engine = (told_of goals f).engine; kind = finish end.how k } ∷ []) counted);
            ends = here.1;
            standing = standing;
          };
        }

  -- AN ENGINE FOR WHOSE ATOM THERE IS NO PLACE ends so
  pub wants_atoms : (over : E → Bool) → ((m : Names) (t : Told) (e : E) (job : Job) (x : Execution) → ready m t e → over e ≡ false → stands m t e job x → IsRunning x)
      → (m : Names) (t : Told) (x : E) (found : AtomRecord) → over x ≡ false → IsTrue p.slots found → IsUnderWay stands ready moves p m t x
      → EndsHere m t x (AtomSpace found)
  wants_atoms over running m t x found going true_ way = (way, inr (found, refl, running m t x way.job way.execution way.is_ready going way.stands_for, true_))
