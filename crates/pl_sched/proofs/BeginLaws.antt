-- An engine that begins: it is under way, and has made no move.
use Rattle.std.proofs.Common.{◌≡◌, ◌≤◌, ◌<◌, ◌+◌, ℕ, zero, suc, List, [], ◌∷◌, ◌&&◌, Bool, true, false, length, Option, Some, None, IsSome, slice_index_or, refl, sym, ap, subst, ◌∙◌, arith, inr}
use Rattle.std.specs.Prelude.{Contains, nat_le, if◌then◌else◌}
use Rattle.std.specs.List.{All}
use Rattle.pl_term.specs.Tree.{Chars, Tree}
use Rattle.atomic_table.specs.Seated.{TableId}
use Rattle.pl_model.specs.History.{Entry, History, Kind, abolish, add_first, add_last, drop_queue, erase, finish, join, make_queue, mine, send, set_dynamic, set_flag, set_op, start}
use Rattle.pl_model.specs.History as entries
use Rattle.pl_model.specs.Resolution.{Limits}
use Rattle.pl_model.specs.Threads.{goal_alias}
use Rattle.run_model.specs.Execution.{Script, Job, Consulted, Execution, at_activity, at_start, beginning, runs}
use Rattle.run_model.specs.Lawful.{Beginning, Program, beginnings, beginnings_from, is_goal_number, started_job}
use Rattle.run_model.specs.Progress.{Reached}
use Rattle.run_model.proofs.Progress.{reached_start}
use Rattle.atom_api.specs.Names.{Names}
use Rattle.term_store.specs.NumberedNames.{names_of, term_by}
use Rattle.world_api.specs.Texts.{text_of}
use Rattle.world_api.specs.Told.{Told}
use Rattle.script_api.specs.Parts.{Part, seen_in}
use Rattle.script_api.specs.Starts.{StartsWith}
use Rattle.pl_history.specs.Fronts.{FrontState, own_generations}
use Rattle.pl_hub.specs.Fronts.{IsOwn, told_of}
use Rattle.engine_run.specs.declared.runner.Lines.{Lines}
use Rattle.engine_run.specs.declared.runner.Runner.{Runner}
use Rattle.engine_run.specs.declared.runner.Stage.{Stage}
use Rattle.engine_run.specs.declared.runner.Stage.TheVariants.{Asks}
use Rattle.engine_run.specs.Items.{IsText}
use Rattle.engine_run.specs.Ran.{HasAims, HasBudgets}
use Rattle.engine_run.specs.Runners.{IsBetween, StageIs, StageStands, StandsFor, is_over}
use Rattle.iso_search.specs.declared.search.Budgets.{Budgets}
use Rattle.iso_engine.specs.Standing.{staying}
use Rattle.pl_sched.specs.declared.ground.Terms.{Terms}
use Rattle.pl_sched.specs.declared.mark.Mark.TheVariants.{Ready}
use Rattle.pl_sched.specs.Homes.{IsAtHome, IsUnderWay}
use Rattle.pl_sched.specs.Newcomers.{IsNew}
use Rattle.pl_sched.specs.Terms.{AreTerms}

-- AN ENGINE BEGINS within the history that began it
abbrev LowIn : ℕ → Beginning → List Beginning → Type 0
LowIn high b bs = Contains bs b → b.low ≤ high

in_started : (high : ℕ) (b c : Beginning) (bs : List Beginning) → c.low ≤ high → LowIn high b bs → LowIn high b (c ∷ bs)
in_started high b c bs low rest k = by_index k.0 k.1 k.2
  where
    by_index : (i : ℕ) → i < suc (length bs) → slice_index_or (c ∷ bs) i b ≡ b → b.low ≤ high
    by_index zero lt is = subst (λ (x : Beginning). x.low ≤ high) is low
    by_index (suc j) lt is = rest (j, omega (arith, lt), is)

low_by : (place e : ℕ) (k : Kind) (xs : History) (b : Beginning) → LowIn (suc place + length xs) b (beginnings_from (suc place) xs)
    → LowIn (place + suc (length xs)) b (beginnings_from place (record { engine = e; kind = k } ∷ xs))
low_by place e (start n u a) xs b rest k =
    in_started (place + suc (length xs)) b (record { engine = n; goal = u; alias = a; low = suc place }) (beginnings_from (suc place) xs) (omega arith) (λ (j : Contains (beginnings_from (suc place) xs) b). let low = rest j in omega (arith, low)) k
low_by place e (add_first p c o) xs b rest k = let low = rest k in omega (arith, low)
low_by place e (add_last p c o) xs b rest k = let low = rest k in omega (arith, low)
low_by place e (erase j) xs b rest k = let low = rest k in omega (arith, low)
low_by place e (abolish p) xs b rest k = let low = rest k in omega (arith, low)
low_by place e (set_dynamic ps) xs b rest k = let low = rest k in omega (arith, low)
low_by place e (set_flag f v) xs b rest k = let low = rest k in omega (arith, low)
low_by place e (set_op os) xs b rest k = let low = rest k in omega (arith, low)
low_by place e (make_queue i a) xs b rest k = let low = rest k in omega (arith, low)
low_by place e (drop_queue i) xs b rest k = let low = rest k in omega (arith, low)
low_by place e (send i u) xs b rest k = let low = rest k in omega (arith, low)
low_by place e (entries.take j) xs b rest k = let low = rest k in omega (arith, low)
low_by place e (finish how steps) xs b rest k = let low = rest k in omega (arith, low)
low_by place e (join i) xs b rest k = let low = rest k in omega (arith, low)

low_from : (place : ℕ) (h : History) (b : Beginning) → LowIn (place + length h) b (beginnings_from place h)
low_from place [] b k = absurd (let lt = k.1 in omega (arith, lt))
low_from place (x ∷ xs) b k = low_by place x.engine x.kind xs b (low_from (suc place) xs b) k

pub low_within : (h : History) (b : Beginning) → Contains (beginnings h) b → b.low ≤ length h
low_within h b k = let low = low_from zero h b k in omega (arith, low)

-- ITS LIMITS are those of the command
budgets_by : (t : Budgets) (l : Limits) (own : Option Chars) (c : Bool) → HasBudgets t l → HasBudgets t (if c then record l { stays = own } else record l { solutions = 1; stays = None })
budgets_by t l own true has = record { inferences = has.inferences; cells = has.cells; choices = has.choices }
budgets_by t l own false has = record { inferences = has.inferences; cells = has.cells; choices = has.choices }

wanted_by : (l : Limits) (own : Option Chars) (n : ℕ) (c : Bool) → l.solutions ≡ n
    → (if c then record l { stays = own } else record l { solutions = 1; stays = None }).solutions ≡ (if c then n else 1)
wanted_by l own n true is = is
wanted_by l own n false is = refl

stays_by : (l : Limits) (own : Option Chars) (c : Bool) → (if c then record l { stays = own } else record l { solutions = 1; stays = None }).stays ≡ (if c then own else None)
stays_by l own true = refl
stays_by l own false = refl

module _ {S : Type 0} (execution : (ℕ → Chars) → S → Job → List Consulted → Execution) (part : S → Option Part) (plays : (ℕ → Chars) → S → Script → Type 0) (kept : S → Bool)
    (name : S → Chars) (variables : S → List (Chars × ℕ)) (done : S → Bool) (names : S → List ℕ) (p : Program) where
  -- A RUNNER THAT HAS MADE NO MOVE, with the script of the goal, under the terms of the command
  pub record IsFresh (terms : Terms) (e : ℕ) (goal : Tree) (r : Runner S) : Type 0 where
    pub starts : StartsWith execution part plays done kept names goal r.script
    pub stage : r.stage ≡ Asks
    pub budgets : r.budgets ≡ terms.budgets
    pub wanted : r.wanted ≡ (if (nat_le 2 e && nat_le e terms.goals) then terms.solutions else 1)
    pub stays : staying r.stays ≡ (if (nat_le 2 e && nat_le e terms.goals) then Some (goal_alias e) else None)
    pub text : r.text.items ≡ []
    pub output : r.output.items ≡ []
    pub moves : r.moves ≡ 0

  module _ (table : TableId) (goals e : ℕ) (goal : Tree) (m : Names) (f : FrontState) (new : IsNew table e goal m f) (terms : Terms) (are : AreTerms p terms) (r : Runner S) (fresh : IsFresh terms e goal r) where
    abbrev job : Job
    job = started_job p new.begun

    abbrev there : Execution
    there = at_start job

    of_command : is_goal_number p new.begun.engine ≡ (nat_le 2 e && nat_le e terms.goals)
    of_command = ap (is_goal_number p) new.engine ∙ ap (λ (n : ℕ). nat_le 2 e && nat_le e n) are.goals

    abbrev text : ℕ → Chars
    text = text_of m

    starts_there : there ≡ execution text r.script job []
    starts_there = ap (λ (t : Tree). at_activity (beginning t)) new.goal_is ∙ sym (fresh.starts.execution_is text job)

    between : IsBetween part done names m (told_of goals f) r
    between =
        record {
          stage = subst (λ (g : Stage). StageIs part m (told_of goals f) r.script g) (sym fresh.stage) fresh.starts.nothing;
          held = subst (λ (xs : List ℕ). All (λ a. IsSome (m a)) xs) (sym fresh.starts.named) new.named;
          done_is = fresh.starts.goes_on ∙ sym (ap is_over fresh.stage);
        }

    stands : StandsFor execution part plays kept name variables m (told_of goals f) r job there
    stands =
        record {
          budgets = subst (λ (b : Budgets). HasBudgets b job.limits) (sym fresh.budgets) (budgets_by terms.budgets p.limits (Some (goal_alias new.begun.engine)) (is_goal_number p new.begun.engine) are.budgets);
          wants =
              record {
                solutions =
                    wanted_by p.limits (Some (goal_alias new.begun.engine)) terms.solutions (is_goal_number p new.begun.engine) are.solutions
                    ∙ (ap (λ (c : Bool). if c then terms.solutions else 1) of_command ∙ sym fresh.wanted);
                stays_so =
                    stays_by p.limits (Some (goal_alias new.begun.engine)) (is_goal_number p new.begun.engine)
                    ∙ (ap (λ (c : Bool). if c then Some (goal_alias new.begun.engine) else None) of_command
                    ∙ (ap (λ (n : ℕ). if (nat_le 2 e && nat_le e terms.goals) then Some (goal_alias n) else None) new.engine ∙ sym fresh.stays));
              };
          playing = subst (λ (t : Tree). plays text r.script (runs t)) (sym new.goal_is) (fresh.starts.playing text);
          consulted = [];
          stands = subst (λ (g : Stage). StageStands execution part m (told_of goals f) r.script job [] r.lines (variables r.script) r.output.items g there) (sym fresh.stage) (starts_there, fresh.output);
          text = (fresh.text, sym fresh.starts.faultless);
        }

    reached : Reached (told_of goals f).engine goals job new.begun.low (seen_in (told_of goals f) there) r.moves
    reached =
        subst (λ (k : ℕ). Reached (told_of goals f).engine goals job new.begun.low (seen_in (told_of goals f) there) k) (sym fresh.moves)
        (subst (λ (gs : List ℕ). Reached (told_of goals f).engine goals job new.begun.low (record { execution = there; history = f.seen; gens = gs }) 0) (sym new.nothing)
        (reached_start (told_of goals f).engine goals job new.begun.low f.seen
        (ap (mine f.seen) new.own.engine ∙ (sym new.own.updates ∙ new.silent))
        (low_within f.seen new.begun new.among)))

    -- IT IS UNDER WAY
    pub under_way : IsUnderWay (λ (n : Names) (u : Told) (q : Runner S) (j : Job) (x : Execution). StandsFor execution part plays kept name variables n u q j x)
        (λ (n : Names) (u : Told) (q : Runner S). IsBetween part done names n u q) (λ (q : Runner S). q.moves) p m (told_of goals f) r
    under_way =
        record {
          is_ready = between;
          job = job;
          low = new.begun.low;
          is_job = inr (new.begun, new.among, new.engine ∙ sym new.own.engine, refl, refl);
          execution = there;
          stands_for = stands;
          reached = reached;
        }

    pub not_over_yet : is_over r.stage ≡ false
    not_over_yet = ap is_over fresh.stage

    -- AT HOME, and ready
    pub home_begun : IsAtHome (λ (n : Names) (u : Told) (q : Runner S) (j : Job) (x : Execution). StandsFor execution part plays kept name variables n u q j x)
        (λ (n : Names) (u : Told) (q : Runner S). IsBetween part done names n u q) (λ (q : Runner S). q.moves) p (λ (q : Runner S). is_over q.stage) table goals e Ready m f r
    home_begun = record { front = new.own; marked = (under_way, not_over_yet) }
