-- A turn in which a slice of the search at hand was run.
use Rattle.std.proofs.Common.{◌≡◌, ℕ, ◌+◌, List, ◌++◌, Bool, true, false, Option, Some, Result, Ok, Err, IsSome, refl, sym, ap, subst, ◌∙◌}
use Rattle.std.specs.List.{All}
use Rattle.pl_term.specs.Tree.{Chars}
use Rattle.pl_model.specs.Resolution.{Limits, Output, State, solution_count}
use Rattle.pl_model.specs.Control.{step}
use Rattle.run_model.specs.Execution.{Script, Job, Consulted, Execution}
use Rattle.run_model.specs.Ends.{awaited_by}
use Rattle.run_model.specs.Report.{texts}
use Rattle.atom_api.specs.Names.{Names}
use Rattle.world_api.specs.declared.answer.On.{On}
use Rattle.world_api.specs.Answers.{on_by}
use Rattle.world_api.specs.Texts.{Holds, text_of}
use Rattle.world_api.specs.Told.{Told}
use Rattle.script_api.specs.Parts.{Part, limits_of, with_search}
use Rattle.script_api.specs.Comes.{ComesBy, ComesIn}
use Rattle.script_api.specs.Scripts.{IsLater, is_directive, written_at}
use Rattle.script_api.proofs.OnceLaws.{same_texts}
use Rattle.script_api.proofs.SearchRuns.{steps_come}
use Rattle.iso_engine.specs.declared.engine.Engine.{Engine}
use Rattle.iso_engine.specs.Slices.{IsWaitingNow}
use Rattle.iso_engine.specs.Standing.{state_now}
use Rattle.iso_engine.specs.Standing as engines
use Rattle.iso_engine.specs.Views.{view_of}
use Rattle.iso_engine.specs.Views as seen
use Rattle.iso_engine.proofs.Stability.{count-append}
use Rattle.engine_run.specs.declared.runner.Runner.{Runner}
use Rattle.engine_run.specs.declared.runner.Stage.TheVariants.{Directs, Searches}
use Rattle.engine_run.specs.declared.unfinished.Unfinished.{Unfinished}
use Rattle.engine_run.specs.declared.unfinished.Unfinished.TheVariants.{Waits, NeedsAtoms, Worn, Memory}
use Rattle.engine_run.specs.Ran.{IsNameHeld, WaitsOn}
use Rattle.engine_run.specs.RunnerLaws.{all_still}
use Rattle.engine_run.specs.Runners.{AnswerStands, HasDirected, HasSearched, HasTurned, IsAtItem, IsBetween, StandsFor, Turned, at_stage, goes_by, put_by}
use Rattle.engine_run.specs.Searched.{HasCounted, Stands, StandsAt}
use Rattle.engine_run.proofs.Searching.{asks_in}
use Rattle.engine_run.proofs.Turning.{out_directive, out_on, same_part, text_on, text_same, written_goal}

-- What the engine was told has only grown.
pub told_later : (m n : Names) (t u : Told) → seen.IsLater m t n u → IsLater t u
told_later m n t u h = record { engine = h.engine; goals = h.goals; later = h.later; grown = h.grown }

-- What is said of a search that does not go on

module _ (n : Names) (u : Told) (f : Engine) where
  waits_there : (on : On) (g : ℕ) → IsWaitingNow n u f on g → (job : Job) (x : Execution) (item : Part) (os : List Output)
      → limits_of job item ≡ engines.limits_of f
      → solution_count os ≡ f.solutions_found
      → WaitsOn u job (on_by (text_of n) on) (with_search x item (state_now (view_of n u) f os))
  waits_there on g w job x item os limits given =
      let s : State = state_now (view_of n u) f os
      in let k = asks_in job item x s w.request (w.asking.follows os given)
      (ap (λ (l : Limits). step l s) limits ∙ w.asking.asks_is os given)
      in record {
        waits = record { request = w.request; next = k.0; asks_is = k.1; served = w.waiting };
        awaits = ap (awaited_by u.engine) k.1 ∙ w.awaits;
      }

  pub answers_so : {E : Type 0} (r : Result E Unfinished) → Stands n u f r → (job : Job) (x : Execution) (item : Part) (os : List Output)
      → limits_of job item ≡ engines.limits_of f
      → solution_count os ≡ f.solutions_found
      → AnswerStands n u job (goes_by r) (with_search x item (state_now (view_of n u) f os))
  answers_so (Ok y) h job x item os limits given = tt
  answers_so (Err (Waits on g)) h job x item os limits given = (h.generation, waits_there on g h job x item os limits given)
  answers_so (Err (NeedsAtoms p)) h job x item os limits given = tt
  answers_so (Err (Worn w)) h job x item os limits given = tt
  answers_so (Err Memory) h job x item os limits given = tt

  -- The alias of what is waited on is held.
  pub name_held : (w : Unfinished) → StandsAt n u f w → IsNameHeld n w
  name_held (Waits on g) h = h.held
  name_held (NeedsAtoms p) h = tt
  name_held (Worn w) h = tt
  name_held Memory h = tt

module _ {S : Type 0} (execution : (ℕ → Chars) → S → Job → List Consulted → Execution) (part : S → Option Part) (plays : (ℕ → Chars) → S → Script → Type 0) (kept : S → Bool)
    (name : S → Chars) (variables : S → List (Chars × ℕ)) (done : S → Bool) (names : S → List ℕ)
    (lines : (text : ℕ → Chars) (s : S) (job : Job) (cs : List Consulted) → (execution text s job cs).consulted ≡ cs)
    (tells : (s : S) (text other : ℕ → Chars) → All (λ a. text a ≡ other a) (names s)
    → ((job : Job) (cs : List Consulted) → execution text s job cs ≡ execution other s job cs)
    × ((x : Script) → plays text s x → plays other s x))
    (m n : Names) (t u : Told) (holds : Holds m n) where
  module _ (s : S) (held : All (λ a. IsSome (m a)) (names s)) (e f : Engine) (put : Chars → List Output → Chars) (before after : ℕ) (a b : List ℕ)
      (ran : HasCounted put m t e before n u f after a b) where
    abbrev tell : ((job : Job) (cs : List Consulted) → execution (text_of m) s job cs ≡ execution (text_of n) s job cs)
        × ((x : Script) → plays (text_of m) s x → plays (text_of n) s x)
    tell = tells s (text_of m) (text_of n) (same_texts m n (names s) held holds)

    abbrev state_there : List Output → State
    state_there os = state_now (view_of n u) f (os ++ ran.ran.written)

    abbrev there : Job → List Consulted → Part → List Output → Execution
    there job cs item os = with_search (execution (text_of n) s job cs) item (state_there os)

    comes_there : (job : Job) (cs : List Consulted) (x : Execution) (item : Part) (os : List Output)
        → limits_of job item ≡ engines.limits_of e
        → solution_count os ≡ e.solutions_found
        → x ≡ with_search (execution (text_of m) s job cs) item (state_now (view_of m t) e os)
        → ComesBy job x t before (there job cs item os) u after
    comes_there job cs x item os limits given is =
        let l : Limits = engines.limits_of e
        in let here : State = state_now (view_of m t) e os
        in record {
          moves = ran.steps;
          comes =
              subst (λ (z : Execution). ComesIn job ran.steps z t (there job cs item os) u)
              (sym (is ∙ ap (λ (y : Execution). with_search y item here) (tell.0 job cs)))
              (steps_come l here (state_there os) t u ran.steps job (execution (text_of n) s job cs) item limits
              (ran.ran.advances.by_steps os given));
          counted = ran.counted;
        }

    given_there : (os : List Output) → solution_count os ≡ e.solutions_found → solution_count (os ++ ran.ran.written) ≡ f.solutions_found
    given_there os given =
        count-append os ran.ran.written ∙ ap (λ k. k + solution_count ran.ran.written) given ∙ sym ran.ran.advances.given

    limits_there : (job : Job) (item : Part) → limits_of job item ≡ engines.limits_of e → limits_of job item ≡ engines.limits_of f
    limits_there job item limits = limits ∙ sym ran.ran.advances.limits

  -- The item at hand is the one for which the engine searches.
  item_is : (s : S) (d : Bool) (e : Engine) (item : Part) → IsAtItem part m t s d e → part s ≡ Some item → is_directive item ≡ d
  item_is s d e item h at = ap is_directive (sym (same_part h.item item (part s) h.at_hand at)) ∙ h.is

  -- After a slice of a directive.
  pub directed_on : (old new : Runner S) (e : Engine) (r : Turned) → r ≡ goes_by r
      → IsBetween part done names m t (at_stage old (Directs e))
      → HasDirected m t old e n u new r
      → HasTurned execution part plays kept name variables m t (at_stage old (Directs e)) n u new r
  directed_on old new e r goes ready h job x st =
      let s : S = old.script
      in let f : Engine = h.engine
      in let ran = h.searched.counted
      in let c = st.stands
      in let cs : List Consulted = st.consulted
      in let directive : is_directive c.item ≡ true = item_is s true e c.item ready.stage c.at_hand
      in let y : Execution = there s ready.held e f texts old.moves new.moves old.text.items new.text.items ran job cs c.item c.written
      in let os : List Output = c.written ++ ran.ran.written
      in let limits : limits_of job c.item ≡ engines.limits_of f =
      limits_there s ready.held e f texts old.moves new.moves old.text.items new.text.items ran job c.item c.limits
      in let given : solution_count os ≡ f.solutions_found =
      given_there s ready.held e f texts old.moves new.moves old.text.items new.text.items ran c.written c.given
      in record {
        there = y;
        comes = comes_there s ready.held e f texts old.moves new.moves old.text.items new.text.items ran job cs x c.item c.written c.limits c.given c.is;
        stands =
            subst (λ (z : Runner S). StandsFor execution part plays kept name variables n u z job y) (sym h.is)
            (record {
              budgets = st.budgets;
              wants = st.wants;
              playing = (tell s ready.held e f texts old.moves new.moves old.text.items new.text.items ran).1 job.script st.playing;
              consulted = cs;
              stands =
                  record {
                    item = c.item;
                    written = os;
                    at_hand = c.at_hand;
                    given = given;
                    limits = limits;
                    out_is = out_directive old.lines (variables s) c.item c.written os old.output.items directive c.out_is;
                    is = refl;
                  };
              text =
                  text_on (name s) (kept s) x y (execution (text_of m) s job cs) (execution (text_of n) s job cs) c.item (state_now (view_of m t) e c.written)
                  (state_there s ready.held e f texts old.moves new.moves old.text.items new.text.items ran c.written) cs ran.ran.written old.text.items new.text.items
                  directive (lines (text_of m) s job cs) (lines (text_of n) s job cs) c.is refl refl st.text ran.ran.out;
            });
        answer =
            subst (λ (q : Turned). AnswerStands n u job q y) (sym goes)
            (answers_so n u f r h.searched.stands job (execution (text_of n) s job cs) c.item os limits given);
      }

  -- After a slice of the engine's goal.
  pub searched_on : (old new : Runner S) (e : Engine) (r : Turned) → r ≡ goes_by r
      → IsBetween part done names m t (at_stage old (Searches e))
      → HasSearched variables m t old e n u new r
      → HasTurned execution part plays kept name variables m t (at_stage old (Searches e)) n u new r
  searched_on old new e r goes ready h job x st =
      let s : S = old.script
      in let f : Engine = h.engine
      in let ran = h.searched.counted
      in let put : Chars → List Output → Chars = put_by old.lines (variables s)
      in let c = st.stands
      in let cs : List Consulted = st.consulted
      in let goal : is_directive c.item ≡ false = item_is s false e c.item ready.stage c.at_hand
      in let y : Execution = there s ready.held e f put old.moves new.moves old.output.items new.output.items ran job cs c.item c.written
      in let os : List Output = c.written ++ ran.ran.written
      in let limits : limits_of job c.item ≡ engines.limits_of f =
      limits_there s ready.held e f put old.moves new.moves old.output.items new.output.items ran job c.item c.limits
      in let given : solution_count os ≡ f.solutions_found =
      given_there s ready.held e f put old.moves new.moves old.output.items new.output.items ran c.written c.given
      in let before = ap written_at c.is
      ∙ written_goal (execution (text_of m) s job cs) c.item (state_now (view_of m t) e c.written) cs goal (lines (text_of m) s job cs)
      in let after =
      written_goal (execution (text_of n) s job cs) c.item
      (state_there s ready.held e f put old.moves new.moves old.output.items new.output.items ran c.written) cs goal (lines (text_of n) s job cs)
      in record {
        there = y;
        comes = comes_there s ready.held e f put old.moves new.moves old.output.items new.output.items ran job cs x c.item c.written c.limits c.given c.is;
        stands =
            subst (λ (z : Runner S). StandsFor execution part plays kept name variables n u z job y) (sym h.is)
            (record {
              budgets = st.budgets;
              wants = st.wants;
              playing = (tell s ready.held e f put old.moves new.moves old.output.items new.output.items ran).1 job.script st.playing;
              consulted = cs;
              stands =
                  record {
                    item = c.item;
                    written = os;
                    at_hand = c.at_hand;
                    given = given;
                    limits = limits;
                    out_is = out_on old.lines (variables s) c.item c.written ran.ran.written old.output.items new.output.items goal c.out_is ran.ran.out;
                    is = refl;
                  };
              text = text_same (name s) (kept s) x y old.text.items (after ∙ sym before) st.text;
            });
        answer =
            subst (λ (q : Turned). AnswerStands n u job q y) (sym goes)
            (answers_so n u f r h.searched.stands job (execution (text_of n) s job cs) c.item os limits given);
      }

  -- Between two turns after it.
  pub directed_between : (old new : Runner S) (e : Engine) (r : Turned) → IsBetween part done names m t (at_stage old (Directs e)) → HasDirected m t old e n u new r
      → IsBetween part done names n u new
  directed_between old new e r ready h =
      subst (λ (z : Runner S). IsBetween part done names n u z) (sym h.is)
      (record {
        stage = record { ready = h.ready; works = h.works; item = ready.stage.item; at_hand = ready.stage.at_hand; is = ready.stage.is };
        held = all_still m n (names old.script) holds ready.held;
        done_is = ready.done_is;
      })

  pub searched_between : (old new : Runner S) (e : Engine) (r : Turned) → IsBetween part done names m t (at_stage old (Searches e)) → HasSearched variables m t old e n u new r
      → IsBetween part done names n u new
  searched_between old new e r ready h =
      subst (λ (z : Runner S). IsBetween part done names n u z) (sym h.is)
      (record {
        stage = record { ready = h.ready; works = h.works; item = ready.stage.item; at_hand = ready.stage.at_hand; is = ready.stage.is };
        held = all_still m n (names old.script) holds ready.held;
        done_is = ready.done_is;
      })
