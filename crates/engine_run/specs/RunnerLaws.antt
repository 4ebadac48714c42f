-- A runner stands for the same execution when others have made entries.
use Rattle.std.specs.Prelude.{◌≡◌, ℕ, List, Bool, true, false, Option, Some, None, IsSome, is_some}
use Rattle.std.proofs.Common.{refl, sym, ap, subst, ◌∙◌}
use Rattle.std.specs.List.{All}
use Rattle.std.proofs.lemmas.Bool.{true≢false}
use Rattle.std.proofs.lemmas.List.Elements.{All-weaker}
use Rattle.pl_term.specs.Tree.{Chars}
use Rattle.pl_model.specs.Resolution.{Ending, Output, State}
use Rattle.run_model.specs.Execution.{Script, Job, Consulted, Execution, directing, over, searching}
use Rattle.run_model.specs.Lawful.{IsRunning}
use Rattle.atom_api.specs.Names.{Names}
use Rattle.world_api.specs.Texts.{Holds, text_of}
use Rattle.world_api.specs.Told.{Told}
use Rattle.script_api.specs.Parts.{Part, of_directive, of_goal, with_search}
use Rattle.script_api.specs.Residents.{CanHold, Waited}
use Rattle.script_api.proofs.OnceLaws.{same_texts}
use Rattle.iso_search.specs.Reading.{IsView}
use Rattle.iso_engine.specs.declared.engine.Engine.{Engine}
use Rattle.iso_engine.specs.Ready.{IsAlike, IsReady}
use Rattle.iso_engine.specs.Standing.{state_now}
use Rattle.iso_engine.specs.Views.{IsLater, view_of}
use Rattle.iso_engine.proofs.Alike.{alike_view, visits_same}
use Rattle.iso_engine.proofs.Solutions.{view_is}
use Rattle.iso_engine.proofs.Stability.{ready_later, same_state}
use Rattle.engine_run.specs.declared.runner.Lines.{Lines}
use Rattle.engine_run.specs.declared.runner.Runner.{Runner}
use Rattle.engine_run.specs.declared.runner.Stage.{Stage}
use Rattle.engine_run.specs.declared.runner.Stage.TheVariants.{Asks, Directs, Searches, Over}
use Rattle.engine_run.specs.Runners.{IsAtItem, IsBetween, OverStands, SearchStands, StageIs, StageStands, StandsFor, is_over}

some_text : (o : Option Chars) → IsSome o → (x : Chars) × (o ≡ Some x)
some_text (Some x) h = (x, refl)
some_text None h = absurd (true≢false (sym h))

-- What is held stays held.
pub still_held : (m n : Names) → Holds m n → (a : ℕ) → IsSome (m a) → IsSome (n a)
still_held m n holds a h = let x = some_text (m a) h in ap is_some (holds a x.0 x.1)

pub all_still : (m n : Names) (xs : List ℕ) → Holds m n → All (λ a. IsSome (m a)) xs → All (λ a. IsSome (n a)) xs
all_still m n xs holds held = All-weaker (λ (a : ℕ). IsSome (m a)) (λ (a : ℕ). IsSome (n a)) (still_held m n holds) xs held

waited_view : (n : Names) (u : Told) → CanHold n → IsView (view_of n u)
waited_view n u can = view_is n u can.fixed can.unlike can.finite

waited_later : (m n : Names) (t u : Told) → Waited m t n u → IsLater m t n u
waited_later m n t u w =
    record { holds = w.holds; later = w.follows.later; grown = w.follows.grown; engine = w.engine; goals = w.goals }

module _ {S : Type 0} (execution : (ℕ → Chars) → S → Job → List Consulted → Execution) (part : S → Option Part) (m n : Names) (t u : Told) (w : Waited m t n u) where
  item_later : (s : S) (d : Bool) (e : Engine) → IsAtItem part m t s d e → IsAtItem part n u s d e
  item_later s d e h =
      record {
        ready = ready_later m n t u e (waited_view n u w.can) (waited_later m n t u w) (visits_same t u w.gens) h.ready;
        works = h.works;
        item = h.item;
        at_hand = h.at_hand;
        is = h.is;
      }

  stage_later : (s : S) (g : Stage) → StageIs part m t s g → StageIs part n u s g
  stage_later s Asks h = h
  stage_later s (Directs e) h = item_later s true e h
  stage_later s (Searches e) h = item_later s false e h
  stage_later s Over h = tt

  module _ (s : S) (job : Job) (cs : List Consulted) (l : Lines) (names : List (Chars × ℕ)) (out : List ℕ) (x : Execution)
      (tell : execution (text_of m) s job cs ≡ execution (text_of n) s job cs) where
    search_later : (e : Engine) → IsReady m t e → SearchStands execution part m t s job cs l names out e x → SearchStands execution part n u s job cs l names out e x
    search_later e ready h =
        let alike : IsAlike m t (view_of n u) = alike_view m n t u (waited_later m n t u w)
        in let same : state_now (view_of n u) e h.written ≡ state_now (view_of m t) e h.written =
        same_state (view_of n u) (view_of m t) e.search e.doing h.written (ready.stable (view_of n u) (waited_view n u w.can) alike)
        in record {
          item = h.item;
          written = h.written;
          at_hand = h.at_hand;
          given = h.given;
          limits = h.limits;
          out_is = h.out_is;
          is =
              h.is
              ∙ ap (λ (y : Execution). with_search y h.item (state_now (view_of m t) e h.written)) tell
              ∙ ap (with_search (execution (text_of n) s job cs) h.item) (sym same);
        }

    abbrev over_in : Ending → List Output → Execution → Execution
    over_in ending os y = record y { activity = over ending; output = os }

    over_later : OverStands execution part m s job cs l names out x → OverStands execution part n s job cs l names out x
    over_later h =
        record { ending = h.ending; written = h.written; out_is = h.out_is; is = h.is ∙ ap (over_in h.ending h.written) tell }

    stands_later : (g : Stage) → StageIs part m t s g → StageStands execution part m t s job cs l names out g x → StageStands execution part n u s job cs l names out g x
    stands_later Asks r h = (h.0 ∙ tell, h.1)
    stands_later (Directs e) r h = search_later e r.ready h
    stands_later (Searches e) r h = search_later e r.ready h
    stands_later Over r h = over_later h

module _ {S : Type 0} (execution : (ℕ → Chars) → S → Job → List Consulted → Execution) (part : S → Option Part) (done : S → Bool) (names : S → List ℕ)
    (plays : (ℕ → Chars) → S → Script → Type 0) (kept : S → Bool) (name : S → Chars) (variables : S → List (Chars × ℕ))
    (tells : (s : S) (text other : ℕ → Chars) → All (λ a. text a ≡ other a) (names s)
    → ((job : Job) (cs : List Consulted) → execution text s job cs ≡ execution other s job cs)
    × ((x : Script) → plays text s x → plays other s x)) where
  pub between_later : (m n : Names) (t u : Told) (r : Runner S) → Waited m t n u → IsBetween part done names m t r
      → IsBetween part done names n u r
      × ((job : Job) (x : Execution)
      → StandsFor execution part plays kept name variables m t r job x
      → StandsFor execution part plays kept name variables n u r job x)
  between_later m n t u r w b =
      let tell = tells r.script (text_of m) (text_of n) (same_texts m n (names r.script) b.held w.holds)
      in (
        record {
          stage = stage_later execution part m n t u w r.script r.stage b.stage;
          held = all_still m n (names r.script) w.holds b.held;
          done_is = b.done_is;
        },
        λ job x h.
            record {
              budgets = h.budgets;
              wants = h.wants;
              playing = tell.1 job.script h.playing;
              consulted = h.consulted;
              stands =
                  stands_later execution part m n t u w r.script job h.consulted r.lines (variables r.script) r.output.items x (tell.0 job h.consulted)
                  r.stage b.stage h.stands;
              text = h.text;
            },
      )

-- A runner that has not answered how its execution has ended stands for none that has.
module _ {S : Type 0} (execution : (ℕ → Chars) → S → Job → List Consulted → Execution) (part : S → Option Part)
    (running : (text : ℕ → Chars) (s : S) (job : Job) (cs : List Consulted) → IsRunning (execution text s job cs)) where
  search_runs : (x y : Execution) (item : Part) (s : State) → x ≡ with_search y item s → IsRunning x
  search_runs x y of_goal s is ending ends = let does : x.activity ≡ searching s = ap (λ (z : Execution). z.activity) is in absurd (cc)
  search_runs x y (of_directive place rest) s is ending ends = let does : x.activity ≡ directing place rest s = ap (λ (z : Execution). z.activity) is in absurd (cc)

  stage_runs : (m : Names) (t : Told) (s : S) (job : Job) (cs : List Consulted) (l : Lines) (names : List (Chars × ℕ)) (out : List ℕ) (g : Stage) (x : Execution) → is_over g ≡ false
      → StageStands execution part m t s job cs l names out g x
      → IsRunning x
  stage_runs m t s job cs l names out Asks x going h = subst (λ (y : Execution). IsRunning y) (sym h.0) (running (text_of m) s job cs)
  stage_runs m t s job cs l names out (Directs e) x going h = search_runs x (execution (text_of m) s job cs) h.item (state_now (view_of m t) e h.written) h.is
  stage_runs m t s job cs l names out (Searches e) x going h = search_runs x (execution (text_of m) s job cs) h.item (state_now (view_of m t) e h.written) h.is
  stage_runs m t s job cs l names out Over x going h = absurd (true≢false going)

  pub not_over : (plays : (ℕ → Chars) → S → Script → Type 0) (kept : S → Bool) (name : S → Chars) (variables : S → List (Chars × ℕ)) (m : Names) (t : Told) (r : Runner S) (job : Job) (x : Execution)
      → is_over r.stage ≡ false
      → StandsFor execution part plays kept name variables m t r job x
      → IsRunning x
  not_over plays kept name variables m t r job x going h =
      stage_runs m t r.script job h.consulted r.lines (variables r.script) r.output.items r.stage x going h.stands
