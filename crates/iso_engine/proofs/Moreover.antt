-- What an engine comes to by a step in which its goal writes.
use Rattle.std.proofs.Common.{◌≡◌, ◌+◌, List, [], ◌++◌, Option, None, refl, sym, ap, subst, ◌∙◌, arith, append-nil}
use Rattle.pl_term.specs.Tree.{Chars}
use Rattle.pl_model.specs.History.{History, Kind}
use Rattle.pl_model.specs.Requests.{Request, Reply}
use Rattle.pl_model.specs.Service.{answers, served_now}
use Rattle.pl_model.specs.Resolution.{failing, Output, State, asks, goes, solution_count}
use Rattle.pl_model.specs.Control.{step}
use Rattle.atom_api.specs.Names.{Names}
use Rattle.world_api.specs.Texts.{Holds}
use Rattle.world_api.specs.Told.{Told, Follows}
use Rattle.world_api.proofs.SearchStepLaws.{steps_go, steps_stay}
use Rattle.iso_search.specs.Outcomes.{Setting, limits_in}
use Rattle.iso_search.specs.Reading.{IsView, View}
use Rattle.iso_search.specs.Searching.{IsWhole}
use Rattle.iso_engine.specs.Called.{IsAsked}
use Rattle.iso_engine.specs.declared.engine.Engine.{Engine}
use Rattle.iso_engine.specs.Advancing.{Advances}
use Rattle.iso_engine.specs.Asking.{IsAnswered}
use Rattle.iso_engine.specs.Views.{IsLater, view_of}
use Rattle.iso_engine.specs.Ready.{IsAlike, IsReady, IsStable}
use Rattle.iso_engine.specs.Spending.{IsSpent}
use Rattle.iso_engine.specs.Standing.{aims_of, limits_of, staying, state_at, state_now}
use Rattle.iso_engine.proofs.Alike.{alike_itself, alike_view}
use Rattle.iso_engine.proofs.Later.{later_stays}
use Rattle.iso_engine.proofs.Moving.{asked_later, asked_ready, asks_same, seen_ready}
use Rattle.iso_engine.proofs.Spending.{Spends, step_spends}
use Rattle.iso_engine.proofs.Stability.{advance_asks, advance_seen, advance_then, limits_same, or_same, same_state, some_output}

-- The engine has come a step further, in which the goal wrote this.
abbrev pub IsMovedBy : Names → Told → Engine → Names → Told → Engine → List Output → Type 0
IsMovedBy m t e n u f more = Advances 1 m t e n u f more × IsReady n u f × IsSpent e.search.inferences f.search.inferences

module _ (m n : Names) (t u : Told) (e f : Engine) (more : List Output) (none : solution_count more ≡ 0) (holds : Holds m n) (view : IsView (view_of n u))
    (ready : IsReady m t e) (budgets : f.search.budgets ≡ e.search.budgets) (wanted : aims_of f ≡ aims_of e) (given : f.solutions_found ≡ e.solutions_found) (whole : IsWhole f.search) where
  abbrev set : View → Option Chars → List Output → Setting
  set v stays out = record { view = v; solutions = e.solution_limit; stays = stays; doing = failing; output = out }

  gave_is : f.solutions_found ≡ e.solutions_found + solution_count more
  gave_is = omega (arith, given, none)

  -- By each view by which the engine may be read from then on, a step leads to the other state.
  abbrev pub StepsBy : Type 0
  StepsBy =
      (r : Setting) → IsView r.view → IsAlike n u r.view → r.solutions ≡ e.solution_limit → solution_count r.output ≡ e.solutions_found
      → step (limits_in r e.search) (state_at r.view e.search e.doing r.output) ≡ goes (state_at r.view f.search f.doing (r.output ++ more))

  -- A step of the search's own.
  module _ (told : u ≡ t) (steps : StepsBy) where
    entries : Follows t.engine t.history t.history
    entries = record { later = []; grown = sym (append-nil t.history); others = refl }

    here : IsReady n u e
    here = seen_ready m n t u e f holds view ready t.history entries told

    advanced : Advances 1 n u e n u f more
    advanced =
        record {
          by_steps =
              λ written count.
              let l = limits_of e
              in let s = state_now (view_of n u) e written
              in steps_go l s s (state_now (view_of n u) f (written ++ more)) u u 0 (steps_stay l s u)
              (steps (set (view_of n u) (staying e.stays) written) view (alike_itself n u) refl count);
          limits = limits_same e f budgets wanted;
          given = gave_is;
          later = later_stays n u;
        }

    stepped_alike : IsStable n u f.search f.doing
    stepped_alike v other alike =
        let o = some_output e.solutions_found
        in let l = limits_in (set v None o.0) e.search
        in let same : state_at v f.search f.doing (o.0 ++ more) ≡ state_at (view_of n u) f.search f.doing (o.0 ++ more) =
        ap (or_same (state_at (view_of n u) f.search f.doing (o.0 ++ more)))
        (sym (steps (set v None o.0) other alike refl o.1)
        ∙ ap (step l) (same_state v (view_of n u) e.search e.doing o.0 (here.stable v other alike))
        ∙ steps (set (view_of n u) None o.0) view (alike_itself n u) refl o.1)
        in (ap (λ (s : State). s.choices) same, ap (λ (s : State). s.doing) same)

    stepped_spends : IsSpent e.search.inferences f.search.inferences
    stepped_spends =
        let o = some_output e.solutions_found
        in let r = set (view_of n u) None o.0
        in subst (Spends e.search.inferences) (steps r view (alike_itself n u) refl o.1) (step_spends (limits_in r e.search) (state_at (view_of n u) e.search e.doing o.0))

    pub moved_alone : IsMovedBy m t e n u f more
    moved_alone = (
      advance_then 0 1 m n n t u u e e f [] more (advance_seen m n t u e t.history ready.stable view entries told holds) advanced,
      record { whole = whole; stable = stepped_alike },
      stepped_spends,
    )

  -- The engine asks, and stands where the reply leads to, by each view by which it may be read from then on.
  abbrev pub AsksBy : Request → Reply → Type 0
  AsksBy q reply =
      (r : Setting) → IsView r.view → IsAlike n u r.view → r.solutions ≡ e.solution_limit → solution_count r.output ≡ e.solutions_found
      → (next : Reply → State)
      × (step (limits_in r e.search) (state_at r.view e.search e.doing r.output) ≡ asks q next)
      × (next reply ≡ state_at r.view f.search f.doing (r.output ++ more))

  module _ (before : History) (update : Option Kind) (asked : IsAsked t before update u) (q : Request) (reply : Reply) (served : served_now t.engine t.goals before q ≡ answers reply update)
      (asks_by : AsksBy q reply) where
    later : IsLater m t n u
    later = asked_later m n t u e f holds view ready before update asked

    there : IsReady n u e
    there = asked_ready m n t u e f holds view ready before update asked

    answered : IsAnswered m t e n u f more
    answered =
        record {
          before = before;
          request = q;
          reply = reply;
          update = update;
          entries = asked.follows;
          served = served;
          told = asked.told;
          asking =
              record {
                follows = λ written count. (asks_by (set (view_of n u) (staying e.stays) written) view (alike_itself n u) refl count).0;
                asks_is =
                    λ written count.
                    ap (step (limits_of e))
                    (sym (same_state (view_of n u) (view_of m t) e.search e.doing written (ready.stable (view_of n u) view (alike_view m n t u later))))
                    ∙ (asks_by (set (view_of n u) (staying e.stays) written) view (alike_itself n u) refl count).1;
              };
          stands = λ written count. (asks_by (set (view_of n u) (staying e.stays) written) view (alike_itself n u) refl count).2;
        }

    led_alike : (o : List Output) → solution_count o ≡ e.solutions_found → (v : View) → IsView v → IsAlike n u v
        → state_at v f.search f.doing (o ++ more) ≡ state_at (view_of n u) f.search f.doing (o ++ more)
    led_alike o count v other alike =
        let l = limits_in (set v None o) e.search
        in let one = asks_by (set v None o) other alike refl count
        in let two = asks_by (set (view_of n u) None o) view (alike_itself n u) refl count
        in let next : one.0 ≡ two.0 =
        asks_same q q one.0 two.0 (sym one.1 ∙ ap (step l) (same_state v (view_of n u) e.search e.doing o (there.stable v other alike)) ∙ two.1)
        in sym one.2 ∙ ap (λ (k : Reply → State). k reply) next ∙ two.2

    asked_alike : IsStable n u f.search f.doing
    asked_alike v other alike =
        let o = some_output e.solutions_found
        in let same = led_alike o.0 o.1 v other alike
        in (ap (λ (s : State). s.choices) same, ap (λ (s : State). s.doing) same)

    asked_spends : IsSpent e.search.inferences f.search.inferences
    asked_spends =
        let o = some_output e.solutions_found
        in let r = set (view_of n u) None o.0
        in let at = asks_by r view (alike_itself n u) refl o.1
        in let most : Spends e.search.inferences (asks q at.0) =
        subst (Spends e.search.inferences) at.1 (step_spends (limits_in r e.search) (state_at (view_of n u) e.search e.doing o.0))
        in subst (λ (s : State). IsSpent e.search.inferences s.inferences) at.2 (most reply)

    pub moved_asking : IsMovedBy m t e n u f more
    moved_asking = (
      advance_asks m n t u e f more answered holds (limits_same e f budgets wanted) gave_is,
      record { whole = whole; stable = asked_alike },
      asked_spends,
    )
