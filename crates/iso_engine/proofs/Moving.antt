-- What an engine comes to by a step after entries of others, or by a request.
use Rattle.std.proofs.Common.{◌≡◌, ◌+◌, List, [], ◌++◌, Option, None, refl, sym, ap, subst, ◌∙◌, arith, append-nil, append_assoc}
use Rattle.pl_term.specs.Tree.{Chars}
use Rattle.pl_model.specs.History.{History, Kind}
use Rattle.pl_model.specs.Requests.{Request, Reply}
use Rattle.pl_model.specs.Service.{answers, entry_by, served_now}
use Rattle.pl_model.specs.Resolution.{failing, Output, State, asks, solution_count}
use Rattle.pl_model.specs.Control.{step}
use Rattle.atom_api.specs.Names.{Names}
use Rattle.world_api.specs.Texts.{Holds}
use Rattle.world_api.specs.Told.{Told, Follows}
use Rattle.world_api.specs.Answers.{seen_as}
use Rattle.iso_search.specs.Outcomes.{Setting, limits_in}
use Rattle.iso_search.specs.Reading.{IsView, View}
use Rattle.iso_search.specs.Searching.{IsWhole}
use Rattle.iso_engine.specs.Called.{IsAsked}
use Rattle.iso_engine.specs.declared.engine.Engine.{Engine}
use Rattle.iso_engine.specs.Advancing.{Advances}
use Rattle.iso_engine.specs.Asking.{IsAnswered}
use Rattle.iso_engine.specs.Views.{IsLater, view_of}
use Rattle.iso_engine.specs.Ready.{IsAlike, IsReady, IsStable, StepsAs, StepsFrom}
use Rattle.iso_engine.specs.Spending.{IsSpent}
use Rattle.iso_engine.specs.Standing.{aims_of, limits_of, staying, state_at, state_now}
use Rattle.iso_engine.proofs.Alike.{alike_itself, alike_view, visits_more, visits_same}
use Rattle.iso_engine.proofs.Spending.{Spends, step_spends}
use Rattle.iso_engine.proofs.Stability.{advance_as, advance_asks, advance_seen, advance_then, history_of, limits_same, ready_later, same_state, some_output, spent_as, stable_as, steps_as}

pub asks_same : (q r : Request) (f g : Reply → State) → asks q f ≡ asks r g → f ≡ g
asks_same q r f g e = cc

module _ (m n : Names) (t u : Told) (e f : Engine) (holds : Holds m n) (view : IsView (view_of n u)) (ready : IsReady m t e) where
  abbrev pub IsMoved : Type 0
  IsMoved = Advances 1 m t e n u f [] × IsReady n u f × IsSpent e.search.inferences f.search.inferences

  -- Others made entries.
  module _ (before : History) (follows : Follows t.engine t.history before) (told : u ≡ seen_as t before t.gens) where
    pub seen_later : IsLater m t n u
    seen_later =
        record {
          holds = holds;
          later = follows.later;
          grown = ap history_of told ∙ follows.grown;
          engine = ap (λ (x : Told). x.engine) told;
          goals = ap (λ (x : Told). x.goals) told;
        }

    pub seen_ready : IsReady n u e
    seen_ready = ready_later m n t u e view seen_later (visits_same t u (ap (λ (x : Told). x.gens) told)) ready

    -- A step was made after them, of an engine that stays so.
    pub seen_as_moved : StepsAs (staying e.stays) n u e.solution_limit e.solutions_found e.search e.doing f.search f.doing → f.search.budgets ≡ e.search.budgets
        → aims_of f ≡ aims_of e → f.solutions_found ≡ e.solutions_found → IsWhole f.search → IsMoved
    seen_as_moved steps budgets wanted given whole = (
      advance_then 0 1 m n n t u u e e f [] [] (advance_seen m n t u e before ready.stable view follows told holds) (advance_as n u e f steps budgets wanted given view),
      record {
        whole = whole;
        stable = stable_as (staying e.stays) n u e.solution_limit e.solutions_found e.search e.doing f.search f.doing steps view seen_ready.stable;
      },
      spent_as (staying e.stays) n u e.solution_limit e.solutions_found e.search e.doing f.search f.doing steps view,
    )

    -- A step was made after them.
    pub seen_moved : StepsFrom n u e.solution_limit e.solutions_found e.search e.doing f.search f.doing → f.search.budgets ≡ e.search.budgets → aims_of f ≡ aims_of e
        → f.solutions_found ≡ e.solutions_found → IsWhole f.search → IsMoved
    seen_moved steps =
        seen_as_moved (steps_as (staying e.stays) n u e.solution_limit e.solutions_found e.search e.doing f.search f.doing steps)

  -- The engine asks, and stands where the reply leads to, by each view by which it may be read from then on.
  abbrev pub AsksFrom : Request → Reply → Type 0
  AsksFrom q reply =
      (r : Setting) → IsView r.view → IsAlike n u r.view → r.solutions ≡ e.solution_limit → solution_count r.output ≡ e.solutions_found
      → (next : Reply → State)
      × (step (limits_in r e.search) (state_at r.view e.search e.doing r.output) ≡ asks q next)
      × (next reply ≡ state_at r.view f.search f.doing r.output)

  module _ (before : History) (update : Option Kind) (asked : IsAsked t before update u) where
    pub asked_later : IsLater m t n u
    asked_later =
        record {
          holds = holds;
          later = asked.follows.later ++ entry_by t.engine update;
          grown =
              ap history_of asked.told
              ∙ ap (λ h. h ++ entry_by t.engine update) asked.follows.grown
              ∙ append_assoc t.history asked.follows.later (entry_by t.engine update);
          engine = ap (λ (x : Told). x.engine) asked.told;
          goals = ap (λ (x : Told). x.goals) asked.told;
        }

    pub asked_ready : IsReady n u e
    asked_ready = ready_later m n t u e view asked_later (visits_more t u before update asked.told) ready

    module _ (q : Request) (reply : Reply) (served : served_now t.engine t.goals before q ≡ answers reply update) (asks_from : AsksFrom q reply) where
      abbrev set : View → Option Chars → List Output → Setting
      set v stays out = record { view = v; solutions = e.solution_limit; stays = stays; doing = failing; output = out }

      answered : IsAnswered m t e n u f []
      answered =
          record {
            before = before;
            request = q;
            reply = reply;
            update = update;
            entries = asked.follows;
            served = served;
            told = asked.told;
            asking =
                record {
                  follows = λ written count. (asks_from (set (view_of n u) (staying e.stays) written) view (alike_itself n u) refl count).0;
                  asks_is =
                      λ written count.
                      ap (step (limits_of e))
                      (sym (same_state (view_of n u) (view_of m t) e.search e.doing written (ready.stable (view_of n u) view (alike_view m n t u asked_later))))
                      ∙ (asks_from (set (view_of n u) (staying e.stays) written) view (alike_itself n u) refl count).1;
                };
            stands =
                λ written count.
                (asks_from (set (view_of n u) (staying e.stays) written) view (alike_itself n u) refl count).2 ∙ ap (state_now (view_of n u) f) (sym (append-nil written));
          }

      led_alike : (o : List Output) → solution_count o ≡ e.solutions_found → (v : View) → IsView v → IsAlike n u v
          → state_at v f.search f.doing o ≡ state_at (view_of n u) f.search f.doing o
      led_alike o count v other alike =
          let l = limits_in (set v None o) e.search
          in let here = asks_from (set v None o) other alike refl count
          in let there = asks_from (set (view_of n u) None o) view (alike_itself n u) refl count
          in let next : here.0 ≡ there.0 =
          asks_same q q here.0 there.0
          (sym here.1 ∙ ap (step l) (same_state v (view_of n u) e.search e.doing o (asked_ready.stable v other alike)) ∙ there.1)
          in sym here.2 ∙ ap (λ (k : Reply → State). k reply) next ∙ there.2

      stable : IsStable n u f.search f.doing
      stable v other alike =
          let o = some_output e.solutions_found
          in let same = led_alike o.0 o.1 v other alike
          in (ap (λ (s : State). s.choices) same, ap (λ (s : State). s.doing) same)

      spent : IsSpent e.search.inferences f.search.inferences
      spent =
          let o = some_output e.solutions_found
          in let r = set (view_of n u) None o.0
          in let there = asks_from r view (alike_itself n u) refl o.1
          in let most : Spends e.search.inferences (asks q there.0) =
          subst (Spends e.search.inferences) there.1 (step_spends (limits_in r e.search) (state_at (view_of n u) e.search e.doing o.0))
          in subst (λ (s : State). IsSpent e.search.inferences s.inferences) there.2 (most reply)

      -- The request was answered.
      pub asked_moved : f.search.budgets ≡ e.search.budgets → aims_of f ≡ aims_of e → f.solutions_found ≡ e.solutions_found → IsWhole f.search → IsMoved
      asked_moved budgets wanted given whole = (
        advance_asks m n t u e f [] answered holds (limits_same e f budgets wanted) (given ∙ (let k : e.solutions_found ≡ e.solutions_found + 0 = omega arith in k)),
        record { whole = whole; stable = stable },
        spent,
      )
