-- What a step of the search's own leads to: it stands for the same state whatever others do, and the steps go on.
use Rattle.std.proofs.Common.{◌≡◌, ℕ, zero, suc, ◌+◌, List, [], ◌∷◌, ◌++◌, length, Option, None, refl, sym, ap, ap₂, subst, ◌∙◌, arith, append-nil, append_assoc}
use Rattle.pl_term.specs.Tree.{Chars}
use Rattle.pl_model.specs.OperatorTable.{opening_table}
use Rattle.pl_model.specs.Resolution.{failing, Choice, Output, text, solution, solution_count, Limits, State, Next, goes, asks, stops}
use Rattle.pl_model.specs.Resolution as resolution
use Rattle.pl_model.specs.Control.{step}
use Rattle.atom_api.specs.Names.{Names}
use Rattle.pl_model.specs.History.{History}
use Rattle.pl_model.specs.Service.{entry_by}
use Rattle.world_api.specs.Texts.{Holds}
use Rattle.world_api.specs.Told.{Told, Follows}
use Rattle.world_api.specs.Answers.{seen_as}
use Rattle.world_api.specs.SearchSteps.{SearchSteps}
use Rattle.world_api.proofs.SearchStepLaws.{steps_ask, steps_follow, steps_go, steps_stay, steps_join}
use Rattle.iso_search.specs.declared.search.Budgets.{Budgets}
use Rattle.iso_search.specs.declared.search.Search.{Search}
use Rattle.iso_search.specs.Outcomes.{Setting, limits_in}
use Rattle.iso_search.specs.Reading.{IsView, View}
use Rattle.iso_search.specs.Searching.{choices_of, IsWhole}
use Rattle.iso_engine.specs.declared.doing.Doing.{Doing}
use Rattle.iso_engine.specs.declared.doing.Doing.TheVariants.{Failing}
use Rattle.iso_engine.specs.declared.engine.Engine.{Engine}
use Rattle.iso_engine.specs.Views.{IsLater, view_of}
use Rattle.iso_engine.specs.Standing.{Aims, aims_of, doing_of, limits_of, staying, state_at, state_now}
use Rattle.iso_engine.specs.Ready.{IsAlike, IsReady, IsStable, Steps, StepsAs, StepsFrom}
use Rattle.iso_engine.specs.Advancing.{Advances}
use Rattle.iso_engine.specs.Asking.{IsAnswered}
use Rattle.iso_engine.specs.Spending.{IsSpent}
use Rattle.iso_engine.proofs.Alike.{KeepsVisits, alike_itself, alike_later, alike_view}
use Rattle.iso_engine.proofs.Later.{later_stays, later_then}
use Rattle.iso_engine.proofs.Spending.{Spends, step_spends}

-- There is an output of so many solutions.
pub some_output : (k : ℕ) → (o : List Output) × (solution_count o ≡ k)
some_output zero = ([], refl)
some_output (suc k) = let rest = some_output k in (solution opening_table [] ∷ rest.0, ap suc rest.1)

abbrev pub or_same : State → Next → State
or_same s (goes r) = r
or_same s (asks q k) = s
or_same s (stops how) = s

abbrev with_doing : resolution.Doing → List Choice → Search → List Output → State
with_doing d cs e out = let s : State = record { doing = d; choices = cs; next = e.next_variable; inferences = e.inferences; output = out } in s

-- It stands for the same state in both views.
pub same_state : (v w : View) (e : Search) (d : Doing) (out : List Output)
    → (choices_of v e ≡ choices_of w e) × (doing_of v e d ≡ doing_of w e d)
    → state_at v e d out ≡ state_at w e d out
same_state v w e d out h = ap₂ (λ x cs. with_doing x cs e out) h.1 h.0

-- The same steps by fewer views.
pub steps_from : (m : Names) (t : Told) (wanted given : ℕ) (e : Search) (d : Doing) (f : Search) (x : Doing) → Steps wanted given e d f x → StepsFrom m t wanted given e d f x
steps_from m t wanted given e d f x steps r view alike wants gave = steps r view wants gave

-- The same whatever thread_exit/1 leaves.
pub steps_as : (keep : Option Chars) (m : Names) (t : Told) (wanted given : ℕ) (e : Search) (d : Doing) (f : Search) (x : Doing) → StepsFrom m t wanted given e d f x
    → StepsAs keep m t wanted given e d f x
steps_as keep m t wanted given e d f x steps r view alike keeps wants gave = steps r view alike wants gave

pub limits_same : (e f : Engine) → f.search.budgets ≡ e.search.budgets → aims_of f ≡ aims_of e → limits_of f ≡ limits_of e
limits_same e f budgets wanted =
    ap₂
    (λ (b : Budgets) (w : Aims). let l : Limits = record { inferences = b.inferences; cells = b.cells; choices = b.choices; solutions = w.wanted; stays = staying w.stays } in l)
    budgets wanted

module _ (keep : Option Chars) (m : Names) (t : Told) (wanted given : ℕ) (e : Search) (d : Doing) (f : Search) (x : Doing)
    (steps : StepsAs keep m t wanted given e d f x) where
  abbrev setting : View → List Output → Setting
  setting v out = record { view = v; solutions = wanted; stays = keep; doing = failing; output = out }

  led : (v : View) → IsView v → IsAlike m t v → (out : List Output) → solution_count out ≡ given
      → step (limits_in (setting v out) e) (state_at v e d out) ≡ goes (state_at v f x out)
  led v view alike out count = steps (setting v out) view alike refl refl count

  -- What a stable state leads to is stable.
  pub stable_as : IsView (view_of m t) → IsStable m t e d → IsStable m t f x
  stable_as view stable v other alike =
      let o = some_output given
      in let l = limits_in (setting v o.0) e
      in let same : state_at v f x o.0 ≡ state_at (view_of m t) f x o.0 =
      ap (or_same (state_at (view_of m t) f x o.0))
      (sym (led v other alike o.0 o.1)
      ∙ ap (step l) (same_state v (view_of m t) e d o.0 (stable v other alike))
      ∙ led (view_of m t) view (alike_itself m t) o.0 o.1)
      in (ap (λ (s : State). s.choices) same, ap (λ (s : State). s.doing) same)

  -- A step makes at most one inference.
  pub spent_as : IsView (view_of m t) → IsSpent e.inferences f.inferences
  spent_as view =
      let o = some_output given
      in let r = setting (view_of m t) o.0
      in subst (Spends e.inferences) (steps r view (alike_itself m t) refl refl o.1) (step_spends (limits_in r e) (state_at (view_of m t) e d o.0))

pub stable_then : (m : Names) (t : Told) (wanted given : ℕ) (e : Search) (d : Doing) (f : Search) (x : Doing) → StepsFrom m t wanted given e d f x
    → IsView (view_of m t) → IsStable m t e d → IsStable m t f x
stable_then m t wanted given e d f x steps = stable_as None m t wanted given e d f x (steps_as None m t wanted given e d f x steps)

pub spent_from : (m : Names) (t : Told) (wanted given : ℕ) (e : Search) (d : Doing) (f : Search) (x : Doing) → StepsFrom m t wanted given e d f x
    → IsView (view_of m t) → IsSpent e.inferences f.inferences
spent_from m t wanted given e d f x steps = spent_as None m t wanted given e d f x (steps_as None m t wanted given e d f x steps)

-- One step more.
pub advance_as : (m : Names) (t : Told) (e f : Engine)
    → StepsAs (staying e.stays) m t e.solution_limit e.solutions_found e.search e.doing f.search f.doing
    → f.search.budgets ≡ e.search.budgets
    → aims_of f ≡ aims_of e
    → f.solutions_found ≡ e.solutions_found
    → IsView (view_of m t)
    → Advances 1 m t e m t f []
advance_as m t e f steps budgets wanted given view =
    record {
      by_steps =
          λ written count.
          steps_go
          (limits_of e)
          (state_now (view_of m t) e written)
          (state_now (view_of m t) e written)
          (state_now (view_of m t) f (written ++ []))
          t
          t
          0
          (steps_stay (limits_of e) (state_now (view_of m t) e written) t)
          (steps (record { view = view_of m t; solutions = e.solution_limit; stays = staying e.stays; doing = failing; output = written }) view (alike_itself m t) refl refl count
          ∙ ap (λ out. goes (state_now (view_of m t) f out)) (sym (append-nil written)));
      limits = limits_same e f budgets wanted;
      given = given ∙ (let n : e.solutions_found ≡ e.solutions_found + 0 = omega arith in n);
      later = later_stays m t;
    }

pub advance_from : (m : Names) (t : Told) (e f : Engine)
    → StepsFrom m t e.solution_limit e.solutions_found e.search e.doing f.search f.doing
    → f.search.budgets ≡ e.search.budgets
    → aims_of f ≡ aims_of e
    → f.solutions_found ≡ e.solutions_found
    → IsView (view_of m t)
    → Advances 1 m t e m t f []
advance_from m t e f steps budgets wanted given view =
    advance_as m t e f (steps_as (staying e.stays) m t e.solution_limit e.solutions_found e.search e.doing f.search f.doing steps) budgets wanted given view

pub advance_step : (m : Names) (t : Told) (e f : Engine)
    → Steps e.solution_limit e.solutions_found e.search e.doing f.search f.doing
    → f.search.budgets ≡ e.search.budgets
    → aims_of f ≡ aims_of e
    → f.solutions_found ≡ e.solutions_found
    → IsView (view_of m t)
    → Advances 1 m t e m t f []
advance_step m t e f steps budgets wanted given view =
    advance_from m t e f (steps_from m t e.solution_limit e.solutions_found e.search e.doing f.search f.doing steps) budgets wanted given view

-- No step.
pub advance_none : (m : Names) (t : Told) (e : Engine) → Advances 0 m t e m t e []
advance_none m t e =
    record {
      by_steps =
          λ written count.
          subst (λ out. SearchSteps (limits_of e) (state_now (view_of m t) e written) t 0 (state_now (view_of m t) e out) t) (sym (append-nil written))
          (steps_stay (limits_of e) (state_now (view_of m t) e written) t);
      limits = refl;
      given = (let n : e.solutions_found ≡ e.solutions_found + 0 = omega arith in n);
      later = later_stays m t;
    }

pub count-append : (xs ys : List Output) → solution_count (xs ++ ys) ≡ solution_count xs + solution_count ys
count-append [] ys = omega arith
count-append (text t ∷ xs) ys = count-append xs ys
count-append (solution ops ts ∷ xs) ys = ap suc (count-append xs ys) ∙ (let n : suc (solution_count xs + solution_count ys) ≡ suc (solution_count xs) + solution_count ys = omega arith in n)

-- One walk after another.
pub advance_then : (k j : ℕ) (m n r : Names) (t u w : Told) (e f g : Engine) (xs ys : List Output)
    → Advances k m t e n u f xs
    → Advances j n u f r w g ys
    → Advances (j + k) m t e r w g (xs ++ ys)
advance_then k j m n r t u w e f g xs ys a b =
    record {
      by_steps =
          λ written count.
          let here : solution_count (written ++ xs) ≡ f.solutions_found =
          count-append written xs ∙ ap (λ c. c + solution_count xs) count ∙ sym a.given
          in steps_join
          (limits_of e)
          (state_now (view_of m t) e written)
          (state_now (view_of n u) f (written ++ xs))
          (state_now (view_of r w) g (written ++ (xs ++ ys)))
          t
          u
          w
          k
          j
          (a.by_steps written count)
          (subst (λ out. SearchSteps (limits_of e) (state_now (view_of n u) f (written ++ xs)) u j (state_now (view_of r w) g out) w)
          (append_assoc written xs ys)
          (subst (λ l. SearchSteps l (state_now (view_of n u) f (written ++ xs)) u j (state_now (view_of r w) g ((written ++ xs) ++ ys)) w)
          a.limits
          (b.by_steps (written ++ xs) here)));
      limits = b.limits ∙ a.limits;
      given = b.given ∙ ap (λ c. c + solution_count ys) a.given ∙ (let q : (e.solutions_found + solution_count xs) + solution_count ys ≡ e.solutions_found + (solution_count xs + solution_count ys) = omega arith in q) ∙ ap (λ c. e.solutions_found + c) (sym (count-append xs ys));
      later = later_then m n r t u w a.later b.later;
    }

abbrev pub history_of : Told → History
history_of t = t.history

answered_later : (m n : Names) (t u : Told) (e f : Engine) (more : List Output) → IsAnswered m t e n u f more → Holds m n → IsLater m t n u
answered_later m n t u e f more a holds =
    record {
      holds = holds;
      later = a.entries.later ++ entry_by t.engine a.update;
      grown = ap history_of a.told ∙ ap (λ h. h ++ entry_by t.engine a.update) a.entries.grown ∙ append_assoc t.history a.entries.later (entry_by t.engine a.update);
      engine = ap (λ (x : Told). x.engine) a.told;
      goals = ap (λ (x : Told). x.goals) a.told;
    }

-- One request more.
pub advance_asks : (m n : Names) (t u : Told) (e f : Engine) (more : List Output)
    → IsAnswered m t e n u f more
    → Holds m n
    → limits_of f ≡ limits_of e
    → f.solutions_found ≡ e.solutions_found + solution_count more
    → Advances 1 m t e n u f more
advance_asks m n t u e f more a holds limits given =
    record {
      by_steps =
          λ written count.
          let here : SearchSteps (limits_of e) (state_now (view_of m t) e written) t 1 (a.asking.follows written count a.reply) (seen_as t (a.before ++ entry_by t.engine a.update) (t.gens ++ length a.before ∷ [])) =
          steps_ask
          (limits_of e)
          (state_now (view_of m t) e written)
          (state_now (view_of m t) e written)
          t
          t
          0
          a.before
          a.request
          (a.asking.follows written count)
          a.reply
          a.update
          (steps_stay (limits_of e) (state_now (view_of m t) e written) t)
          a.entries
          (a.asking.asks_is written count)
          a.served
          in subst (λ s. SearchSteps (limits_of e) (state_now (view_of m t) e written) t 1 s u) (a.stands written count)
          (subst (λ w. SearchSteps (limits_of e) (state_now (view_of m t) e written) t 1 (a.asking.follows written count a.reply) w) (sym a.told) here);
      limits = limits;
      given = given;
      later = answered_later m n t u e f more a holds;
    }

-- Where others made entries, and the engine waits.
pub advance_seen : (m n : Names) (t u : Told) (e : Engine) (before : History)
    → IsStable m t e.search e.doing
    → IsView (view_of n u)
    → Follows t.engine t.history before
    → u ≡ seen_as t before t.gens
    → Holds m n
    → Advances 0 m t e n u e []
advance_seen m n t u e before stable view entries told holds =
    let later : IsLater m t n u = record {
      holds = holds;
      later = entries.later;
      grown = ap history_of told ∙ entries.grown;
      engine = ap (λ (x : Told). x.engine) told;
      goals = ap (λ (x : Told). x.goals) told;
    }
    in record {
      by_steps =
          λ written count.
          let l = limits_of e
          in let s = state_now (view_of m t) e written
          in let there : SearchSteps l s t 0 s (seen_as t before t.gens) = steps_follow l s s t t 0 before (steps_stay l s t) entries
          in subst (λ out. SearchSteps l s t 0 (state_now (view_of n u) e out) u) (sym (append-nil written))
          (subst (λ r. SearchSteps l s t 0 r u) (sym (same_state (view_of n u) (view_of m t) e.search e.doing written (stable (view_of n u) view (alike_view m n t u later))))
          (subst (λ w. SearchSteps l s t 0 s w) (sym told) there));
      limits = refl;
      given = (let q : e.solutions_found ≡ e.solutions_found + 0 = omega arith in q);
      later = later;
    }

-- Where nothing was told.
pub advance_same : (m n : Names) (t u : Told) (e : Engine)
    → IsStable m t e.search e.doing
    → IsView (view_of n u)
    → u ≡ t
    → Holds m n
    → Advances 0 m t e n u e []
advance_same m n t u e stable view told holds =
    advance_seen m n t u e t.history stable view (record { later = []; grown = sym (append-nil t.history); others = refl }) told holds

-- What is stable stays so.
pub stable_later : (m n : Names) (t u : Told) (e : Search) (d : Doing) → IsView (view_of n u) → IsLater m t n u → KeepsVisits t u → IsStable m t e d → IsStable n u e d
stable_later m n t u e d view later visits stable v other alike =
    let here = stable (view_of n u) view (alike_view m n t u later)
    in let there = stable v other (alike_later m n t u later visits v alike)
    in (there.0 ∙ sym here.0, there.1 ∙ sym here.1)

pub ready_later : (m n : Names) (t u : Told) (e : Engine) → IsView (view_of n u) → IsLater m t n u → KeepsVisits t u → IsReady m t e → IsReady n u e
ready_later m n t u e view later visits ready =
    record { whole = ready.whole; stable = stable_later m n t u e.search e.doing view later visits ready.stable }

-- A step makes at most one inference.
pub spent_by : (wanted given : ℕ) (e : Search) (d : Doing) (f : Search) (x : Doing) (m : Names) (t : Told)
    → Steps wanted given e d f x
    → IsView (view_of m t)
    → IsSpent e.inferences f.inferences
spent_by wanted given e d f x m t steps view = spent_from m t wanted given e d f x (steps_from m t wanted given e d f x steps) view

-- The engine between two steps, after a step of the search's own.
pub ready_from : (m : Names) (t : Told) (e f : Engine)
    → StepsFrom m t e.solution_limit e.solutions_found e.search e.doing f.search f.doing
    → IsWhole f.search
    → IsView (view_of m t)
    → IsReady m t e
    → IsReady m t f
ready_from m t e f steps whole view ready =
    record { whole = whole; stable = stable_then m t e.solution_limit e.solutions_found e.search e.doing f.search f.doing steps view ready.stable }

pub step_ready : (m : Names) (t : Told) (e f : Engine)
    → Steps e.solution_limit e.solutions_found e.search e.doing f.search f.doing
    → IsWhole f.search
    → IsView (view_of m t)
    → IsReady m t e
    → IsReady m t f
step_ready m t e f steps whole view ready =
    ready_from m t e f (steps_from m t e.solution_limit e.solutions_found e.search e.doing f.search f.doing steps) whole view ready

-- An engine that goes back to a choice point stands where it stood if the choice points are the same.
module _ (e f : Engine) (choices : (v : View) → choices_of v f.search ≡ choices_of v e.search) (next : f.search.next_variable ≡ e.search.next_variable)
    (inferences : f.search.inferences ≡ e.search.inferences) (fails : e.doing ≡ Failing) (fails' : f.doing ≡ Failing) where
  abbrev failing_in : List Choice → ℕ → ℕ → List Output → State
  failing_in cs n i out = let s : State = record { doing = failing; choices = cs; next = n; inferences = i; output = out } in s

  restored : (v : View) (out : List Output) → state_now v f out ≡ state_now v e out
  restored v out =
      ap (λ d. state_at v f.search d out) fails'
      ∙ ap₂ (λ cs n. failing_in cs n f.search.inferences out) (choices v) next
      ∙ ap (λ i. failing_in (choices_of v e.search) e.search.next_variable i out) inferences
      ∙ sym (ap (λ d. state_at v e.search d out) fails)

  pub restored_ready : (m : Names) (t : Told) → IsWhole f.search → IsReady m t e → IsReady m t f
  restored_ready m t whole ready =
      record {
        whole = whole;
        stable =
            λ v view alike. (
              choices v ∙ (ready.stable v view alike).0 ∙ sym (choices (view_of m t)),
              ap (λ d. doing_of v f.search d) fails' ∙ sym (ap (λ d. doing_of (view_of m t) f.search d) fails'),
            );
      }

  pub restored_advances : (m : Names) (t : Told) → f.search.budgets ≡ e.search.budgets → aims_of f ≡ aims_of e → f.solutions_found ≡ e.solutions_found → Advances 0 m t e m t f []
  restored_advances m t budgets wanted given =
      record {
        by_steps =
            λ written count.
            subst (λ s. SearchSteps (limits_of e) (state_now (view_of m t) e written) t 0 s t)
            (sym (restored (view_of m t) written) ∙ ap (state_now (view_of m t) f) (sym (append-nil written)))
            (steps_stay (limits_of e) (state_now (view_of m t) e written) t);
        limits = limits_same e f budgets wanted;
        given = given ∙ (let q : e.solutions_found ≡ e.solutions_found + 0 = omega arith in q);
        later = later_stays m t;
      }

-- What is done is the same thing under its name.
pub ready_again : (m : Names) (t : Told) (e : Engine) (d : Doing) → e.doing ≡ d → IsReady m t e → (let f : Engine = record e { doing = d } in IsReady m t f)
ready_again m t e d same ready = subst (λ (x : Doing). let f : Engine = record e { doing = x } in IsReady m t f) same ready

pub plain_steps : (wanted given : ℕ) (e f : Search) (now old d : Doing) → now ≡ old
    → ((t : Setting) → IsView t.view → step (limits_in t e) (state_at t.view e old t.output) ≡ goes (state_at t.view f d t.output))
    → Steps wanted given e now f d
plain_steps wanted given e f now old d same steps =
    subst (λ (y : Doing). Steps wanted given e y f d) (sym same) (λ t view wants gave. steps t view)
