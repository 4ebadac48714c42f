-- How a solution is given.
use Rattle.std.proofs.Common.{◌≡◌, ℕ, ◌+◌, List, [], ◌∷◌, ◌++◌, sym, ap, ap₂, subst, ◌∙◌, append_assoc}
use Rattle.pl_term.specs.Tree.{Chars, Tree}
use Rattle.pl_model.specs.OperatorTable.{OperatorTable}
use Rattle.pl_model.specs.Service.{entry_by}
use Rattle.pl_model.specs.Requests.{look, standing}
use Rattle.pl_model.specs.Resolution.{answering, running, failing, throwing, erasing, clearing, ended, Choice, Limits, Node, Output, solution, solution_count, State, asks}
use Rattle.pl_model.specs.Resolution as resolution
use Rattle.pl_model.specs.Control.{step, with_solution}
use Rattle.atom_api.specs.Names.{Names, FixedStand}
use Rattle.std.specs.Str.{all_scalars}
use Rattle.std.specs.Prelude.{◌^◌, ◌<◌, ◌≤◌, true, Some}
use Rattle.pl_term.specs.Texts.{size}
use Rattle.world_api.specs.Texts.{Holds}
use Rattle.world_api.specs.Told.{Told}
use Rattle.iso_search.specs.Frames.{tasks}
use Rattle.iso_search.specs.Reading.{IsView}
use Rattle.iso_search.specs.Searching.{choices_of, IsWhole, node_of}
use Rattle.iso_search.proofs.Texts.{texts_apart}
use Rattle.iso_engine.specs.declared.doing.Doing.TheVariants.{Running, Answering}
use Rattle.iso_engine.specs.declared.engine.Engine.{Engine}
use Rattle.iso_engine.specs.Views.{IsLater, view_of}
use Rattle.iso_engine.specs.Standing.{doing_of, limits_of, state_at, state_now, staying}
use Rattle.iso_engine.specs.Ready.{IsReady, IsStable}
use Rattle.iso_engine.specs.Advancing.{Advances}
use Rattle.iso_engine.specs.Asking.{IsAnswered, IsAsking}
use Rattle.iso_engine.specs.Looking.{Looks}
use Rattle.iso_engine.specs.Slices.{answer_of}
use Rattle.iso_engine.proofs.Alike.{KeepsVisits, alike_view, visits_more}
use Rattle.iso_engine.proofs.Stability.{advance_asks, stable_later}
use Rattle.iso_engine.proofs.Tasking.{step_done}

-- What atoms hold is a view.
pub view_is : (m : Names) (t : Told) → FixedStand m → ((a b : ℕ) (x : Chars) → m a ≡ Some x → m b ≡ Some x → a ≡ b)
    → ((a : ℕ) (x : Chars) → m a ≡ Some x → (a < 2 ^ 32) × (size x ≤ 248) × (all_scalars x ≡ true)) → IsView (view_of m t)
view_is m t fixed unlike finite = record { fixed = fixed; apart = texts_apart m unlike (λ a x h. (finite a x h).2) }

abbrev pub node_in : Node → resolution.Doing → Node
node_in d (running n) = n
node_in d failing = d
node_in d (throwing b ps) = d
node_in d (erasing place n) = d
node_in d (clearing t cs n) = d
node_in d answering = d
node_in d (ended how) = d

module _ (m n : Names) (t u : Told) (e f : Engine) (list : ℕ) (ops : OperatorTable) where
  abbrev node : Names → Told → Node
  node a b = node_of (view_of a b) e.search list

  abbrev with_answer : List Choice → List Tree → List Output → State
  with_answer cs ts written =
      let s : State = record { doing = answering; choices = cs; next = e.search.next_variable; inferences = e.search.inferences; output = written ++ solution ops ts ∷ [] } in s

  -- The engine in which the solution was given.
  abbrev IsGiven : Type 0
  IsGiven = (let x : Engine = record e { doing = Answering; solutions_found = e.solutions_found + 1 } in f ≡ x)

  search_same : IsGiven → f.search ≡ e.search
  search_same is = ap (λ (x : Engine). x.search) is

  stands : (written : List Output) → IsGiven
      → (choices_of (view_of n u) e.search ≡ choices_of (view_of m t) e.search)
      → ((node n u).answer ≡ (node m t).answer)
      → with_answer (choices_of (view_of m t) e.search) (node m t).answer written
      ≡ state_now (view_of n u) f (written ++ solution ops (answer_of n u f) ∷ [])
  stands written is choices answer =
      ap₂ (λ cs ts. with_answer cs ts written) (sym choices) (sym answer)
      ∙ ap (λ (x : Engine). state_now (view_of n u) x (written ++ solution ops (answer_of n u x) ∷ [])) (sym is)

  abbrev asking : e.doing ≡ Running list → tasks e.search.frames.items list ≡ [] → IsAsking m t e look
  asking doing none =
      record {
        follows = λ written count. with_solution (state_at (view_of m t) e.search (Running list) written) (node m t);
        asks_is =
            λ written count.
            ap (λ d. step (limits_of e) (state_at (view_of m t) e.search d written)) doing
            ∙ step_done (record { view = view_of m t; solutions = e.solution_limit; stays = staying e.stays; doing = answering; output = written }) e.search list none;
      }

  answered : e.doing ≡ Running list → tasks e.search.frames.items list ≡ [] → IsGiven → IsStable m t e.search e.doing → IsView (view_of n u) → Holds m n → Looks t ops u
      → IsLater m t n u
      → IsAnswered m t e n u f (solution ops (answer_of n u f) ∷ [])
  answered doing none is stable view holds looks later =
      let same = stable (view_of n u) view (alike_view m n t u later)
      in let node_same : node n u ≡ node m t =
      ap (node_in (node m t)) (sym (ap (doing_of (view_of n u) e.search) doing) ∙ same.1 ∙ ap (doing_of (view_of m t) e.search) doing)
      in record {
        before = looks.before;
        request = look;
        reply = standing ops looks.quotes;
        update = looks.update;
        entries = looks.entries;
        served = looks.served;
        told = looks.told;
        asking = asking doing none;
        stands = λ written count. stands written is same.0 (ap (λ (x : Node). x.answer) node_same);
      }

  looked_later : Holds m n → Looks t ops u → IsLater m t n u
  looked_later holds looks =
      record {
        holds = holds;
        later = looks.entries.later ++ entry_by t.engine looks.update;
        grown =
            ap (λ (x : Told). x.history) looks.told
            ∙ ap (λ h. h ++ entry_by t.engine looks.update) looks.entries.grown
            ∙ append_assoc t.history looks.entries.later (entry_by t.engine looks.update);
        engine = ap (λ (x : Told). x.engine) looks.told;
        goals = ap (λ (x : Told). x.goals) looks.told;
      }

  pub solved : e.doing ≡ Running list → tasks e.search.frames.items list ≡ [] → IsGiven → IsStable m t e.search e.doing → IsView (view_of n u) → Holds m n → Looks t ops u
      → Advances 1 m t e n u f (solution ops (answer_of n u f) ∷ [])
  solved doing none is stable view holds looks =
      advance_asks m n t u e f (solution ops (answer_of n u f) ∷ []) (answered doing none is stable view holds looks (looked_later holds looks)) holds
      (ap limits_of is)
      (ap (λ (x : Engine). x.solutions_found) is)

  -- What was given stands so from then on.
  pub solved_ready : IsGiven → IsReady m t e → IsView (view_of n u) → Holds m n → Looks t ops u → IsReady n u f
  solved_ready is ready view holds looks =
      let later = looked_later holds looks
      in let whole : IsWhole e.search = ready.whole
      in let visits : KeepsVisits t u = visits_more t u looks.before looks.update looks.told
      in let stable = stable_later m n t u e.search e.doing view later visits ready.stable
      in record {
        whole = subst IsWhole (sym (search_same is)) whole;
        stable =
            λ v other alike. (
              ap (choices_of v) (search_same is) ∙ (stable v other alike).0 ∙ sym (ap (choices_of (view_of n u)) (search_same is)),
              ap (λ (x : Engine). doing_of v x.search x.doing) is ∙ sym (ap (λ (x : Engine). doing_of (view_of n u) x.search x.doing) is),
            );
      }
