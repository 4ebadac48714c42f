-- Calls of the program's clauses, as steps of the definition.
use Rattle.std.proofs.Common.{◌≡◌, ℕ, ◌≤◌, [], ◌∷◌, List, length, Bool, true, false, Option, Some, None, is_some, if◌then◌else◌, nat_lt, refl, sym, ap, ap₂, subst, ◌∙◌, append-nil}
use Rattle.std.proofs.lemmas.Bool.{true≢false}
use Rattle.pl_term.specs.Tree.{Tree, var, int, atom, comp}
use Rattle.pl_model.specs.History.{Clause}
use Rattle.pl_model.specs.Balls.{error_ball}
use Rattle.pl_model.specs.Builtins.{row}
use Rattle.pl_model.specs.SharedBuiltins.{shared}
use Rattle.pl_model.specs.Terms.{arguments}
use Rattle.pl_model.specs.Database.{Stored}
use Rattle.pl_model.specs.Requests.{Request, Reply, call_clauses, listed, refused}
use Rattle.pl_model.specs.Service.{answers, served_now}
use Rattle.pl_model.specs.Predicates.{proc_of}
use Rattle.pl_model.specs.Resolution.{Limits, Node, Pending, goal, State, Next, asks, running, throwing, erasing, clearing, failing, answering, ended, resolving}
use Rattle.pl_model.specs.Resolution as resolution
use Rattle.pl_model.specs.Control.{construct, costing, first_clause, name_of, other, step, take_up, with_clauses, with_other, with_shared}
use Rattle.atom_api.specs.Names.{Names}
use Rattle.term_store.specs.declared.words.Place.{Place}
use Rattle.term_store.specs.Contents.{Contents, term_at}
use Rattle.term_store.specs.Heap.{atom_name}
use Rattle.term_store.specs.NumberedNames.{term_by}
use Rattle.world_api.specs.declared.reply.Found.{Found}
use Rattle.world_api.specs.declared.visit.Procedure.{Procedure}
use Rattle.world_api.specs.Texts as worlds
use Rattle.world_api.specs.Told.{Told}
use Rattle.iso_search.specs.declared.frames.Task.TheVariants.{Goal}
use Rattle.iso_search.specs.declared.choices.Purpose.TheVariants.{Resolving}
use Rattle.iso_search.specs.declared.outcome.Fault.TheVariants.{Inferences}
use Rattle.iso_search.specs.declared.outcome.Outcome.{Outcome}
use Rattle.iso_search.specs.declared.outcome.Outcome.TheVariants.{Raise}
use Rattle.iso_search.specs.declared.search.Search.{Search}
use Rattle.iso_search.specs.Frames.{tasks}
use Rattle.iso_search.specs.Outcomes.{Setting, doing_by, limits_in, state_in}
use Rattle.iso_search.specs.Reading.{IsView, View, reads}
use Rattle.iso_search.specs.Searching.{node_of, state_of}
use Rattle.iso_search.specs.Spelling.{spelled, text_of}
use Rattle.iso_search.proofs.After.{keeps_alike}
use Rattle.iso_engine.specs.Called.{IsRefused, IsRun, IsSpent, counted}
use Rattle.iso_engine.specs.Lists.{IsLeft, IsListed, IsOpen, IsOpenBehind}
use Rattle.iso_engine.specs.Parts.{IsOverAtoms}
use Rattle.iso_engine.specs.Views.{IsViewFrom}
use Rattle.iso_engine.proofs.Readings.{read_over}
use Rattle.iso_engine.specs.declared.doing.Doing.{Doing}
use Rattle.iso_engine.specs.declared.doing.Doing.TheVariants.{Running, Throwing}
use Rattle.iso_engine.specs.declared.engine.Engine.{Engine}
use Rattle.iso_engine.specs.Calling.{IsCallAt, IsErrorBall}
use Rattle.iso_engine.specs.Following.{IsInteger}
use Rattle.iso_engine.specs.Views.{view_of}
use Rattle.iso_engine.specs.Calling.{IsCall}
use Rattle.iso_engine.specs.Following.{is_integer}
use Rattle.iso_engine.specs.Ready.{IsAlike, IsReady, Steps}
use Rattle.iso_engine.specs.Standing.{doing_of, state_at}
use Rattle.iso_engine.proofs.Followed.{doing_same, goal_done}
use Rattle.iso_engine.proofs.Moving.{AsksFrom}
use Rattle.iso_engine.proofs.Reading.{goal_read}
use Rattle.iso_engine.proofs.Tasking.{step_running}

-- Goals

none_is : {A : Type 0} (o : Option A) → is_some o ≡ false → o ≡ None
none_is None e = refl
none_is (Some a) e = absurd (true≢false e)

-- No integer is read at the place.
pub no_integer : (v : View) (s : Contents) (at : Place) → (IsInteger s at → ⊥) → is_integer (reads v s at) ≡ false
no_integer v s at none = go (term_at s at) refl
  where
    go : (x : Tree) → term_at s at ≡ x → is_integer (spelled (text_of v.names) x) ≡ false
    go (var k) e = refl
    go (int i) e = absurd (none (i, e))
    go (atom a) e = refl
    go (comp f x xs) e = refl

-- A call asks for the clauses, once its inference is made.
call_asks : (l : Limits) (s : State) (n : Node) (g : Tree) → IsCall g → with_other l s n g (row (name_of g) (arguments g) s.next) ≡ asks (call_clauses g) (with_clauses l resolving s g n)
call_asks l s n g call =
    ap (with_other l s n g) (none_is (row (name_of g) (arguments g) s.next) (call.no_builtin.no_row s.next))
    ∙ ap (with_shared l s n g) (none_is (shared (name_of g) (arguments g)) call.no_builtin.not_shared)

taken_up : (l : Limits) (s : State) (n : Node) (g : Tree) (h : ℕ) → IsCall g → nat_lt s.inferences l.inferences ≡ true
    → take_up l s n g h other ≡ asks (call_clauses g) (with_clauses l resolving (counted s) g n)
unfolding take_up
taken_up l s n g h call some = go (nat_lt s.inferences l.inferences) some
  where
    go : (b : Bool) → b ≡ true
        → (if b then with_other l (counted s) n g (row (name_of g) (arguments g) s.next)
        else Rattle.pl_model.specs.Resolution.goes (Rattle.pl_model.specs.Control.raised s n Rattle.pl_model.specs.Balls.no_inferences (proc_of g)))
        ≡ asks (call_clauses g) (with_clauses l resolving (counted s) g n)
    go true e = call_asks l (counted s) n g call
    go false e = absurd (true≢false (sym e))

pub taken_costs : (l : Limits) (s : State) (n : Node) (g : Tree) (h : ℕ) → construct g ≡ other
    → costing l s n g (λ s'. with_other l s' n g (row (name_of g) (arguments g) s'.next)) ≡ take_up l s n g h (construct g)
unfolding take_up
taken_costs l s n g h is = ap (take_up l s n g h) (sym is)

-- Lists by another view

pub lists_same : (a b : List (Stored Clause)) → answers (listed a) None ≡ answers (listed b) None → a ≡ b
lists_same a b e = cc

errors_same : (a b : Tree) → answers (refused a) None ≡ answers (refused b) None → a ≡ b
errors_same a b e = cc

module _ (n : Names) (u : Told) (v : View) (alike : IsAlike n u v) (view : IsView v) where
  -- By the same texts, and what was told.
  abbrev pub at_once : View
  at_once = view_of v.names u

  pub from_at_once : IsViewFrom n u at_once
  from_at_once =
      record {
        names = v.names;
        told = u;
        later = record { holds = alike.holds; later = []; grown = sym (append-nil u.history); engine = refl; goals = refl };
        is = refl;
        view = record { fixed = view.fixed; apart = view.apart };
      }

  pub left_alike : (g : Tree) (gen place : ℕ) → is_integer g ≡ false → IsOpen u g gen place → v.left g gen place ≡ at_once.left g gen place
  left_alike g gen place callable opens = alike.left g gen place (record { callable = callable; listed = opens })

  pub listed_alike : (g : Tree) (gen : ℕ) (found : Option (Found Tree)) (cs : List (Stored Clause)) → is_integer g ≡ false → IsListed at_once g gen found cs
      → IsOpenBehind u g gen found → IsListed v g gen found cs
  listed_alike g gen found cs callable is opens = record { front = is.front; left = go found is.left opens }
    where
      go : (x : Option (Found Tree)) → IsLeft at_once g gen x cs → IsOpenBehind u g gen x → IsLeft v g gen x cs
      go None left on = tt
      go (Some x) left on = λ more. left_alike g gen x.place callable on ∙ left more

-- A call was made.
module _ (m n : Names) (t u : Told) (e f : Engine) (at : Place) (p : Procedure) (list cut rest : ℕ) (running_is : e.doing ≡ Running list)
    (first : tasks e.search.frames.items list ≡ Goal at cut ∷ tasks e.search.frames.items rest) (le : rest ≤ length e.search.frames.items)
    (call : IsCallAt e.search.store at p) where
  abbrev goal_by : View → Tree
  goal_by v = reads v e.search.store at

  abbrev begun : Setting → State
  begun r = state_at r.view e.search (Running list) r.output

  abbrev pub answer_to : Setting → Reply → State
  answer_to r = with_clauses (limits_in r e.search) resolving (counted (begun r)) (goal_by r.view) (node_of r.view e.search rest)

  step_is : (r : Setting) → step (limits_in r e.search) (state_at r.view e.search e.doing r.output)
      ≡ take_up (limits_in r e.search) (begun r) (node_of r.view e.search rest) (goal_by r.view) cut (construct (goal_by r.view))
  step_is r =
      ap (λ d. step (limits_in r e.search) (state_at r.view e.search d r.output)) running_is ∙ step_running r e.search list (Goal at cut) rest first

  pub step_asks : (r : Setting) → IsView r.view → nat_lt e.search.inferences e.search.budgets.inferences ≡ true
      → step (limits_in r e.search) (state_at r.view e.search e.doing r.output) ≡ asks (call_clauses (goal_by r.view)) (answer_to r)
  step_asks r view some =
      let calls = call.calls r.view view
      in step_is r
      ∙ ap (take_up (limits_in r e.search) (begun r) (node_of r.view e.search rest) (goal_by r.view) cut) calls.construct_is
      ∙ taken_up (limits_in r e.search) (begun r) (node_of r.view e.search rest) (goal_by r.view) cut calls some

  module _ (holds : Rattle.world_api.specs.Texts.Holds m n) (view : IsView (view_of n u)) (ready : IsReady m t e) (there : IsReady n u e) where
    abbrev pub request : Request
    request = call_clauses (goal_by (view_of n u))

    one_request : (r : Setting) → IsView r.view → IsAlike n u r.view → goal_by r.view ≡ goal_by (view_of n u)
    one_request r viewed alike = goal_read e list cut at rest running_is first r.view (view_of n u) (there.stable r.view viewed alike).1

    -- The clauses were tried.
    module _ (o : Outcome) (run : IsRun Resolving m t e.search at rest n u f.search o) (some : nat_lt e.search.inferences e.search.budgets.inferences ≡ true)
        (follows : (r : Setting) → IsView r.view → doing_of r.view f.search f.doing
        ≡ doing_by r f.search (node_of r.view f.search rest) (record { name = text_of r.view.names (atom_name p.name); arity = p.arity }) o) where
      abbrev now : View
      now = view_of n u

      abbrev pub now_listed : List (Stored Clause)
      now_listed = (run.answered (at_once n u now (Rattle.iso_engine.proofs.Alike.alike_itself n u) view) (from_at_once n u now (Rattle.iso_engine.proofs.Alike.alike_itself n u) view)).0

      pub run_served : served_now t.engine t.goals run.before request ≡ answers (listed now_listed) None
      run_served = (run.answered (at_once n u now (Rattle.iso_engine.proofs.Alike.alike_itself n u) view) (from_at_once n u now (Rattle.iso_engine.proofs.Alike.alike_itself n u) view)).1

      pub run_asks : AsksFrom m n t u e f holds view ready request (listed now_listed)
      run_asks r viewed alike wants gave =
          let v = r.view
          in let s : Setting = record r { doing = running (node_of v e.search list) }
          in let told = run.answered (at_once n u v alike viewed) (from_at_once n u v alike viewed)
          in let cs = told.0
          in let same = one_request r viewed alike
          in let lists : now_listed ≡ cs = lists_same now_listed cs (sym run_served ∙ ap (λ g. served_now t.engine t.goals run.before (call_clauses g)) (sym same) ∙ told.1)
          in let is = listed_alike n u v alike viewed (goal_by v) (length run.before) run.found cs (no_integer v e.search.store at call.callable) told.2 told.3
          in (
            answer_to r,
            step_asks r viewed some ∙ ap (λ g. asks (call_clauses g) (answer_to r)) same,
            ap (λ l. answer_to r (listed l)) lists
                ∙ sym (run.runs s cs viewed is)
                ∙ ap (λ d. state_of v f.search d r.output)
                (sym (follows s viewed ∙ doing_same s e.search f.search (record { name = text_of v.names (atom_name p.name); arity = p.arity }) (proc_of (goal_by v)) rest o le run.after.inside (sym (call.procedure s viewed)))),
          )

    -- The call was refused.
    module _ (error ball : Tree) (x : IsRefused Resolving m t e.search at n u f.search error) (some : nat_lt e.search.inferences e.search.budgets.inferences ≡ true)
        (over : IsOverAtoms error) (is : IsErrorBall error p ball) (throws : f.doing ≡ Throwing ball rest) where
      abbrev pub refused_now : Tree
      refused_now = term_by (worlds.text_of n) error

      pub refused_served : served_now t.engine t.goals x.before request ≡ answers (refused refused_now) None
      refused_served = x.answered (view_of n u) (from_at_once n u (view_of n u) (Rattle.iso_engine.proofs.Alike.alike_itself n u) view)

      pub refused_asks : AsksFrom m n t u e f holds view ready request (refused refused_now)
      refused_asks r viewed alike wants gave =
          let v = r.view
          in let same = one_request r viewed alike
          in let told = x.answered (at_once n u v alike viewed) (from_at_once n u v alike viewed)
          in let errors : refused_now ≡ term_by (worlds.text_of v.names) error =
          errors_same refused_now (term_by (worlds.text_of v.names) error) (sym refused_served ∙ ap (λ g. served_now t.engine t.goals x.before (call_clauses g)) (sym same) ∙ told)
          in let read : term_by (worlds.text_of v.names) error ≡ spelled (text_of v.names) error = read_over v.names viewed.fixed error over
          in let balls : error_ball refused_now (proc_of (goal_by v)) ≡ spelled (text_of v.names) ball =
          ap₂ error_ball (errors ∙ read) (call.procedure r viewed) ∙ sym (is v viewed)
          in (
            answer_to r,
            step_asks r viewed some ∙ ap (λ g. asks (call_clauses g) (answer_to r)) same,
            ap (λ b. let y : State = record (counted (begun r)) { doing = throwing b (node_of v e.search rest).goals } in y) balls
                ∙ ap (λ (y : Search). state_at v y (Throwing ball rest) r.output) (sym x.search)
                ∙ ap (λ d. state_at v f.search d r.output) (sym throws),
          )

  -- There could be no inference.
  pub spent_steps : (wanted given : ℕ) → f.search ≡ e.search → IsSpent e.search at rest
      → ((r : Setting) → IsView r.view → doing_of r.view f.search f.doing
      ≡ doing_by r f.search (node_of r.view f.search rest) (record { name = text_of r.view.names (atom_name p.name); arity = p.arity }) (Raise Inferences))
      → Steps wanted given e.search e.doing f.search f.doing
  spent_steps wanted given same spent follows =
      subst (λ (y : Doing). Steps wanted given e.search y f.search f.doing) (sym running_is)
      (λ r view wants gave.
      let v = r.view
      in let s : Setting = record r { doing = running (node_of v e.search list) }
      in let l = limits_in s e.search
      in let N = node_of v e.search rest
      in goal_done r e.search f.search list rest cut at (Raise Inferences) f.doing
      (record { name = text_of v.names (atom_name p.name); arity = p.arity })
      first
      le
      (tt, keeps_alike e.search f.search same)
      (call.procedure r view)
      (ap (λ (y : Search). Rattle.pl_model.specs.Resolution.goes (Rattle.iso_search.specs.Outcomes.result_in s y N (proc_of (goal_by v)) (Raise Inferences))) same
      ∙ spent.spends s (λ s'. with_other l s' N (goal_by v) (row (name_of (goal_by v)) (arguments (goal_by v)) s'.next))
      ∙ taken_costs l (state_in s e.search) N (goal_by v) cut (call.calls v view).construct_is)
      (follows s view))
