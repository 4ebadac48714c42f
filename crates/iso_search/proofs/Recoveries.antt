-- A ball meets the catcher, by the definition.
use Rattle.std.proofs.Common.{◌≡◌, ℕ, zero, ◌+◌, [], ◌∷◌, length, reverse, Some, None, Result, Ok, Err, refl, sym, ap, ap₂, ◌∙◌, add-zero}
use Rattle.std.specs.Option.{option_map}
use Rattle.pl_term.specs.Tree.{Tree}
use Rattle.pl_term.specs.Cells.{cells}
use Rattle.pl_term.specs.Variables.{rename, variables}
use Rattle.pl_model.specs.Terms.{variable_count}
use Rattle.pl_model.specs.Unify.{Bindings, bound, unify}
use Rattle.pl_model.specs.Balls.{error_ball, no_cells, no_inferences}
use Rattle.pl_model.specs.BodyChecks.{body_of}
use Rattle.pl_model.specs.Resolution.{Node, State, goal, running, throwing, node_instance}
use Rattle.pl_model.specs.Control.{at_catch, ball_unified, before, catch_proc, fitting, recovered}
use Rattle.term_store.specs.declared.words.Place.{Place}
use Rattle.term_store.specs.Contents.{Adds, Builds, Contents, Holds, term_at}
use Rattle.iso_search.specs.declared.calls.Checked.TheVariants.{Goal, Refused as Unfit}
use Rattle.iso_search.specs.declared.outcome.Fault.{Fault}
use Rattle.iso_search.specs.declared.outcome.Fault.TheVariants.{Inferences, Cells, Choices, Instantiation, NotCallable, NotInteger, NotList, NotStatus}
use Rattle.iso_search.specs.declared.recovering.Recovery.TheVariants.{Run, Refused, Throw}
use Rattle.iso_search.specs.declared.search.Search.{Search}
use Rattle.iso_search.specs.Budgeting.{IsCopyOf, fitted}
use Rattle.iso_search.specs.Calling.{goal_or_error}
use Rattle.iso_search.specs.Errors.{IsOfBudget, error_tree}
use Rattle.iso_search.specs.Conversions.{Stays}
use Rattle.iso_search.specs.Frames.{tasks}
use Rattle.iso_search.specs.Outcomes.{Setting, fault_term, limits_in, state_in}
use Rattle.iso_search.specs.Reading.{View, IsView, reads}
use Rattle.iso_search.specs.Recovering.{ball_result, recovery_result}
use Rattle.iso_search.specs.Searching.{IsWhole, choices_of, node_of}
use Rattle.iso_search.specs.Spelling.{spelled, spelled_bindings, text_of}
use Rattle.iso_search.proofs.Copying.{cells-kept, cells-spelled, rename-kept, rename-spelled, variables-spelled}
use Rattle.term_store.proofs.Renumbering.{length-variables_renamed}
use Rattle.iso_search.proofs.Grown.{choices_grown, node_grown, read_kept, state_grown}
use Rattle.iso_search.proofs.Instances.{choices_kept, node-bound}
use Rattle.iso_search.proofs.Over.{state_by}
use Rattle.iso_search.proofs.Spelt.{bound-spelled, unify-spelled}

pub stays_built : (s t : Contents) (from : ℕ) (term : Tree) (p : Place) → Builds s from term t p → Adds s t → Stays s t
stays_built s t from term p b a = record { others = b.others; adds = a; used = b.used; budget = b.budget }

-- The copy that was built is the definition's.
pub copy_read : (v : View) (s t : Contents) (from : ℕ) (kept ball : Tree) (p : Place) → Builds s from kept t p → kept ≡ rename zero ball
    → reads v t p ≡ rename from (spelled (text_of v.names) ball)
copy_read v s t from kept ball p b e =
    let g = text_of v.names in
    ap (spelled g) (b.means ∙ ap (rename from) e ∙ rename-kept from ball) ∙ sym (rename-spelled g from ball)

-- The search `e`, with the store `s` in which the copy was built, and with the store `u` in which it was unified.
module _ (t : Setting) (view : IsView t.view) (e : Search) (s u : Contents) (g : Stays e.store s) (w : IsWhole e) (next from : ℕ) (place catcher recovery : Place) (ball : Tree)
    (adds : Adds s u) (used : u.used ≡ s.used) (rests : IsWhole (record e { store = s }))
    (held_catcher : Holds e.store catcher) (held_recovery : Holds e.store recovery)
    (copy : reads t.view s place ≡ rename from (spelled (text_of t.view.names) ball)) where
  same_pair : (unify (reads t.view s place) (reads t.view s catcher))
      ≡ unify (rename from (spelled (text_of t.view.names) ball)) (reads t.view e.store catcher)
  same_pair = ap₂ unify copy (read_kept t.view e.store s g catcher held_catcher)

  choices_left : choices_of t.view (record e { store = u }) ≡ choices_of t.view e
  choices_left =
      choices_kept t.view e.answer.items s u e.frames.items (reverse e.choices.items) adds rests.rests ∙ choices_grown e s g w t.view

  state_left : state_in t (record e { store = u }) ≡ state_in t e
  state_left =
      state_by t.doing t.doing (choices_of t.view (record e { store = u })) (choices_of t.view e) e.next_variable e.next_variable e.inferences e.inferences t.output
      refl choices_left refl refl

  -- Nothing unifies them.
  pub passed_on : (d : Search) → d ≡ record e { store = u } → unify (term_at s place) (term_at s catcher) ≡ None → u ≡ s
      → recovery_result t d next (Throw ball)
      ≡ ball_result (state_in t e) (node_of t.view e next) (reads t.view e.store catcher) (reads t.view e.store recovery) from (spelled (text_of t.view.names) ball)
  passed_on d is differ same =
      let v = t.view in
      let n = node_of v e next in
      let b = spelled (text_of v.names) ball in
      let answer : unify (rename from b) (reads v e.store catcher) ≡ None =
      sym same_pair ∙ unify-spelled (text_of v.names) view.apart (term_at s place) (term_at s catcher) ∙ ap (option_map (spelled_bindings (text_of v.names))) differ in
      ap (λ (x : Search). record (state_in t x) { doing = throwing b (node_of v x next).goals }) (is ∙ ap (λ c. let x : Search = record e { store = c } in x) same)
      ∙ ap₂ (λ (x : State) (m : Node). record x { doing = throwing b m.goals }) (state_grown e s g w t) (node_grown e s g w v next)
      ∙ ap (ball_unified (state_in t e) n b (reads v e.store recovery)) (sym answer)

  -- The bindings, and the node with them.
  module _ (bs : Bindings) (found : unify (term_at s place) (term_at s catcher) ≡ Some bs) (binds : (p : Place) → term_at u p ≡ bound bs (term_at s p)) where
    texts : Bindings
    texts = spelled_bindings (text_of t.view.names) bs

    answered : unify (rename from (spelled (text_of t.view.names) ball)) (reads t.view e.store catcher) ≡ Some (spelled_bindings (text_of t.view.names) bs)
    answered =
        sym same_pair ∙ unify-spelled (text_of t.view.names) view.apart (term_at s place) (term_at s catcher)
        ∙ ap (option_map (spelled_bindings (text_of t.view.names))) found

    read_bound : (p : Place) → reads t.view u p ≡ bound (spelled_bindings (text_of t.view.names) bs) (reads t.view s p)
    read_bound p = ap (spelled (text_of t.view.names)) (binds p) ∙ sym (bound-spelled (text_of t.view.names) bs (term_at s p))

    node_left : (list : ℕ) → node_of t.view (record e { store = u }) list ≡ node_instance (spelled_bindings (text_of t.view.names) bs) (node_of t.view e list)
    node_left list =
        node-bound (reads t.view s) (reads t.view u) (spelled_bindings (text_of t.view.names) bs) read_bound (tasks e.frames.items list) e.answer.items s.used u.used used
        ∙ ap (node_instance (spelled_bindings (text_of t.view.names) bs)) (node_grown e s g w t.view list)

    recovery_read : reads t.view u recovery ≡ bound (spelled_bindings (text_of t.view.names) bs) (reads t.view e.store recovery)
    recovery_read = read_bound recovery ∙ ap (bound (spelled_bindings (text_of t.view.names) bs)) (read_kept t.view e.store s g recovery held_recovery)

    -- In the search `d` the recovery goal was checked, and `c` is its store.
    whole_answer : (r : Result Tree Tree) → r ≡ body_of (reads t.view u recovery)
        → recovered (state_in t e) (node_instance (spelled_bindings (text_of t.view.names) bs) (node_of t.view e next)) (spelled (text_of t.view.names) ball) r
        ≡ ball_result (state_in t e) (node_of t.view e next) (reads t.view e.store catcher) (reads t.view e.store recovery) from (spelled (text_of t.view.names) ball)
    whole_answer r is =
        ap (recovered (state_in t e) (node_instance (spelled_bindings (text_of t.view.names) bs) (node_of t.view e next)) (spelled (text_of t.view.names) ball))
        (is ∙ ap body_of recovery_read)
        ∙ ap (ball_unified (state_in t e) (node_of t.view e next) (spelled (text_of t.view.names) ball) (reads t.view e.store recovery)) (sym answered)

    pub recovery_refused : (c : Contents) (f : Fault) → (k : Stays u c) → (x : IsWhole (record e { store = u }))
        → goal_or_error (reads t.view c) (Unfit f) ≡ body_of (reads t.view u recovery)
        → (let d : Search = record e { store = c } in recovery_result t d next (Refused f)
        ≡ ball_result (state_in t e) (node_of t.view e next) (reads t.view e.store catcher) (reads t.view e.store recovery) from (spelled (text_of t.view.names) ball))
    recovery_refused c f k x is =
        let m : Search = record e { store = u } in
        ap₂ (λ (y : State) (n : Node). record y { doing = throwing (error_ball (fault_term (reads t.view c) f) catch_proc) n.goals })
        (state_grown m c k x t ∙ state_left) (node_grown m c k x t.view next ∙ node_left next)
        ∙ whole_answer (Err (fault_term (reads t.view c) f)) is

    pub recovery_run : (c : Contents) (inner : Place) (f : Search) (height list : ℕ) → (k : Stays u c) → (x : IsWhole (record e { store = u }))
        → goal_or_error (reads t.view c) (Goal inner) ≡ body_of (reads t.view u recovery)
        → (let d : Search = record e { store = c } in height ≡ length (choices_of t.view d))
        → (let d : Search = record e { store = c } in node_of t.view f list ≡ before (goal (reads t.view c inner) height ∷ []) (node_of t.view d next))
        → (let d : Search = record e { store = c } in state_in t f ≡ state_in t d)
        → recovery_result t f next (Run list)
        ≡ ball_result (state_in t e) (node_of t.view e next) (reads t.view e.store catcher) (reads t.view e.store recovery) from (spelled (text_of t.view.names) ball)
    recovery_run c inner f height list k x is at node state =
        let m : Search = record e { store = u } in
        let d : Search = record e { store = c } in
        let tall : height ≡ length (choices_of t.view e) = at ∙ ap (λ (y : State). length y.choices) (state_grown m c k x t ∙ state_left) in
        ap₂ (λ (y : State) (n : Node). record y { doing = running n }) (state ∙ state_grown m c k x t ∙ state_left)
        (node ∙ ap₂ (λ h n. before (goal (reads t.view c inner) h ∷ []) n) tall (node_grown m c k x t.view next ∙ node_left next))
        ∙ whole_answer (Ok (reads t.view c inner)) is

-- The copy of the ball fits: its numbers and cells were taken, which led to the search `d`.
pub at_catch_fits : (t : Setting) (e d : Search) (next count need : ℕ) (catcher recovery : Place) (ball : Tree)
    → d ≡ record e { store = record e.store { used = d.store.used }; next_variable = d.next_variable }
    → choices_of t.view d ≡ choices_of t.view e → d.next_variable ≡ e.next_variable + count → d.store.used ≡ e.store.used + need
    → IsCopyOf ball count need
    → fitted t e ball None ≡ fitting (limits_in t e) (state_in t e) (node_of t.view e next) ball
    → ball_result (state_in t d) (node_of t.view d next) (reads t.view d.store catcher) (reads t.view d.store recovery) e.next_variable ball
    ≡ at_catch (state_in t e) (node_of t.view e next) (reads t.view e.store catcher) (reads t.view e.store recovery)
    (fitting (limits_in t e) (state_in t e) (node_of t.view e next) ball)
at_catch_fits t e d next count need catcher recovery ball kept choices numbers used copy fits =
    let v = t.view in
    let s = state_in t e in
    let n = node_of v e next in
    let state : state_in t d ≡ record s { next = e.next_variable + variable_count ball } =
    state_by t.doing t.doing (choices_of v d) (choices_of v e) d.next_variable (e.next_variable + variable_count ball) d.inferences e.inferences t.output
    refl choices (numbers ∙ ap (λ k. e.next_variable + k) copy.variables_are) (ap (λ (x : Search). x.inferences) kept) in
    let node : node_of v d next ≡ record n { used = e.store.used + cells ball } =
    ap (λ (x : Search). node_of v x next) kept ∙ ap (λ k. record n { used = k }) (used ∙ ap (λ k. e.store.used + k) copy.cells_are) in
    ap₂ (λ (x : State) (m : Node). ball_result x m (reads v d.store catcher) (reads v d.store recovery) e.next_variable ball) state node
    ∙ ap (λ (x : Search). ball_unified (record s { next = e.next_variable + variable_count ball }) (record n { used = e.store.used + cells ball }) ball
    (reads v x.store recovery) (unify (rename e.next_variable ball) (reads v x.store catcher))) kept
    ∙ ap (at_catch s n (reads v e.store catcher) (reads v e.store recovery)) fits

pub copy_kept : (v : View) (kept ball : Tree) (count need : ℕ) → kept ≡ rename zero ball → count ≡ length (variables kept) → need ≡ cells kept
    → IsCopyOf (spelled (text_of v.names) ball) count need
copy_kept v kept ball count need is variables_are cells_are =
    let g = text_of v.names in
    record {
      variables_are = variables_are ∙ ap (λ t. length (variables t)) is ∙ length-variables_renamed ball ∙ sym (ap length (variables-spelled g ball));
      cells_are = cells_are ∙ ap cells is ∙ cells-kept ball ∙ sym (cells-spelled g ball);
    }

-- The error of a budget has no variables.
pub no_variables : (s : Contents) (f : Fault) (name arity : ℕ) → IsOfBudget f → variables (error_tree s f name arity) ≡ []
no_variables s Inferences name arity b = refl
no_variables s Cells name arity b = refl
no_variables s Choices name arity b = absurd b
no_variables s Instantiation name arity b = absurd b
no_variables s (NotCallable p) name arity b = absurd b
no_variables s (NotInteger p) name arity b = absurd b
no_variables s (NotList p) name arity b = absurd b
no_variables s (NotStatus p) name arity b = absurd b

-- It comes to the catch in the place of a ball that does not fit.
pub at_catch_error : (t : Setting) (e : Search) (next : ℕ) (catcher recovery : Place) (f : Fault) (ball error : Tree) → IsOfBudget f
    → error ≡ error_ball (fault_term (reads t.view e.store) f) catch_proc
    → fitted t e ball (Some f) ≡ fitting (limits_in t e) (state_in t e) (node_of t.view e next) ball
    → ball_result (state_in t e) (node_of t.view e next) (reads t.view e.store catcher) (reads t.view e.store recovery) e.next_variable error
    ≡ at_catch (state_in t e) (node_of t.view e next) (reads t.view e.store catcher) (reads t.view e.store recovery)
    (fitting (limits_in t e) (state_in t e) (node_of t.view e next) ball)
at_catch_error t e next catcher recovery f ball error budget is fits =
    let v = t.view in
    let s = state_in t e in
    let n = node_of v e next in
    let c = reads v e.store catcher in
    let r = reads v e.store recovery in
    ap (ball_result s n c r e.next_variable) is
    ∙ go f budget
    ∙ ap (at_catch s n c r) fits
  where
    go : (x : Fault) → IsOfBudget x
        → ball_result (state_in t e) (node_of t.view e next) (reads t.view e.store catcher) (reads t.view e.store recovery) e.next_variable (error_ball (fault_term (reads t.view e.store) x) catch_proc)
        ≡ at_catch (state_in t e) (node_of t.view e next) (reads t.view e.store catcher) (reads t.view e.store recovery) (fitted t e ball (Some x))
    go Inferences b =
        ap₂ (λ k u. ball_unified (record (state_in t e) { next = k }) (record (node_of t.view e next) { used = u }) (error_ball no_inferences catch_proc) (reads t.view e.store recovery)
        (unify (rename e.next_variable (error_ball no_inferences catch_proc)) (reads t.view e.store catcher))) (sym (add-zero e.next_variable)) (sym (add-zero e.store.used))
    go Cells b =
        ap₂ (λ k u. ball_unified (record (state_in t e) { next = k }) (record (node_of t.view e next) { used = u }) (error_ball no_cells catch_proc) (reads t.view e.store recovery)
        (unify (rename e.next_variable (error_ball no_cells catch_proc)) (reads t.view e.store catcher))) (sym (add-zero e.next_variable)) (sym (add-zero e.store.used))
    go Choices b = absurd b
    go Instantiation b = absurd b
    go (NotCallable p) b = absurd b
    go (NotInteger p) b = absurd b
    go (NotList p) b = absurd b
    go (NotStatus p) b = absurd b
