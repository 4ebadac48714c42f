-- What is taken from the budgets, by the definition.
use Rattle.std.proofs.Common.{◌≡◌, ℕ, suc, ◌+◌, ◌<◌, ◌≤◌, ◌^◌, Bool, true, false, cond, nat_lt, nat_le, reverse, Some, None, refl, sym, ap, ap₂, subst, ◌∙◌, arith, ◌⊎◌, inl, inr}
use Rattle.std.proofs.lemmas.Bool.Decides.{leb_tells}
use Rattle.std.proofs.lemmas.List.Elements.{All-weaker}
use Rattle.pl_term.specs.Tree.{Tree}
use Rattle.pl_model.specs.History.{Proc}
use Rattle.pl_model.specs.Predicates.{proc_of}
use Rattle.pl_model.specs.Balls.{error_ball, no_inferences, no_cells}
use Rattle.pl_model.specs.Resolution.{Node, State, Next, goes, collected_cells}
use Rattle.pl_model.specs.Terms.{variable_count}
use Rattle.pl_model.specs.Control.{Caught, catch_proc, costing, taking, fits, fitting, raised}
use Rattle.pl_term.specs.Cells.{cells}
use Rattle.term_store.specs.Contents.{Contents, Adds}
use Rattle.iso_search.specs.declared.search.Search.{Search}
use Rattle.iso_search.specs.declared.outcome.Outcome.TheVariants.{Raise}
use Rattle.iso_search.specs.declared.outcome.Fault.TheVariants.{Inferences, Cells}
use Rattle.iso_search.specs.Budgeting.{fitted}
use Rattle.iso_search.specs.Outcomes.{Setting, limits_in, state_in, result_in}
use Rattle.iso_search.specs.Reading.{View}
use Rattle.iso_search.specs.Searching.{IsWhole, node_of, choices_of}
use Rattle.iso_search.proofs.Instances.{choices_kept}
use Rattle.iso_search.proofs.Over.{is_below, not_below}
use Rattle.iso_search.proofs.Wholes.{whole_added}

-- An inference

pub inferred : (t : Setting) (e : Search) (n : Node) (g : Tree) (next : State → Next) → e.inferences < e.budgets.inferences
    → next (state_in t (record e { inferences = e.inferences + 1 })) ≡ costing (limits_in t e) (state_in t e) n g next
inferred t e n g next lt =
    let s = state_in t e in
    let one : e.inferences + 1 ≡ suc e.inferences = omega arith in
    ap (λ k. next (record s { inferences = k })) one
    ∙ sym (ap (λ b. cond b (next (record s { inferences = suc e.inferences })) (goes (raised s n no_inferences (proc_of g))))
    (is_below e.inferences e.budgets.inferences lt))

pub not_inferred : (t : Setting) (e : Search) (n : Node) (g : Tree) (next : State → Next) → e.budgets.inferences ≤ e.inferences
    → goes (result_in t e n (proc_of g) (Raise Inferences)) ≡ costing (limits_in t e) (state_in t e) n g next
not_inferred t e n g next le =
    let s = state_in t e in
    sym (ap (λ b. cond b (next (record s { inferences = suc e.inferences })) (goes (raised s n no_inferences (proc_of g))))
    (not_below e.inferences e.budgets.inferences le))

-- Cells

pub adds_charged : (s : Contents) (n : ℕ) → Adds s (record s { used = s.used + n })
adds_charged s n =
    record {
      places = λ p h. h;
      marks = λ m k. record { within = k.within; used = omega (arith, k.used); fit = k.fit };
      back = λ m k. refl;
    }

pub is_at_most : (a b : ℕ) → a ≤ b → nat_le a b ≡ true
is_at_most a b le = go (leb_tells a b)
  where
    go : ((nat_le a b ≡ true) × (a ≤ b)) ⊎ ((nat_le a b ≡ false) × (b < a)) → nat_le a b ≡ true
    go (inl h) = h.0
    go (inr h) = absurd (omega (arith, h.1))

pub not_at_most : (a b : ℕ) → b < a → nat_le a b ≡ false
not_at_most a b lt = go (leb_tells a b)
  where
    go : ((nat_le a b ≡ true) × (a ≤ b)) ⊎ ((nat_le a b ≡ false) × (b < a)) → nat_le a b ≡ false
    go (inl h) = absurd (omega (arith, h.1))
    go (inr h) = h.0

cells_fit : (t : Setting) (e : Search) (list need : ℕ) → IsWhole e → e.store.used + need ≤ e.store.budget
    → fits (limits_in t e) (state_in t e) (node_of t.view e list) need ≡ true
cells_fit t e list need w le =
    is_at_most (e.store.used + collected_cells (choices_of t.view e) + need) e.budgets.cells (let counted = w.budget t.view in omega (arith, counted, le))

cells_do_not_fit : (t : Setting) (e : Search) (list need : ℕ) → IsWhole e → e.store.budget < e.store.used + need
    → fits (limits_in t e) (state_in t e) (node_of t.view e list) need ≡ false
cells_do_not_fit t e list need w lt =
    not_at_most (e.store.used + collected_cells (choices_of t.view e) + need) e.budgets.cells (let counted = w.budget t.view in omega (arith, counted, lt))

-- Numbers of variables, and cells

module _ (t : Setting) (e d : Search) (new need : ℕ) (p : Proc) (list : ℕ) (next : State → Node → State) (w : IsWhole e) where
  by_tests : (a b : Bool) → nat_lt (e.next_variable + new) (2 ^ 64) ≡ a → fits (limits_in t e) (state_in t e) (node_of t.view e list) need ≡ b
      → (let s = state_in t e in let n = node_of t.view e list in
      cond a (cond b (next (record s { next = s.next + new }) (record n { used = n.used + need })) (raised s n no_cells p)) (raised s n no_inferences p)
      ≡ taking (limits_in t e) s n p new need next)
  by_tests a b first second =
      let s = state_in t e in
      let n = node_of t.view e list in
      sym (ap₂ (λ x y. cond x (cond y (next (record s { next = s.next + new }) (record n { used = n.used + need })) (raised s n no_cells p)) (raised s n no_inferences p)) first second)

  pub taken : e.next_variable + new < 2 ^ 64 → e.store.used + need ≤ e.store.budget
      → d ≡ record e { store = record e.store { used = e.store.used + need }; next_variable = e.next_variable + new }
      → next (state_in t d) (node_of t.view d list) ≡ taking (limits_in t e) (state_in t e) (node_of t.view e list) p new need next
  taken room le is =
      let s = state_in t e in
      let n = node_of t.view e list in
      let c = record e.store { used = e.store.used + need } in
      let kept = choices_kept t.view e.answer.items e.store c e.frames.items (reverse e.choices.items) (adds_charged e.store need) w.rests in
      subst (λ (x : Search). next (state_in t x) (node_of t.view x list) ≡ taking (limits_in t e) s n p new need next) (sym is)
      (ap (λ cs. next (record s { choices = cs; next = s.next + new }) (record n { used = n.used + need })) kept
      ∙ by_tests true true (is_below (e.next_variable + new) (2 ^ 64) room) (cells_fit t e list need w le))

  -- What follows where both fit.
  pub fitting_then : e.next_variable + new < 2 ^ 64 → e.store.used + need ≤ e.store.budget
      → (let s = state_in t e in let n = node_of t.view e list in next (record s { next = s.next + new }) (record n { used = n.used + need }))
      ≡ taking (limits_in t e) (state_in t e) (node_of t.view e list) p new need next
  fitting_then room le = by_tests true true (is_below (e.next_variable + new) (2 ^ 64) room) (cells_fit t e list need w le)

  pub no_room : e.store.budget < e.store.used + need → e.next_variable + new < 2 ^ 64 → d ≡ e
      → result_in t d (node_of t.view e list) p (Raise Cells) ≡ taking (limits_in t e) (state_in t e) (node_of t.view e list) p new need next
  no_room lt room is =
      subst (λ (x : Search). result_in t x (node_of t.view e list) p (Raise Cells) ≡ taking (limits_in t e) (state_in t e) (node_of t.view e list) p new need next) (sym is)
      (by_tests true false (is_below (e.next_variable + new) (2 ^ 64) room) (cells_do_not_fit t e list need w lt))

  pub no_number : 2 ^ 64 ≤ e.next_variable + new → d ≡ e
      → result_in t d (node_of t.view e list) p (Raise Inferences) ≡ taking (limits_in t e) (state_in t e) (node_of t.view e list) p new need next
  no_number le is =
      subst (λ (x : Search). result_in t x (node_of t.view e list) p (Raise Inferences) ≡ taking (limits_in t e) (state_in t e) (node_of t.view e list) p new need next) (sym is)
      (by_tests false (fits (limits_in t e) (state_in t e) (node_of t.view e list) need) (not_below (e.next_variable + new) (2 ^ 64) le) refl)

pub whole_taken : (e : Search) (new need : ℕ) → IsWhole e → IsWhole (record e { store = record e.store { used = e.store.used + need }; next_variable = e.next_variable + new })
whole_taken e new need w =
    whole_added e (record e.store { used = e.store.used + need }) (e.next_variable + new) (adds_charged e.store need) refl (omega arith)
    (All-weaker (λ m. m < e.next_variable) (λ m. m < e.next_variable + new) (λ m lt. omega arith) e.store.heap.numbers w.above) w

pub choices_taken : (v : View) (e : Search) (new need : ℕ) → IsWhole e
    → choices_of v (record e { store = record e.store { used = e.store.used + need }; next_variable = e.next_variable + new }) ≡ choices_of v e
choices_taken v e new need w =
    let c = record e.store { used = e.store.used + need } in
    choices_kept v e.answer.items e.store c e.frames.items (reverse e.choices.items) (adds_charged e.store need) w.rests

-- A ball that comes to a catch

module _ (t : Setting) (e : Search) (list : ℕ) (ball : Tree) (new need : ℕ) (w : IsWhole e) (count : new ≡ variable_count ball) (size : need ≡ cells ball) where
  by_fit : (a b : Bool) → nat_lt (e.next_variable + new) (2 ^ 64) ≡ a → fits (limits_in t e) (state_in t e) (node_of t.view e list) need ≡ b
      → (let whole : Caught = record { ball = ball; need = cells ball } in
      let cellless : Caught = record { ball = error_ball no_cells catch_proc; need = 0 } in
      let numberless : Caught = record { ball = error_ball no_inferences catch_proc; need = 0 } in
      cond a (cond b whole cellless) numberless ≡ fitting (limits_in t e) (state_in t e) (node_of t.view e list) ball)
  by_fit a b first second =
      let s = state_in t e in
      let n = node_of t.view e list in
      let whole : Caught = record { ball = ball; need = cells ball } in
      let cellless : Caught = record { ball = error_ball no_cells catch_proc; need = 0 } in
      let numberless : Caught = record { ball = error_ball no_inferences catch_proc; need = 0 } in
      ap₂ (λ x y. cond x (cond y whole cellless) numberless)
      (sym first ∙ ap (λ k. nat_lt (e.next_variable + k) (2 ^ 64)) count)
      (sym second ∙ ap (fits (limits_in t e) s n) size)

  pub ball_fits : e.next_variable + new < 2 ^ 64 → e.store.used + need ≤ e.store.budget
      → fitted t e ball None ≡ fitting (limits_in t e) (state_in t e) (node_of t.view e list) ball
  ball_fits room le = by_fit true true (is_below (e.next_variable + new) (2 ^ 64) room) (cells_fit t e list need w le)

  pub ball_too_large : e.next_variable + new < 2 ^ 64 → e.store.budget < e.store.used + need
      → fitted t e ball (Some Cells) ≡ fitting (limits_in t e) (state_in t e) (node_of t.view e list) ball
  ball_too_large room lt = by_fit true false (is_below (e.next_variable + new) (2 ^ 64) room) (cells_do_not_fit t e list need w lt)

  pub ball_not_numbered : 2 ^ 64 ≤ e.next_variable + new
      → fitted t e ball (Some Inferences) ≡ fitting (limits_in t e) (state_in t e) (node_of t.view e list) ball
  ball_not_numbered le =
      by_fit false (fits (limits_in t e) (state_in t e) (node_of t.view e list) need) (not_below (e.next_variable + new) (2 ^ 64) le) refl
