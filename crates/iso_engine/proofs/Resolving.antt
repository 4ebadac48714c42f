-- A clause is tried, by the definition.
use Rattle.std.proofs.Common.{◌≡◌, ℕ, List, [], ◌∷◌, length, Option, Some, None, refl, sym, ap, ap₂, ◌∙◌}
use Rattle.pl_term.specs.Tree.{Tree}
use Rattle.pl_term.specs.Variables.{variables}
use Rattle.pl_model.specs.History.{Clause, Proc, body_part}
use Rattle.pl_model.specs.Database.{Stored}
use Rattle.pl_model.specs.Terms.{clause_cells, raised_by, variable_count}
use Rattle.pl_model.specs.Unify.{Bindings, unify}
use Rattle.pl_model.specs.Balls.{error_ball}
use Rattle.pl_model.specs.Resolution.{Limits, Node, Pending, Purpose, State, goal, running, failing, throwing, erasing, node_instance, resolving, inspecting, retracting}
use Rattle.pl_model.specs.Resolution as resolution
use Rattle.pl_model.specs.Control.{before, clause_unified, pattern, taking, tried, tried_by, unified}
use Rattle.term_store.specs.declared.words.Place.{Place}
use Rattle.term_store.specs.Contents.{Contents, Holds}
use Rattle.term_store.specs.NumberedNames.{clause_size, term_by}
use Rattle.world_api.specs.Texts.{text_of}
use Rattle.world_api.specs.Visits.{clause_in}
use Rattle.iso_search.specs.declared.outcome.Fault.{Fault}
use Rattle.iso_search.specs.declared.outcome.Outcome.{Outcome}
use Rattle.iso_search.specs.declared.outcome.Outcome.TheVariants.{Run, Fail, Raise, Throw, Erase, Halt}
use Rattle.iso_search.specs.declared.search.Search.{Search}
use Rattle.iso_search.specs.Conversions.{Stays}
use Rattle.iso_search.specs.Outcomes.{IsOutcomeIn, Setting, fault_term, limits_in, result_in, state_in}
use Rattle.iso_search.specs.Reading.{IsView, reads}
use Rattle.iso_search.specs.Searching.{IsWhole, node_of}
use Rattle.iso_search.proofs.Grown.{node_grown, read_kept, state_grown}
use Rattle.iso_engine.specs.Purposes.{erased_outcome}
use Rattle.iso_engine.proofs.Copies.{cells_taken, numbers_taken}

-- Unification with a head

not_failing : (b : Tree) (ps : List Pending) → throwing b ps ≡ failing → ⊥
not_failing b ps e = cc

not_running : (b : Tree) (ps : List Pending) (n : Node) → throwing b ps ≡ running n → ⊥
not_running b ps n e = cc

-- What comes of a unification does not depend on the node that a ball would leave.
pub at_any_node : (t : Setting) (d : Search) (n m k : Node) (p : Proc) (o : Outcome) (s : State) (r : Option Bindings)
    → result_in t d n p o ≡ unified s m r → result_in t d k p o ≡ unified s m r
at_any_node t d n m k p (Run list) s r is = is
at_any_node t d n m k p Fail s r is = is
at_any_node t d n m k p (Raise f) s None is = absurd (not_failing (error_ball (fault_term (reads t.view d.store) f) p) n.goals (ap (λ (x : State). x.doing) is))
at_any_node t d n m k p (Raise f) s (Some bs) is =
    absurd (not_running (error_ball (fault_term (reads t.view d.store) f) p) n.goals (node_instance bs m) (ap (λ (x : State). x.doing) is))
at_any_node t d n m k p (Throw w) s None is = absurd (not_failing (reads t.view d.store w) n.goals (ap (λ (x : State). x.doing) is))
at_any_node t d n m k p (Throw w) s (Some bs) is = absurd (not_running (reads t.view d.store w) n.goals (node_instance bs m) (ap (λ (x : State). x.doing) is))
at_any_node t d n m k p (Erase c l) s r is = is
at_any_node t d n m k p (Halt c) s r is = is

-- The search `e`, with the store `s` in which the copy of a clause stands, as a rule; `f` is the one in which the rule was unified.
pub matched : (t : Setting) (e f : Search) (s : Contents) → Stays e.store s → IsWhole e → (goal_at copy : Place) (rest : ℕ) (p : Proc) (o : Outcome) (u : Tree)
    → Holds e.store goal_at → reads t.view s copy ≡ u
    → (let d : Search = record e { store = s } in
    result_in t f (node_of t.view d rest) p o ≡ unified (state_in t d) (node_of t.view d rest) (unify (reads t.view s goal_at) (reads t.view s copy)))
    → result_in t f (node_of t.view e rest) p o ≡ unified (state_in t e) (node_of t.view e rest) (unify (reads t.view e.store goal_at) u)
matched t e f s stays whole goal_at copy rest p o u held is ran =
    let v = t.view in
    let d : Search = record e { store = s } in
    let r : Option Bindings = unify (reads v s goal_at) (reads v s copy) in
    at_any_node t f (node_of v d rest) (node_of v d rest) (node_of v e rest) p o (state_in t d) r ran
    ∙ ap₂ (λ (x : State) (m : Node). unified x m r) (state_grown e s stays whole t) (node_grown e s stays whole v rest)
    ∙ ap (unified (state_in t e) (node_of v e rest)) (ap₂ unify (read_kept v e.store s stays goal_at held) is)

-- clause/2 is done with a clause that it has unified with.
pub unified_looked : (s : State) (n : Node) (h place : ℕ) (body : Tree) (r : Option Bindings) → unified s n r ≡ clause_unified inspecting s n h place body r
unified_looked s n h place body None = refl
unified_looked s n h place body (Some bs) = refl

-- retract/1 erases it.

abbrev erasing_by : ℕ → resolution.Doing → resolution.Doing
erasing_by place (running n) = erasing place n
erasing_by place d = d

erases : (place : ℕ) (x s : State) (n m : Node) (bs : Bindings) → x.doing ≡ running n → x ≡ record s { doing = running m }
    → (let y : State = record x { doing = erasing place n } in let z : State = record s { doing = erasing place m } in y ≡ z)
erases place x s n m bs runs is =
    ap (λ (d : resolution.Doing). let y : State = record x { doing = erasing_by place d } in y) (sym runs)
    ∙ ap (λ (q : State). let y : State = record q { doing = erasing_by place q.doing } in y) is

pub unified_erased : (t : Setting) (d : Search) (n m : Node) (p : Proc) (o : Outcome) (s : State) (h place : ℕ) (body : Tree) (r : Option Bindings)
    → result_in t d n p o ≡ unified s m r → result_in t d n p (erased_outcome place o) ≡ clause_unified retracting s m h place body r
unified_erased t d n m p (Run list) s h place body None is = absurd (running_fails (node_of t.view d list) (ap (λ (x : State). x.doing) is))
  where
    running_fails : (k : Node) → running k ≡ failing → ⊥
    running_fails k e = cc
unified_erased t d n m p (Run list) s h place body (Some bs) is =
    erases place (result_in t d n p (Run list)) s (node_of t.view d list) (node_instance bs m) bs refl is
unified_erased t d n m p Fail s h place body None is = is
unified_erased t d n m p Fail s h place body (Some bs) is = absurd (failing_runs (node_instance bs m) (ap (λ (x : State). x.doing) is))
  where
    failing_runs : (k : Node) → failing ≡ running k → ⊥
    failing_runs k e = cc
unified_erased t d n m p (Raise f) s h place body None is = absurd (not_failing (error_ball (fault_term (reads t.view d.store) f) p) n.goals (ap (λ (x : State). x.doing) is))
unified_erased t d n m p (Raise f) s h place body (Some bs) is =
    absurd (not_running (error_ball (fault_term (reads t.view d.store) f) p) n.goals (node_instance bs m) (ap (λ (x : State). x.doing) is))
unified_erased t d n m p (Throw w) s h place body None is = absurd (not_failing (reads t.view d.store w) n.goals (ap (λ (x : State). x.doing) is))
unified_erased t d n m p (Throw w) s h place body (Some bs) is =
    absurd (not_running (reads t.view d.store w) n.goals (node_instance bs m) (ap (λ (x : State). x.doing) is))
unified_erased t d n m p (Erase c l) s h place body None is = absurd (erasing_fails c (node_of t.view d l) (ap (λ (x : State). x.doing) is))
  where
    erasing_fails : (c : ℕ) (k : Node) → erasing c k ≡ failing → ⊥
    erasing_fails c k e = cc
unified_erased t d n m p (Erase c l) s h place body (Some bs) is =
    absurd (erasing_runs c (node_of t.view d l) (node_instance bs m) (ap (λ (x : State). x.doing) is))
  where
    erasing_runs : (c : ℕ) (k j : Node) → erasing c k ≡ running j → ⊥
    erasing_runs c k j e = cc
unified_erased t d n m p (Halt c) s h place body None is = absurd (ended_fails c (ap (λ (x : State). x.doing) is))
  where
    ended_fails : (c : ℕ) → resolution.ended (resolution.halted c) ≡ failing → ⊥
    ended_fails c e = cc
unified_erased t d n m p (Halt c) s h place body (Some bs) is = absurd (ended_runs c (node_instance bs m) (ap (λ (x : State). x.doing) is))
  where
    ended_runs : (c : ℕ) (j : Node) → resolution.ended (resolution.halted c) ≡ running j → ⊥
    ended_runs c j e = cc

pub not_erased : (place : ℕ) (o : Outcome) → ((l : ℕ) → o ≡ Run l → ⊥) → o ≡ erased_outcome place o
not_erased place (Run l) other = absurd (other l refl)
not_erased place Fail other = refl
not_erased place (Raise f) other = refl
not_erased place (Throw w) other = refl
not_erased place (Erase c l) other = refl
not_erased place (Halt c) other = refl

pub erased_inside : (e d : Search) (place : ℕ) (o : Outcome) → IsOutcomeIn e d o → IsOutcomeIn e d (erased_outcome place o)
erased_inside e d place (Run l) h = tt
erased_inside e d place Fail h = h
erased_inside e d place (Raise f) h = h
erased_inside e d place (Throw w) h = h
erased_inside e d place (Erase c l) h = h
erased_inside e d place (Halt c) h = h

-- A clause

abbrev pub after : Purpose → State → ℕ → ℕ → Tree → ℕ → Tree → State → Node → State
after q s height place g from c s' n' =
    clause_unified q s' n' height place (raised_by from (body_part c)) (unify g (raised_by from (pattern q (clause_in c))))

tried_by_term : (l : Limits) (q : Purpose) (s : State) (g : Tree) (n : Node) (h place : ℕ) (c : Stored Clause) (u : Tree) (variables_taken cells : ℕ) → clause_in u ≡ c.clause
    → place ≡ c.place → variables_taken ≡ variable_count u → cells ≡ clause_cells (clause_in u)
    → taking l s n (tried_by q g) variables_taken cells
    (λ s' n'. clause_unified q s' n' h place (raised_by s.next (body_part u)) (unify g (raised_by s.next (pattern q (clause_in u)))))
    ≡ tried l q s g n h c
tried_by_term l q s g n h place c u variables_taken cells is at vs cs =
    ap₂ (λ k m. taking l s n (tried_by q g) k m
    (λ s' n'. clause_unified q s' n' h place (raised_by s.next (body_part u)) (unify g (raised_by s.next (pattern q (clause_in u)))))) vs cs
    ∙ ap₂ (λ (x : Clause) i. taking l s n (tried_by q g) x.variables (clause_cells x)
    (λ s' n'. clause_unified q s' n' h i (raised_by s.next x.body) (unify g (raised_by s.next (pattern q x))))) is at

-- The numbers and cells could not be taken.
pub tried_spent : (t : Setting) → IsView t.view → (q : Purpose) (e d : Search) (rest height place taken cells : ℕ) (g : Tree) (c : Stored Clause) (clause : Tree) (f : Fault)
    → clause_in (term_by (text_of t.view.names) clause) ≡ c.clause → place ≡ c.place → taken ≡ length (variables clause) → cells ≡ clause_size clause
    → ((list : ℕ) (p : Proc) (next : State → Node → State)
    → result_in t d (node_of t.view e list) p (Raise f) ≡ taking (limits_in t e) (state_in t e) (node_of t.view e list) p taken cells next)
    → result_in t d (node_of t.view e rest) (tried_by q g) (Raise f) ≡ tried (limits_in t e) q (state_in t e) g (node_of t.view e rest) height c
tried_spent t view q e d rest height place taken cells g c clause f is at variables_are cells_are spent =
    let u = term_by (text_of t.view.names) clause in
    spent rest (tried_by q g)
    (λ s' n'. clause_unified q s' n' height place (raised_by e.next_variable (body_part u)) (unify g (raised_by e.next_variable (pattern q (clause_in u)))))
    ∙ tried_by_term (limits_in t e) q (state_in t e) g (node_of t.view e rest) height place c u taken cells is at
    (variables_are ∙ numbers_taken t.view view clause) (cells_are ∙ cells_taken t.view view clause)

-- They were taken, which led to the search `d`.
pub tried_resolved : (t : Setting) → IsView t.view → (q : Purpose) (e d f : Search) (rest height place taken cells : ℕ) (g : Tree) (c : Stored Clause) (clause : Tree) (o : Outcome)
    → clause_in (term_by (text_of t.view.names) clause) ≡ c.clause → place ≡ c.place → taken ≡ length (variables clause) → cells ≡ clause_size clause
    → ((list : ℕ) (p : Proc) (next : State → Node → State)
    → next (state_in t d) (node_of t.view d list) ≡ taking (limits_in t e) (state_in t e) (node_of t.view e list) p taken cells next)
    → (let u = term_by (text_of t.view.names) clause in
    result_in t f (node_of t.view d rest) (tried_by q g) o
    ≡ clause_unified q (state_in t d) (node_of t.view d rest) height place (raised_by e.next_variable (body_part u)) (unify g (raised_by e.next_variable (pattern q (clause_in u)))))
    → (k : Node) → result_in t f k (tried_by q g) o ≡ result_in t f (node_of t.view d rest) (tried_by q g) o
    → result_in t f k (tried_by q g) o ≡ tried (limits_in t e) q (state_in t e) g (node_of t.view e rest) height c
tried_resolved t view q e d f rest height place taken cells g c clause o is at variables_are cells_are step ran k any =
    let u = term_by (text_of t.view.names) clause in
    any ∙ ran
    ∙ step rest (tried_by q g)
    (λ s' n'. clause_unified q s' n' height place (raised_by e.next_variable (body_part u)) (unify g (raised_by e.next_variable (pattern q (clause_in u)))))
    ∙ tried_by_term (limits_in t e) q (state_in t e) g (node_of t.view e rest) height place c u taken cells is at
    (variables_are ∙ numbers_taken t.view view clause) (cells_are ∙ cells_taken t.view view clause)

-- What comes of a clause does not depend on the node that a ball would leave either.

never_throws : (q : Purpose) (s : State) (m : Node) (h place : ℕ) (body : Tree) (r : Option Bindings) (b : Tree) (ps : List Pending)
    → throwing b ps ≡ (clause_unified q s m h place body r).doing → ⊥
never_throws resolving s m h place body None b ps e = not_failing b ps e
never_throws inspecting s m h place body None b ps e = not_failing b ps e
never_throws retracting s m h place body None b ps e = not_failing b ps e
never_throws resolving s m h place body (Some bs) b ps e = not_running b ps (node_instance bs (before (goal body h ∷ []) m)) e
never_throws inspecting s m h place body (Some bs) b ps e = not_running b ps (node_instance bs m) e
never_throws retracting s m h place body (Some bs) b ps e = not_erasing b ps place (node_instance bs m) e
  where
    not_erasing : (b : Tree) (ps : List Pending) (c : ℕ) (n : Node) → throwing b ps ≡ erasing c n → ⊥
    not_erasing b ps c n e = cc

pub at_any_other : (t : Setting) (d : Search) (q : Purpose) (n m k : Node) (p : Proc) (o : Outcome) (s : State) (h place : ℕ) (body : Tree) (r : Option Bindings)
    → result_in t d n p o ≡ clause_unified q s m h place body r → result_in t d k p o ≡ result_in t d n p o
at_any_other t d q n m k p (Run list) s h place body r is = refl
at_any_other t d q n m k p Fail s h place body r is = refl
at_any_other t d q n m k p (Raise f) s h place body r is =
    absurd (never_throws q s m h place body r (error_ball (fault_term (reads t.view d.store) f) p) n.goals (ap (λ (x : State). x.doing) is))
at_any_other t d q n m k p (Throw w) s h place body r is = absurd (never_throws q s m h place body r (reads t.view d.store w) n.goals (ap (λ (x : State). x.doing) is))
at_any_other t d q n m k p (Erase c l) s h place body r is = refl
at_any_other t d q n m k p (Halt c) s h place body r is = refl
