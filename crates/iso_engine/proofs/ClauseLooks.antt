-- The step of the definition that takes up a goal of clause/2 or retract/1.
use Rattle.std.proofs.Common.{◌≡◌, ℕ, ◌<◌, ◌≤◌, None, refl, ap, ◌∙◌}
use Rattle.std.proofs.lemmas.Bool.{le-ltb, lt-ltb}
use Rattle.pl_model.specs.Control.{costing, raised, take_up, with_clauses}
use Rattle.pl_model.specs.Balls.{no_inferences}
use Rattle.pl_model.specs.Predicates.{proc_of}
use Rattle.pl_model.specs.Resolution.{asks, goes}
use Rattle.pl_model.specs.Control as control
use Rattle.iso_search.specs.declared.search.Search.{Search}
use Rattle.iso_search.specs.Choices.{listed_goal, purpose_of}
use Rattle.iso_search.specs.Outcomes.{Setting, limits_in, state_in}
use Rattle.iso_search.specs.Reading.{IsView, reads}
use Rattle.iso_search.specs.Searching.{node_of}
use Rattle.iso_engine.specs.declared.state.looks.Look.{Look}
use Rattle.iso_engine.specs.declared.state.looks.Look.TheVariants.{Inspects, Retracts}
use Rattle.iso_engine.specs.declared.state.looks.LookGoal.{LookGoal}
use Rattle.iso_engine.specs.ClauseLooks.{IsLookAt, look_construct, look_error, look_next, looked_rule, purpose_for}
use Rattle.iso_engine.specs.ClausesAsked.{listing}
use Rattle.iso_engine.specs.Wrote.{taken}
use Rattle.iso_engine.proofs.LookGoals.{look_stands}
use Rattle.iso_engine.proofs.StateRows.{counted_in, no_inference, one_inference}

module _ (e : Search) (x : LookGoal) (rest : ℕ) (at : IsLookAt e.store x) where
  go : (s : Setting) (h : ℕ) (y : Look)
      → (let k = node_of s.view e rest in let g = reads s.view e.store x.place in
      take_up (limits_in s e) (state_in s e) k g h (look_construct s.view e.store y)
      ≡ costing (limits_in s e) (state_in s e) k g (λ q. look_next (limits_in s e) q k g s.view e.store y))
  unfolding take_up
  go s h (Inspects a b) = refl
  go s h (Retracts t) = refl

  look_taken : (s : Setting) (h : ℕ) → IsView s.view
      → (let k = node_of s.view e rest in let g = reads s.view e.store x.place in
      taken s e x.place rest h ≡ costing (limits_in s e) (state_in s e) k g (λ q. look_next (limits_in s e) q k g s.view e.store x.look))
  look_taken s h view =
      let l = limits_in s e
      in let q = state_in s e
      in let k = node_of s.view e rest
      in let g = reads s.view e.store x.place
      in ap (take_up l q k g h) (look_stands e.store x at s.view view) ∙ go s h x.look

  -- An inference can be made, and the goal is not refused.
  pub look_asks : (s : Setting) (h : ℕ) → IsView s.view → e.inferences < e.budgets.inferences → look_error s.view e.store x.look ≡ None
      → (let k = node_of s.view e rest in let p = purpose_of (purpose_for x.look) in let r = looked_rule s.view e.store x.look in
      taken s e x.place rest h ≡ asks (listing (purpose_for x.look) (listed_goal p r)) (with_clauses (limits_in s e) p (state_in s (counted_in e)) r k))
  look_asks s h view count allowed =
      let l = limits_in s e
      in let k = node_of s.view e rest
      in let g = reads s.view e.store x.place
      in let p = purpose_of (purpose_for x.look)
      in let r = looked_rule s.view e.store x.look
      in look_taken s h view
      ∙ one_inference l (state_in s e) k g (λ q. look_next l q k g s.view e.store x.look) (lt-ltb e.inferences e.budgets.inferences count)
      ∙ ap (λ o. control.unless (state_in s (counted_in e)) k g o (asks (listing (purpose_for x.look) (listed_goal p r)) (with_clauses l p (state_in s (counted_in e)) r k))) allowed

  -- No inference can be made.
  pub look_spent : (s : Setting) (h : ℕ) → IsView s.view → e.budgets.inferences ≤ e.inferences
      → (let k = node_of s.view e rest in taken s e x.place rest h ≡ goes (raised (state_in s e) k no_inferences (proc_of (reads s.view e.store x.place))))
  look_spent s h view most =
      let l = limits_in s e
      in let k = node_of s.view e rest
      in let g = reads s.view e.store x.place
      in look_taken s h view
      ∙ no_inference l (state_in s e) k g (λ q. look_next l q k g s.view e.store x.look) (le-ltb e.inferences e.budgets.inferences most)

  -- The goal is refused.
  pub look_wrong : (s : Setting) (h : ℕ) (error : Rattle.pl_term.specs.Tree.Tree) → IsView s.view → e.inferences < e.budgets.inferences
      → look_error s.view e.store x.look ≡ Rattle.std.specs.Prelude.Some error
      → (let k = node_of s.view e rest in taken s e x.place rest h ≡ goes (raised (state_in s (counted_in e)) k error (proc_of (reads s.view e.store x.place))))
  look_wrong s h error view count wrong =
      let l = limits_in s e
      in let k = node_of s.view e rest
      in let g = reads s.view e.store x.place
      in let p = purpose_of (purpose_for x.look)
      in let r = looked_rule s.view e.store x.look
      in look_taken s h view
      ∙ one_inference l (state_in s e) k g (λ q. look_next l q k g s.view e.store x.look) (lt-ltb e.inferences e.budgets.inferences count)
      ∙ ap (λ o. control.unless (state_in s (counted_in e)) k g o (asks (listing (purpose_for x.look) (listed_goal p r)) (with_clauses l p (state_in s (counted_in e)) r k))) wrong
