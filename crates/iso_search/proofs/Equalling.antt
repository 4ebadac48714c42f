-- Unification as a built-in predicate.
use Rattle.std.proofs.Common.{◌≡◌, ℕ, zero, suc, ◌+◌, ◌<◌, cond, [], ◌∷◌, ◌++◌, length, Option, Some, None, codes, refl, sym, ap, ◌∙◌, arith, length-append}
use Rattle.pl_term.specs.Tree.{Tree, none, more}
use Rattle.pl_term.specs.Variables.{has, occurrences, occurrences_all, replace}
use Rattle.pl_model.specs.Unify.{Bindings, Difference, same, clash, binds, or_later, difference, turn, solve, solve_all, unify}
use Rattle.pl_model.specs.History.{Proc}
use Rattle.pl_model.specs.Balls.{error_ball}
use Rattle.pl_model.specs.Resolution.{Limits, Node, State, throwing}
use Rattle.pl_model.specs.BuiltinRows.{one_answer, row}
use Rattle.pl_model.specs.Control.{taking, unified, with_row}
use Rattle.term_store.specs.declared.words.Place.{Place}
use Rattle.iso_search.specs.declared.outcome.Outcome.{Outcome}
use Rattle.iso_search.specs.declared.outcome.Outcome.TheVariants.{Run, Fail, Raise, Throw, Erase, Halt}
use Rattle.iso_search.specs.declared.search.Search.{Search}
use Rattle.iso_search.specs.Outcomes.{Setting, fault_term, limits_in, result_in, state_in}
use Rattle.iso_search.specs.Reading.{reads}
use Rattle.iso_search.specs.Searching.{node_of, state_of}
use Rattle.pl_model.proofs.UnifyTurns.{difference-same}
use Rattle.pl_model.proofs.UnifyEnough.{turns_enough}

-- Two terms of which the second faces itself too.
with_itself : (n : ℕ) (bs : Bindings) (t u : Tree) → solve n bs (more t (more u none)) (more u (more u none)) ≡ solve n bs (more t none) (more u none)
with_itself zero bs t u = refl
with_itself (suc n) bs t u =
    ap (λ d. turn (solve n) bs (more t (more u none)) (more u (more u none)) (or_later (difference t u) (or_later d same))) (difference-same u)
    ∙ go (or_later (difference t u) same) (λ cs v w. with_itself n cs v w)
  where
    go : (d : Difference)
        → ((cs : Bindings) (v w : Tree) → solve n cs (more v (more w none)) (more w (more w none)) ≡ solve n cs (more v none) (more w none))
        → turn (solve n) bs (more t (more u none)) (more u (more u none)) d ≡ turn (solve n) bs (more t none) (more u none) d
    go same ih = refl
    go clash ih = refl
    go (binds x s) ih = ap (λ o. cond (has x s) None o) (ih (bs ++ (x, s) ∷ []) (replace x s t) (replace x s u))

enough : (t u : Tree)
    → length (occurrences_all (more t none)) + length (occurrences_all (more u none))
    < suc (length (occurrences_all (more t (more u none))) + length (occurrences_all (more u (more u none))))
enough t u =
    omega (arith, length-append (occurrences t) [], length-append (occurrences u) [], length-append (occurrences t) (occurrences u ++ []), length-append (occurrences u) (occurrences u ++ []))

pub both_unified : (t u : Tree) → solve_all [] (more t (more u none)) (more u (more u none)) ≡ unify t u
unfolding solve_all unify
both_unified t u =
    let n = suc (length (occurrences_all (more t (more u none))) + length (occurrences_all (more u (more u none)))) in
    with_itself n [] t u ∙ turns_enough n [] (more t none) (more u none) (enough t u)

-- The row of =/2.
pub equal_row : (l : Limits) (s : State) (n : Node) (p : Proc) (t u : Tree)
    → taking l s n p 0 0 (λ s' n'. unified s' n' (unify t u)) ≡ with_row l s n p (more t (more u none)) (one_answer (more u (more u none)))
unfolding with_row
equal_row l s n p t u = ap (λ (o : Option Bindings). taking l s n p 0 0 (λ s' n'. unified s' n' o)) (sym (both_unified t u))

pub equal_is : (t u : Tree) (next : ℕ) → row (codes "=") (more t (more u none)) next ≡ Some (one_answer (more u (more u none)))
unfolding row
equal_is t u next = refl

-- What comes of an outcome depends on nothing of the node but its goals.
pub result_goals : (t : Setting) (e : Search) (n m : Node) (p : Proc) (o : Outcome) → n.goals ≡ m.goals → result_in t e n p o ≡ result_in t e m p o
result_goals t e n m p (Run list) g = refl
result_goals t e n m p Fail g = refl
result_goals t e n m p (Raise f) g =
    ap (λ gs. state_of t.view e (throwing (error_ball (fault_term (reads t.view e.store) f) p) gs) t.output) g
result_goals t e n m p (Throw w) g = ap (λ gs. state_of t.view e (throwing (reads t.view e.store w) gs) t.output) g
result_goals t e n m p (Erase place list) g = refl
result_goals t e n m p (Halt k) g = refl

-- Unification after nothing was taken.
pub equal_run : (t : Setting) (e d f : Search) (p : Proc) (left right : Place) (rest : ℕ) (o : Outcome)
    → d ≡ record e { store = record e.store { used = d.store.used }; next_variable = d.next_variable }
    → ((list : ℕ) (p : Proc) (next : State → Node → State)
    → next (state_in t d) (node_of t.view d list) ≡ taking (limits_in t e) (state_in t e) (node_of t.view e list) p 0 0 next)
    → result_in t f (node_of t.view d rest) p o
    ≡ unified (state_in t d) (node_of t.view d rest) (unify (reads t.view d.store left) (reads t.view d.store right))
    → result_in t f (node_of t.view e rest) p o
    ≡ with_row (limits_in t e) (state_in t e) (node_of t.view e rest) p (more (reads t.view e.store left) (more (reads t.view e.store right) none))
    (one_answer (more (reads t.view e.store right) (more (reads t.view e.store right) none)))
equal_run t e d f p left right rest o kept taken done =
    let v = t.view in
    result_goals t f (node_of v e rest) (node_of v d rest) p o (sym (ap (λ (x : Search). (node_of v x rest).goals) kept))
    ∙ done
    ∙ ap (unified (state_in t d) (node_of v d rest)) (ap (λ (x : Search). unify (reads v x.store left) (reads v x.store right)) kept)
    ∙ taken rest p (λ s' n'. unified s' n' (unify (reads v e.store left) (reads v e.store right)))
    ∙ equal_row (limits_in t e) (state_in t e) (node_of v e rest) p (reads v e.store left) (reads v e.store right)
