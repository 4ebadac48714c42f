-- Terms that are checked and called, by the definition.
use Rattle.std.proofs.Common.{◌≡◌, ℕ, ℤ, suc, List, [], ◌∷◌, length, Some, None, Result, Ok, Err, refl, sym, ap, ap₂, ◌∙◌}
use Rattle.pl_term.specs.Tree.{Chars, Tree, var, int, atom, compound}
use Rattle.pl_model.specs.History.{Proc}
use Rattle.pl_model.specs.Predicates.{proc_of}
use Rattle.pl_model.specs.Balls.{instantiation_error, not_callable, error_ball}
use Rattle.pl_model.specs.BodyChecks.{body_of, called_goal, converted, if_callable, or_not_callable}
use Rattle.pl_model.specs.Resolution.{Node, Pending, State, collect, goal, throwing}
use Rattle.pl_model.specs.Control.{before, checked, extension_cells, over, run_on, taking, with_call}
use Rattle.pl_model.specs.Terms.{extended}
use Rattle.term_store.specs.declared.words.Place.{Place}
use Rattle.term_store.specs.declared.views.Arguments.{Arguments}
use Rattle.term_store.specs.Contents.{Contents, Holds, term_at}
use Rattle.iso_search.specs.declared.calls.Checked.TheVariants.{Goal, Refused}
use Rattle.iso_search.specs.declared.choices.Alternative.{Alternative}
use Rattle.iso_search.specs.declared.control.Exit.{Exit}
use Rattle.iso_search.specs.declared.control.Exit.TheVariants.{Commit, Refute, Leave, Collect}
use Rattle.iso_search.specs.declared.extending.Extended.{Extended}
use Rattle.iso_search.specs.declared.outcome.Fault.{Fault}
use Rattle.iso_search.specs.declared.outcome.Outcome.{Outcome}
use Rattle.iso_search.specs.declared.outcome.Outcome.TheVariants.{Run, Raise}
use Rattle.iso_search.specs.declared.search.Search.{Search}
use Rattle.iso_search.specs.Calling.{goal_or_error}
use Rattle.iso_search.specs.Choices.{IsAlternativeIn, choice_at}
use Rattle.iso_search.specs.Conversions.{Stays}
use Rattle.iso_search.specs.Extending.{IsCallable, further}
use Rattle.iso_search.specs.Outcomes.{IsExitIn, Setting, exit_at, fault_term, limits_in, result_in, state_in}
use Rattle.iso_search.specs.Reading.{View, reads}
use Rattle.iso_search.specs.Searching.{IsWhole, node_of, choices_of}
use Rattle.iso_search.specs.Spelling.{spelled, text_of}
use Rattle.iso_search.proofs.Grown.{choice_grown, node_grown, read_kept, state_grown}
use Rattle.iso_search.proofs.Over.{over_same, run_made}

-- The check of a body

pub body_made : (v : View) (s t : Contents) (body q : Place) → converted (reads v s body) ≡ Some (reads v t q)
    → goal_or_error (reads v t) (Goal q) ≡ body_of (reads v s body)
body_made v s t body q is = sym (ap (or_not_callable (reads v s body)) is)

pub body_refused : (v : View) (s t : Contents) (body : Place) (f : Fault) → Stays s t → Holds s body → converted (reads v s body) ≡ None
    → fault_term (reads v t) f ≡ not_callable (reads v t body)
    → goal_or_error (reads v t) (Refused f) ≡ body_of (reads v s body)
body_refused v s t body f g held is fault =
    ap Err (fault ∙ ap not_callable (read_kept v s t g body held)) ∙ sym (ap (or_not_callable (reads v s body)) is)

-- The check of an argument

pub refused_variable : (v : View) (s : Contents) (p : Place) (n : ℕ) → term_at s p ≡ var n → Err instantiation_error ≡ called_goal (reads v s p)
refused_variable v s p n e = sym (ap (λ u. called_goal (spelled (text_of v.names) u)) e)

pub refused_integer : (v : View) (s : Contents) (p : Place) (i : ℤ) → term_at s p ≡ int i → Err (not_callable (reads v s p)) ≡ called_goal (reads v s p)
refused_integer v s p i e =
    ap (λ u. Err (not_callable (spelled (text_of v.names) u))) e ∙ sym (ap (λ u. called_goal (spelled (text_of v.names) u)) e)

pub callable_atom : (v : View) (s : Contents) (p : Place) (a : Chars) → term_at s p ≡ atom a → body_of (reads v s p) ≡ called_goal (reads v s p)
callable_atom v s p a e =
    ap (λ u. body_of (spelled (text_of v.names) u)) e ∙ sym (ap (λ u. called_goal (spelled (text_of v.names) u)) e)

pub callable_term : (v : View) (s : Contents) (p : Place) (f : Chars) (ts : List Tree) → term_at s p ≡ compound f ts
    → body_of (reads v s p) ≡ called_goal (reads v s p)
callable_term v s p f ts e =
    ap (λ u. body_of (spelled (text_of v.names) u)) e ∙ go ts ∙ sym (ap (λ u. called_goal (spelled (text_of v.names) u)) e)
  where
    go : (us : List Tree) → body_of (spelled (text_of v.names) (compound f us)) ≡ called_goal (spelled (text_of v.names) (compound f us))
    go [] = refl
    go (u ∷ us) = refl

-- A goal over a choice point

-- What is to be done at its exit is read as before.
exit_grown : (v : View) (s t : Contents) → Stays s t → (x : Exit) → IsExitIn s x
    → (let a : ℕ → Pending = λ h. exit_at (reads v t) x h in let b : ℕ → Pending = λ h. exit_at (reads v s) x h in a ≡ b)
exit_grown v s t g Commit i = refl
exit_grown v s t g Refute i = refl
exit_grown v s t g Leave i = refl
exit_grown v s t g (Collect w) i = ap (λ y. let f : ℕ → Pending = λ h. collect y h in f) (read_kept v s t g w i)

pub exit_inside : (s t : Contents) → Stays s t → (x : Exit) → IsExitIn s x → IsExitIn t x
exit_inside s t g Commit i = tt
exit_inside s t g Refute i = tt
exit_inside s t g Leave i = tt
exit_inside s t g (Collect w) i = g.adds.places w i

module _ (t : Setting) (e f : Search) (s : Contents) (g : Stays e.store s) (w : IsWhole e) (rest : ℕ) (p : Proc) (o : Outcome) where
  pub called_over : (a : Alternative) (argument inner : Place) (x : Exit) → IsAlternativeIn e.store a → IsExitIn e.store x
      → called_goal (reads t.view e.store argument) ≡ Ok (reads t.view s inner)
      → (let d : Search = record e { store = s } in
      result_in t f (node_of t.view e rest) p o ≡ over (limits_in t d) (state_in t d) (node_of t.view e rest) p
      (choice_at t.view (reads t.view s) (node_of t.view d rest) a) (λ h. goal (reads t.view s inner) (suc h) ∷ exit_at (reads t.view s) x h ∷ []))
      → result_in t f (node_of t.view e rest) p o ≡ checked (state_in t e) (node_of t.view e rest) p (called_goal (reads t.view e.store argument))
      (λ body. over (limits_in t e) (state_in t e) (node_of t.view e rest) p (choice_at t.view (reads t.view e.store) (node_of t.view e rest) a)
      (λ h. goal body (suc h) ∷ exit_at (reads t.view e.store) x h ∷ []))
  called_over a argument inner x inside exit_inside is entered =
      let v = t.view in
      let d : Search = record e { store = s } in
      let n = node_of v e rest in
      entered
      ∙ over_same (limits_in t d) (limits_in t e) (state_in t d) (state_in t e) n p
      (choice_at v (reads v s) (node_of v d rest) a) (choice_at v (reads v e.store) n a)
      (λ h. goal (reads v s inner) (suc h) ∷ exit_at (reads v s) x h ∷ []) (λ h. goal (reads v s inner) (suc h) ∷ exit_at (reads v e.store) x h ∷ [])
      refl (state_grown e s g w t)
      (ap (λ m. choice_at v (reads v s) m a) (node_grown e s g w v rest) ∙ choice_grown v e.store s g n a inside)
      (ap (λ (y : ℕ → Pending). let f : ℕ → List Pending = λ h. goal (reads v s inner) (suc h) ∷ y h ∷ [] in f) (exit_grown v e.store s g x exit_inside))
      ∙ sym (ap (λ q. checked (state_in t e) n p q
      (λ body. over (limits_in t e) (state_in t e) n p (choice_at v (reads v e.store) n a) (λ h. goal body (suc h) ∷ exit_at (reads v e.store) x h ∷ []))) is)

-- A call of a goal that was given its arguments

abbrev pub CallOf : Setting → Search → Proc → ℕ → ℕ → Tree → State
CallOf t e p rest cells body =
    let s = state_in t e
    in taking (limits_in t e) s (node_of t.view e rest) p 0 cells (λ s' n'. run_on s' (before (goal body (length s.choices) ∷ []) n'))

call_same : (t : Setting) (e : Search) (s : Contents) (g : Stays e.store s) (w : IsWhole e) (p : Proc) (rest cells : ℕ) (body : Tree)
    → (let d : Search = record e { store = s } in CallOf t d p rest cells body ≡ CallOf t e p rest cells body)
call_same t e s g w p rest cells body =
    ap₂ (λ (x : State) (n : Node). taking (limits_in t e) x n p 0 cells (λ s' n'. run_on s' (before (goal body (length x.choices) ∷ []) n')))
    (state_grown e s g w t) (node_grown e s g w t.view rest)

-- The body was checked in the search `e`, which is the search `b` with a store that has gained terms; `d` is the search with the
-- cells taken.
module _ (t : Setting) (b d f : Search) (s : Contents) (g : Stays b.store s) (w : IsWhole b) (rest cells : ℕ) (p : Proc) (whole : Place) where
  pub call_refused : (x : Fault) → goal_or_error (reads t.view s) (Refused x) ≡ body_of (reads t.view b.store whole)
      → (let e : Search = record b { store = s } in
      result_in t e (node_of t.view b rest) p (Raise x) ≡ checked (state_in t b) (node_of t.view b rest) p (body_of (reads t.view b.store whole)) (CallOf t b p rest cells))
  call_refused x is =
      let v = t.view in
      let n = node_of v b rest in
      ap (λ (y : State). record y { doing = throwing (error_ball (fault_term (reads v s) x) p) n.goals }) (state_grown b s g w t)
      ∙ ap (λ q. checked (state_in t b) n p q (CallOf t b p rest cells)) is

  pub call_spent : (x : Fault) (inner : Place) → goal_or_error (reads t.view s) (Goal inner) ≡ body_of (reads t.view b.store whole)
      → (let e : Search = record b { store = s } in
      ((list : ℕ) (q : Proc) (next : State → Node → State)
      → result_in t d (node_of t.view e list) q (Raise x) ≡ taking (limits_in t e) (state_in t e) (node_of t.view e list) q 0 cells next))
      → result_in t d (node_of t.view b rest) p (Raise x) ≡ checked (state_in t b) (node_of t.view b rest) p (body_of (reads t.view b.store whole)) (CallOf t b p rest cells)
  call_spent x inner is taken =
      let v = t.view in
      let e : Search = record b { store = s } in
      let n = node_of v b rest in
      let body = reads v s inner in
      ap (λ m. result_in t d m p (Raise x)) (sym (node_grown b s g w v rest))
      ∙ taken rest p (λ s' n'. run_on s' (before (goal body (length (choices_of v e)) ∷ []) n'))
      ∙ call_same t b s g w p rest cells body
      ∙ ap (λ q. checked (state_in t b) n p q (CallOf t b p rest cells)) is

  pub call_run : (inner : Place) (height list : ℕ) → goal_or_error (reads t.view s) (Goal inner) ≡ body_of (reads t.view b.store whole)
      → (let e : Search = record b { store = s } in
      ((l : ℕ) (q : Proc) (next : State → Node → State)
      → next (state_in t d) (node_of t.view d l) ≡ taking (limits_in t e) (state_in t e) (node_of t.view e l) q 0 cells next))
      → (let e : Search = record b { store = s } in d ≡ record e { store = record e.store { used = d.store.used }; next_variable = d.next_variable })
      → (let e : Search = record b { store = s } in choices_of t.view d ≡ choices_of t.view e)
      → height ≡ length (choices_of t.view d)
      → node_of t.view f list ≡ before (goal (reads t.view d.store inner) height ∷ []) (node_of t.view d rest)
      → choices_of t.view f ≡ choices_of t.view d → f.next_variable ≡ d.next_variable → f.inferences ≡ d.inferences
      → result_in t f (node_of t.view b rest) p (Run list) ≡ checked (state_in t b) (node_of t.view b rest) p (body_of (reads t.view b.store whole)) (CallOf t b p rest cells)
  call_run inner height list is taken kept same at node choices next inferences =
      let v = t.view in
      let e : Search = record b { store = s } in
      let n = node_of v b rest in
      let body = reads v s inner in
      let read : reads v d.store inner ≡ body = ap (λ (x : Search). reads v x.store inner) kept in
      run_made t d f n (before (goal body (length (choices_of v e)) ∷ []) (node_of v d rest)) p list choices
      (node ∙ ap₂ (λ x h. before (goal x h ∷ []) (node_of v d rest)) read (at ∙ ap length same))
      next inferences
      ∙ taken rest p (λ s' n'. run_on s' (before (goal body (length (choices_of v e)) ∷ []) n'))
      ∙ call_same t b s g w p rest cells body
      ∙ ap (λ q. checked (state_in t b) n p q (CallOf t b p rest cells)) is

-- A call whose goal was given its arguments in the search `d`, which is the search `e` with a store that has gained terms.
pub call_made : (t : Setting) (e f : Search) (s : Contents) (k : Stays e.store s) (w : IsWhole e) (rest : ℕ) (g : Tree) (first : Place) (call : Arguments) (x : Extended) (o : Outcome)
    → IsCallable t.view e.store first call s x
    → (let d : Search = record e { store = s } in
    result_in t f (node_of t.view d rest) (proc_of g) o
    ≡ checked (state_in t d) (node_of t.view d rest) (proc_of g) (body_of (reads t.view s x.goal)) (CallOf t d (proc_of g) rest x.cells))
    → result_in t f (node_of t.view e rest) (proc_of g) o
    ≡ with_call (limits_in t e) (state_in t e) (node_of t.view e rest) g (reads t.view e.store first) (further t.view e.store call)
call_made t e f s k w rest g first call x o made ran =
    let v = t.view in
    let d : Search = record e { store = s } in
    let n = node_of v e rest in
    let p = proc_of g in
    let u = reads v e.store first in
    let us = further v e.store call in
    ap (λ m. result_in t f m p o) (sym (node_grown e s k w v rest))
    ∙ ran
    ∙ ap₂ (λ (y : State) (m : Node). checked y m p (body_of (reads v s x.goal))
    (λ body. taking (limits_in t e) y m p 0 x.cells (λ s' n'. run_on s' (before (goal body (length y.choices) ∷ []) n')))) (state_grown e s k w t) (node_grown e s k w v rest)
    ∙ ap₂ (λ y c. checked (state_in t e) n p (body_of y)
    (λ body. taking (limits_in t e) (state_in t e) n p 0 c (λ s' n'. run_on s' (before (goal body (length (choices_of v e)) ∷ []) n')))) made.stands made.cells
    ∙ ap (λ q. checked (state_in t e) n p q
    (λ body. taking (limits_in t e) (state_in t e) n p 0 (extension_cells u us) (λ s' n'. run_on s' (before (goal body (length (choices_of v e)) ∷ []) n'))))
    (sym (made.callable (body_of (extended u us))))

pub call_not_callable : (t : Setting) (e : Search) (s : Contents) (k : Stays e.store s) (w : IsWhole e) (rest : ℕ) (g : Tree) (first : Place) (call : Arguments) (x : Fault)
    → ((r : Result Tree Tree) → if_callable (reads t.view e.store first) r ≡ Err (fault_term (reads t.view s) x))
    → (let d : Search = record e { store = s } in
    result_in t d (node_of t.view e rest) (proc_of g) (Raise x)
    ≡ with_call (limits_in t e) (state_in t e) (node_of t.view e rest) g (reads t.view e.store first) (further t.view e.store call))
call_not_callable t e s k w rest g first call x refused =
    let v = t.view in
    let n = node_of v e rest in
    let p = proc_of g in
    let u = reads v e.store first in
    let us = further v e.store call in
    ap (λ (y : State). record y { doing = throwing (error_ball (fault_term (reads v s) x) p) n.goals }) (state_grown e s k w t)
    ∙ ap (λ q. checked (state_in t e) n p q
    (λ body. taking (limits_in t e) (state_in t e) n p 0 (extension_cells u us) (λ s' n'. run_on s' (before (goal body (length (choices_of v e)) ∷ []) n'))))
    (sym (refused (body_of (extended u us))))
