-- The begin of a search.
use Rattle.std.proofs.Common.{◌≡◌, ℕ, zero, List, [], ◌∷◌, length, map, reverse, codes, Option, Some, None, MatchOption, Result, refl, sym, ap, ap₂, subst, ◌∙◌}
use Rattle.pl_term.specs.Tree.{Chars, Tree, var}
use Rattle.pl_term.specs.Cells.{cells}
use Rattle.pl_term.specs.Variables.{rename, variables}
use Rattle.pl_model.specs.History.{Proc}
use Rattle.pl_model.specs.Predicates.{proc_of}
use Rattle.pl_model.specs.BodyChecks.{body_of}
use Rattle.pl_model.specs.Resolution.{Choice, goal, Limits, Node, Pending, State, running, Output}
use Rattle.pl_model.specs.Control.{before, checked, consult_proc, run_on, start, start_node, start_state, taking}
use Rattle.atom_api.specs.FixedNames.{consult_name}
use Rattle.atom_api.specs.Fixed.{fixed, fixed_texts}
use Rattle.term_store.specs.declared.words.Place.{Place}
use Rattle.term_store.specs.Contents.{Contents, term_at, upwards}
use Rattle.world_api.specs.declared.visit.Procedure.{Procedure}
use Rattle.iso_search.specs.declared.outcome.Outcome.{Outcome}
use Rattle.iso_search.specs.declared.outcome.Outcome.TheVariants.{Run, Fail, Raise, Throw, Erase, Halt}
use Rattle.iso_search.specs.declared.search.Budgets.{Budgets}
use Rattle.iso_search.specs.declared.search.Search.{Search}
use Rattle.iso_search.specs.Choices.{choices_at}
use Rattle.iso_search.specs.Outcomes.{Setting, doing_by, fault_term, limits_in, result_in, state_in}
use Rattle.iso_search.specs.Reading.{IsView, View, pending, reads}
use Rattle.iso_search.specs.Searching.{node_of, state_of}
use Rattle.iso_search.specs.Spelling.{spelled, text_of}
use Rattle.iso_search.proofs.Copying.{cells-spelled, variables-spelled}
use Rattle.iso_search.proofs.Stacked.{tasks-zero}
use Rattle.iso_engine.specs.declared.doing.Doing.{Doing}
use Rattle.iso_engine.specs.Standing.{doing_of, state_at}
use Rattle.iso_engine.specs.declared.starting.Begun.{Begun}
use Rattle.iso_engine.specs.declared.starting.Begun.TheVariants.{Refused, Taken}
use Rattle.iso_engine.specs.Starting.{IsKind, IsNamed, begun, outcome_of, proc_begun}
use Rattle.iso_engine.proofs.Numbered.{numbered_variables}

pub consult_text : fixed consult_name ≡ Some (codes "consult")
unfolding fixed_texts
consult_text = refl

doing_bare : (t : Setting) (f : Search) (n m : Node) (p : Proc) (o : Outcome) → n.goals ≡ m.goals → doing_by t f n p o ≡ doing_by t f m p o
doing_bare t f n m p (Run list) e = refl
doing_bare t f n m p Fail e = refl
doing_bare t f n m p (Raise x) e = ap (λ gs. Rattle.pl_model.specs.Resolution.throwing (Rattle.pl_model.specs.Balls.error_ball (fault_term (reads t.view f.store) x) p) gs) e
doing_bare t f n m p (Throw w) e = ap (Rattle.pl_model.specs.Resolution.throwing (reads t.view f.store w)) e
doing_bare t f n m p (Erase place list) e = refl
doing_bare t f n m p (Halt k) e = refl

no_goals : (v : View) (e f : Search) → (node_of v f 0).goals ≡ (node_of v e 0).goals
no_goals v e f =
    ap (map (Rattle.iso_search.specs.Reading.pending (reads v f.store))) (tasks-zero f.frames.items)
    ∙ sym (ap (map (Rattle.iso_search.specs.Reading.pending (reads v e.store))) (tasks-zero e.frames.items))

-- What is left of a check where it is known how it ends.
abbrev after_check : State → Node → Proc → Proc → Limits → Tree → Result Tree Tree → State
after_check s n p q l term r = checked s n p r (λ body. taking l s n q 0 (cells term) (λ s' n'. run_on s' (before (goal body (length s.choices) ∷ []) n')))

same_check : (s : State) (n : Node) (l : Limits) (v : View) (term : Tree) (b : Begun) (p : Option Procedure) (r : Result Tree Tree) → IsKind b r → IsNamed b p
    → ((k : Procedure) → p ≡ Some k → proc_of term ≡ record { name = text_of v.names (Rattle.term_store.specs.Heap.atom_name k.name); arity = k.arity })
    → after_check s n (proc_begun v b p) (proc_begun v b p) l term r ≡ after_check s n consult_proc (proc_of term) l term r
same_check s n l v term (Refused f) p r kind named procs =
    ap (after_check s n consult_proc consult_proc l term) kind.1 ∙ sym (ap (after_check s n consult_proc (proc_of term) l term) kind.1)
same_check s n l v term (Taken o) None r kind named procs = absurd named
same_check s n l v term (Taken o) (Some k) r kind named procs =
    ap (λ q. after_check s n q q l term r) (sym (procs k refl))
    ∙ ap (after_check s n (proc_of term) (proc_of term) l term) kind.1
    ∙ sym (ap (after_check s n consult_proc (proc_of term) l term) kind.1)

reads_all : (g : Chars → Chars) (s : Contents) (xs : List Place) → map (λ p. spelled g (term_at s p)) xs ≡ map (spelled g) (map (term_at s) xs)
reads_all g s [] = refl
reads_all g s (x ∷ xs) = ap (λ ys. spelled g (term_at s x) ∷ ys) (reads_all g s xs)

variables_stay : (g : Chars → Chars) (xs : List ℕ) → map (spelled g) (map var xs) ≡ map var xs
variables_stay g [] = refl
variables_stay g (x ∷ xs) = ap (λ ys. var x ∷ ys) (variables_stay g xs)

abbrev node_with : List Pending → List Tree → ℕ → Node
node_with gs ts k = let n : Node = record { goals = gs; answer = ts; used = k } in n

abbrev state_with : Tree → List Choice → ℕ → ℕ → State
state_with term cs k i = let s : State = record { doing = running (start_node term); choices = cs; next = k; inferences = i; output = [] } in s

start_same : (l : Limits) (term : Tree) → after_check (start_state term) (start_node term) consult_proc (proc_of term) l term (body_of term) ≡ start l term
unfolding start
start_same l term = refl

pub starts_as : (v : View) → IsView v → (e f : Search) (d : Doing) (b : Begun) (p : Option Procedure) (at : Place) (need wanted : ℕ) (stays : Option Chars) (term : Tree)
    → e.choices.items ≡ []
    → e.next_variable ≡ length (variables term)
    → e.inferences ≡ 0
    → e.store.used ≡ 0
    → map (term_at e.store) e.answer.items ≡ map var (upwards zero (length (variables term)))
    → rename zero term ≡ term
    → term_at e.store at ≡ term
    → need ≡ cells term
    → f.budgets ≡ e.budgets
    → IsNamed b p
    → ((k : Procedure) → p ≡ Some k → proc_of (reads v e.store at) ≡ record { name = text_of v.names (Rattle.term_store.specs.Heap.atom_name k.name); arity = k.arity })
    → IsKind b (body_of (reads v e.store at))
    → ((t : Setting) (q : Proc) → IsView t.view → result_in t f (node_of t.view e 0) q (outcome_of b) ≡ begun t e q (reads t.view e.store at) need)
    → ((t : Setting) → IsView t.view → doing_of t.view f d ≡ doing_by t f (node_of t.view f 0) (proc_begun t.view b p) (outcome_of b))
    → state_at v f d []
    ≡ start (record { inferences = f.budgets.inferences; cells = f.budgets.cells; choices = f.budgets.choices; solutions = wanted; stays = stays }) (spelled (text_of v.names) term)
starts_as v view e f d b p at need wanted stays term choices next inferences used answer numbered at_is need_is budgets named procs kind step doing =
    let g = text_of v.names
    in let u = spelled g term
    in let t : Setting = record { view = v; solutions = wanted; stays = stays; doing = running (start_node u); output = [] }
    in let q = proc_begun v b p
    in let read : reads v e.store at ≡ u = ap (spelled g) at_is
    in let vars : variables u ≡ variables term = variables-spelled g term
    in let cost : need ≡ cells u = need_is ∙ sym (cells-spelled g term)
    in let l = limits_in t e
    in let r = reads v e.store at
    in let same = same_check (state_in t e) (node_of v e 0) l v r b p (body_of r) kind named procs
    in let state : state_in t e ≡ start_state u =
    ap₂ (λ cs k. state_with u cs k e.inferences)
    (ap (λ ks. choices_at v e.answer.items e.store e.frames.items (reverse ks)) choices)
    (next ∙ ap length (sym vars))
    ∙ ap (state_with u [] (length (variables u))) inferences
    in let terms : map (reads v e.store) e.answer.items ≡ map var (variables u) =
    reads_all g e.store e.answer.items
    ∙ ap (map (spelled g)) answer
    ∙ variables_stay g (upwards zero (length (variables term)))
    ∙ ap (map var) (sym (numbered_variables term numbered) ∙ sym vars)
    in let node : node_of v e 0 ≡ start_node u =
    ap₂ (λ gs ts. node_with gs ts e.store.used) (ap (map (pending (reads v e.store))) (tasks-zero e.frames.items)) terms
    ∙ ap (node_with [] (map var (variables u))) used
    in ap (λ x. state_of v f x []) (doing t view ∙ doing_bare t f (node_of v f 0) (node_of v e 0) q (outcome_of b) (no_goals v e f))
    ∙ step t q view
    ∙ ap (begun t e q r) (cost ∙ ap cells (sym read))
    ∙ same
    ∙ ap (λ x. after_check (state_in t e) (node_of v e 0) consult_proc (proc_of x) l x (body_of x)) read
    ∙ ap₂ (λ s n. after_check s n consult_proc (proc_of u) l u (body_of u)) state node
    ∙ start_same l u
    ∙ ap (λ (k : Budgets). start (record { inferences = k.inferences; cells = k.cells; choices = k.choices; solutions = wanted; stays = stays }) u) (sym budgets)

pub when_match : {A : Type 0} (P : Type 0) (Q : A → Type 0) (o : Option A) (x : A) → MatchOption o P Q → o ≡ Some x → Q x
when_match P Q o x h e = let m = subst (λ y. MatchOption y P Q) e h in m
