-- Term unification as a step.
use Rattle.std.proofs.Common.{◌≡◌, ℕ, Bool, true, false, [], get_or, codes, Some, refl, sym, ap, ap₂, subst, ◌∙◌}
use Rattle.pl_term.specs.Tree.{Tree, atom, comp, none, more, compound}
use Rattle.pl_model.specs.BuiltinRows.{one_answer}
use Rattle.pl_model.specs.BuiltinRows as basic
use Rattle.pl_model.specs.Builtins.{row}
use Rattle.pl_model.specs.Predicates.{proc_of}
use Rattle.pl_model.specs.Resolution.{Limits, Next, Node, State, goes}
use Rattle.pl_model.specs.Control.{construct, costing, other, take_up, with_row}
use Rattle.atom_api.specs.FixedNames.{equal_name}
use Rattle.atom_api.specs.Fixed.{fixed, fixed_texts}
use Rattle.term_store.specs.declared.words.Place.{Place}
use Rattle.term_store.specs.declared.views.Arguments.{Arguments}
use Rattle.term_store.specs.Heap.{atom_name}
use Rattle.term_store.specs.Contents.{Contents, arguments_at, IsArguments, term_at}
use Rattle.iso_search.specs.declared.outcome.Fault.TheVariants.{Inferences}
use Rattle.iso_search.specs.declared.outcome.Outcome.{Outcome}
use Rattle.iso_search.specs.declared.outcome.Outcome.TheVariants.{Raise}
use Rattle.iso_search.specs.declared.search.Search.{Search}
use Rattle.iso_search.specs.Budgeting.{after_inference}
use Rattle.iso_search.specs.Outcomes.{KeepsTasks, Setting, limits_in, result_in, state_in}
use Rattle.iso_search.specs.Searching.{node_of}
use Rattle.iso_search.specs.Reading.{IsView, View, reads}
use Rattle.iso_search.specs.Spelling.{spelled, text_of}
use Rattle.iso_search.proofs.Constructing.{how_many, shape_two}
use Rattle.iso_search.proofs.Naming.{text_is}

pub equal_text : fixed equal_name ≡ Some (codes "=")
unfolding fixed_texts
equal_text = refl

abbrev goal_of : Tree → Tree → Tree
goal_of t u = comp (codes "=") t (more u none)

equal_construct : (t u : Tree) → construct (goal_of t u) ≡ other
unfolding construct
equal_construct t u = refl

equal_taken : (l : Limits) (s : State) (n : Node) (t u : Tree) (h : ℕ)
    → take_up l s n (goal_of t u) h other
    ≡ costing l s n (goal_of t u) (λ r. goes (with_row l r n (proc_of (goal_of t u)) (more t (more u none)) (one_answer (more u (more u none)))))
unfolding take_up row basic.row
equal_taken l s n t u h = refl

pub equal_step : (l : Limits) (s : State) (n : Node) (g t u : Tree) (h : ℕ) → g ≡ goal_of t u
    → take_up l s n g h (construct g)
    ≡ costing l s n g (λ r. goes (with_row l r n (proc_of g) (more t (more u none)) (one_answer (more u (more u none)))))
equal_step l s n g t u h is =
    ap (λ x. take_up l s n x h (construct x)) is
    ∙ ap (take_up l s n (goal_of t u) h) (equal_construct t u)
    ∙ equal_taken l s n t u h
    ∙ sym (ap (λ x. costing l s n x (λ r. goes (with_row l r n (proc_of x) (more t (more u none)) (one_answer (more u (more u none)))))) is)

-- What the goal reads as.
pub equal_shape : (v : View) → IsView v → (s : Contents) (goal : Place) (a : Arguments)
    → term_at s goal ≡ compound (atom_name equal_name) (arguments_at s a)
    → IsArguments s a
    → a.count ≡ 2
    → reads v s goal ≡ goal_of (spelled (text_of v.names) (get_or (arguments_at s a) 0 (atom []))) (spelled (text_of v.names) (get_or (arguments_at s a) 1 (atom [])))
equal_shape v view s goal a is args two =
    let g = text_of v.names
    in let shape = shape_two (arguments_at s a) (atom []) (how_many s a args ∙ two)
    in ap (spelled g) (is ∙ ap (compound (atom_name equal_name)) shape)
    ∙ ap (λ f. comp f (spelled g (get_or (arguments_at s a) 0 (atom []))) (more (spelled g (get_or (arguments_at s a) 1 (atom []))) none)) (text_is v view equal_name (codes "=") equal_text)

pub equal_reads : (v : View) → IsView v → (s : Contents) (goal left right : Place) (a : Arguments)
    → term_at s goal ≡ compound (atom_name equal_name) (arguments_at s a)
    → IsArguments s a
    → a.count ≡ 2
    → term_at s left ≡ get_or (arguments_at s a) 0 (atom [])
    → term_at s right ≡ get_or (arguments_at s a) 1 (atom [])
    → reads v s goal ≡ goal_of (reads v s left) (reads v s right)
equal_reads v view s goal left right a is args two l r =
    equal_shape v view s goal a is args two
    ∙ ap₂ (λ x y. goal_of (spelled (text_of v.names) x) (spelled (text_of v.names) y)) (sym l) (sym r)

-- The steps that come of the goal.
module _ (t : Setting) (e x : Search) (goal : Place) (a b : Tree) (rest cut : ℕ) where
  abbrev r : Place → Tree
  r = reads t.view e.store

  abbrev after_row : State → Next
  after_row q = goes (with_row (limits_in t e) q (node_of t.view e rest) (proc_of (r goal)) (more a (more b none)) (one_answer (more b (more b none))))

  abbrev pub IsCounted : Bool → Type 0
  IsCounted c = (n : Node) (g : Tree) (next : State → Next) → after_inference t x n g next c ≡ costing (limits_in t e) (state_in t e) n g next

  costs : r goal ≡ goal_of a b → take_up (limits_in t e) (state_in t e) (node_of t.view e rest) (r goal) cut (construct (r goal))
      ≡ costing (limits_in t e) (state_in t e) (node_of t.view e rest) (r goal) after_row
  costs is = equal_step (limits_in t e) (state_in t e) (node_of t.view e rest) (r goal) a b cut is

  pub equal_spent : r goal ≡ goal_of a b → IsCounted false
      → goes (result_in t x (node_of t.view e rest) (proc_of (r goal)) (Raise Inferences))
      ≡ take_up (limits_in t e) (state_in t e) (node_of t.view e rest) (r goal) cut (construct (r goal))
  equal_spent is made = made (node_of t.view e rest) (r goal) after_row ∙ sym (costs is)

  pub equal_done : (f : Search) (o : Outcome) → r goal ≡ goal_of a b → IsCounted true
      → result_in t f (node_of t.view e rest) (proc_of (r goal)) o
      ≡ with_row (limits_in t e) (state_in t x) (node_of t.view e rest) (proc_of (r goal)) (more a (more b none)) (one_answer (more b (more b none)))
      → goes (result_in t f (node_of t.view e rest) (proc_of (r goal)) o)
      ≡ take_up (limits_in t e) (state_in t e) (node_of t.view e rest) (r goal) cut (construct (r goal))
  equal_done f o is made ran = ap goes ran ∙ made (node_of t.view e rest) (r goal) after_row ∙ sym (costs is)

-- After the inference all but the count is as it was.
pub equal_ran : (t : Setting) (e x f : Search) (goal left right : Place) (rest : ℕ) (o : Outcome)
    → (let y : Search = record e { inferences = x.inferences } in x ≡ y)
    → (let q = reads t.view x.store in result_in t f (node_of t.view x rest) (proc_of (reads t.view e.store goal)) o
    ≡ with_row (limits_in t x) (state_in t x) (node_of t.view x rest) (proc_of (reads t.view e.store goal)) (more (q left) (more (q right) none)) (one_answer (more (q right) (more (q right) none))))
    → (let q = reads t.view e.store in result_in t f (node_of t.view e rest) (proc_of (reads t.view e.store goal)) o
    ≡ with_row (limits_in t e) (state_in t x) (node_of t.view e rest) (proc_of (reads t.view e.store goal)) (more (q left) (more (q right) none)) (one_answer (more (q right) (more (q right) none))))
equal_ran t e x f goal left right rest o kept ran =
    let there = subst (λ (y : Search). let q = reads t.view y.store in result_in t f (node_of t.view y rest) (proc_of (reads t.view e.store goal)) o
    ≡ with_row (limits_in t y) (state_in t x) (node_of t.view y rest) (proc_of (reads t.view e.store goal)) (more (q left) (more (q right) none)) (one_answer (more (q right) (more (q right) none)))) kept ran
    in there

-- An inference leaves the tasks as they are.
pub keeps_counted : (e x : Search) → (let y : Search = record e { inferences = x.inferences } in x ≡ y) → KeepsTasks e x
keeps_counted e x kept v j le = ap (λ (y : Search). (node_of v y j).goals) kept
