-- Control constructs are taken up by the definition.
use Rattle.std.proofs.Common.{◌≡◌, ℕ, suc, true, false, [], ◌∷◌, Option, Some, None, IfSome, refl, ap, subst, ◌∙◌}
use Rattle.pl_term.specs.Tree.{Tree}
use Rattle.pl_model.specs.Predicates.{proc_of}
use Rattle.pl_model.specs.Resolution.{Limits, Node, State, Next, goes, up_to, running, goal, commit, branch, barrier}
use Rattle.pl_model.specs.Control.{succeeds, cuts, conjunction, disjunction, if_then, if_then_else, take_up, before, costing, over, run_on}
use Rattle.term_store.specs.Contents.{Contents}
use Rattle.iso_search.specs.declared.construct.Construct.{Construct}
use Rattle.iso_search.specs.declared.goals.Counted.{Counted}
use Rattle.iso_search.specs.declared.goals.Counted.TheVariants.{Fails, Repeats, Calls, NotProvable, Once, Catches, Throws, FindsAll, Halts, HaltsWithZero}
use Rattle.term_store.specs.declared.words.Place.{Place}
use Rattle.iso_search.specs.declared.outcome.Fault.TheVariants.{Inferences}
use Rattle.iso_search.specs.declared.outcome.Outcome.{Outcome}
use Rattle.iso_search.specs.declared.outcome.Outcome.TheVariants.{Raise, Run}
use Rattle.iso_search.specs.declared.search.Search.{Search}
use Rattle.iso_search.specs.Budgeting.{after_inference}
use Rattle.iso_search.specs.Constructs.{construction}
use Rattle.iso_search.specs.Goals.{flat, run_counted}
use Rattle.iso_search.specs.Outcomes.{Setting, limits_in, state_in, result_in}
use Rattle.iso_search.specs.Reading.{View, IsView, reads}
use Rattle.iso_search.specs.Searching.{choices_of, node_of}
use Rattle.iso_search.proofs.Over.{state_by}

-- A construct that makes an inference.
pub counted : (v : View) (c : Contents) (k : Counted) (l : Limits) (s : State) (n : Node) (g : Tree) (h : ℕ)
    → costing l s n g (λ u. goes (run_counted l u n g (construction v c (flat k)))) ≡ take_up l s n g h (construction v c (flat k))
unfolding take_up
counted v c Fails l s n g h = refl
counted v c Repeats l s n g h = refl
counted v c (Calls t a) l s n g h = refl
counted v c (NotProvable t) l s n g h = refl
counted v c (Once t) l s n g h = refl
counted v c (Catches t k r) l s n g h = refl
counted v c (Throws t) l s n g h = refl
counted v c (FindsAll x t i) l s n g h = refl
counted v c (Halts t) l s n g h = refl
counted v c HaltsWithZero l s n g h = refl

-- The others
pub succeeded : (l : Limits) (s : State) (n : Node) (g : Tree) (h : ℕ) → goes (run_on s n) ≡ take_up l s n g h succeeds
unfolding take_up
succeeded l s n g h = refl

pub cut_off : (l : Limits) (s : State) (n : Node) (g : Tree) (h : ℕ)
    → goes (record s { choices = up_to h s.choices; doing = running n }) ≡ take_up l s n g h cuts
unfolding take_up
cut_off l s n g h = refl

pub conjoined : (l : Limits) (s : State) (n : Node) (g t u : Tree) (h : ℕ)
    → goes (run_on s (before (goal t h ∷ goal u h ∷ []) n)) ≡ take_up l s n g h (conjunction t u)
unfolding take_up
conjoined l s n g t u h = refl

pub disjoined : (l : Limits) (s : State) (n : Node) (g t u : Tree) (h : ℕ)
    → goes (over l s n (proc_of g) (branch (before (goal u h ∷ []) n)) (λ k. goal t h ∷ [])) ≡ take_up l s n g h (disjunction t u)
unfolding take_up
disjoined l s n g t u h = refl

pub on_condition : (l : Limits) (s : State) (n : Node) (g c t : Tree) (h : ℕ)
    → goes (over l s n (proc_of g) barrier (λ k. goal c (suc k) ∷ commit k ∷ goal t h ∷ [])) ≡ take_up l s n g h (if_then c t)
unfolding take_up
on_condition l s n g c t h = refl

pub on_condition_or : (l : Limits) (s : State) (n : Node) (g c t u : Tree) (h : ℕ)
    → goes (over l s n (proc_of g) (branch (before (goal u h ∷ []) n)) (λ k. goal c (suc k) ∷ commit k ∷ goal t h ∷ []))
    ≡ take_up l s n g h (if_then_else c t u)
unfolding take_up
on_condition_or l s n g c t u h = refl

-- A construct is run after its inference, by the search that has made it.
module _ (t : Setting) (e x d : Search) (k : Counted) (h rest : ℕ) (goal : Place) (o : Outcome)
    (kept : x ≡ record e { inferences = x.inferences }) where
  pub counted_run : ((n : Node) (g : Tree) (next : State → Next) → after_inference t x n g next true ≡ costing (limits_in t e) (state_in t e) n g next)
      → result_in t d (node_of t.view x rest) (proc_of (reads t.view x.store goal)) o
      ≡ run_counted (limits_in t x) (state_in t x) (node_of t.view x rest) (reads t.view x.store goal) (construction t.view x.store (flat k))
      → goes (result_in t d (node_of t.view e rest) (proc_of (reads t.view e.store goal)) o)
      ≡ take_up (limits_in t e) (state_in t e) (node_of t.view e rest) (reads t.view e.store goal) h (construction t.view e.store (flat k))
  counted_run inferred ran =
      let v = t.view in
      let n = node_of v e rest in
      let g = reads v e.store goal in
      let moved =
      subst (λ (y : Search). result_in t d (node_of v y rest) (proc_of (reads v y.store goal)) o
      ≡ run_counted (limits_in t y) (state_in t x) (node_of v y rest) (reads v y.store goal) (construction v y.store (flat k))) kept ran in
      ap goes moved
      ∙ inferred n g (λ u. goes (run_counted (limits_in t e) u n g (construction v e.store (flat k))))
      ∙ counted v e.store k (limits_in t e) (state_in t e) n g h

pub counted_out : (t : Setting) (e x : Search) (k : Counted) (h : ℕ) (n : Node) (g : Tree)
    → ((n : Node) (g : Tree) (next : State → Next) → after_inference t x n g next false ≡ costing (limits_in t e) (state_in t e) n g next)
    → goes (result_in t x n (proc_of g) (Raise Inferences)) ≡ take_up (limits_in t e) (state_in t e) n g h (construction t.view e.store (flat k))
counted_out t e x k h n g inferred =
    inferred n g (λ u. goes (run_counted (limits_in t e) u n g (construction t.view e.store (flat k))))
    ∙ counted t.view e.store k (limits_in t e) (state_in t e) n g h

-- A cut leaves the choice points up to a height.
pub cut_made : (t : Setting) (e d : Search) (g : Tree) (h rest : ℕ) → choices_of t.view d ≡ up_to h (choices_of t.view e)
    → (let x : Search = record e { store = record e.store { budget = d.store.budget }; choices = d.choices } in d ≡ x)
    → goes (result_in t d (node_of t.view e rest) (proc_of g) (Run rest)) ≡ take_up (limits_in t e) (state_in t e) (node_of t.view e rest) g h cuts
cut_made t e d g h rest choices kept =
    let v = t.view in
    let n = node_of v e rest in
    ap goes (state_by (running (node_of v d rest)) (running n) (choices_of v d) (up_to h (choices_of v e)) d.next_variable e.next_variable d.inferences e.inferences t.output
    (ap (λ (x : Search). running (node_of v x rest)) kept) choices (ap (λ (x : Search). x.next_variable) kept) (ap (λ (x : Search). x.inferences) kept))
    ∙ cut_off (limits_in t e) (state_in t e) n g h

-- A construct that makes an inference is run as one at each height of a cut, or it is none.
pub counted_or_none : (e d : Search) (at : Place) (c : Construct) (cut rest : ℕ) (a : Option Outcome)
    → IfSome a (λ o. (t : Setting) (h : ℕ) → IsView t.view
    → goes (result_in t d (node_of t.view e rest) (proc_of (reads t.view e.store at)) o)
    ≡ take_up (limits_in t e) (state_in t e) (node_of t.view e rest) (reads t.view e.store at) h (construction t.view e.store c))
    → IfSome a (λ o. (t : Setting) → IsView t.view
    → goes (result_in t d (node_of t.view e rest) (proc_of (reads t.view e.store at)) o)
    ≡ take_up (limits_in t e) (state_in t e) (node_of t.view e rest) (reads t.view e.store at) cut (construction t.view e.store c))
counted_or_none e d at c cut rest None h = h
counted_or_none e d at c cut rest (Some o) h = λ t view. h t cut view
