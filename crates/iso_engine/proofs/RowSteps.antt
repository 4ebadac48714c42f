-- Built-in predicates that are functions of their arguments, as steps of a search.
use Rattle.std.proofs.Common.{◌≡◌, ℕ, ◌++◌, Bool, true, false, List, [], ◌∷◌, length, map, Option, Some, None, IsSome, refl, sym, ap, ap₂, subst, ◌∙◌, arith}
use Rattle.std.specs.List.{All, AllByRecursion, Contains}
use Rattle.std.proofs.lemmas.List.Elements.{All-from_recursion, recursion_from_All}
use Rattle.pl_term.specs.Tree.{Chars, Tree, more, compound, trees}
use Rattle.pl_model.specs.History.{Proc, proc}
use Rattle.pl_model.specs.Builtins.{row}
use Rattle.pl_model.specs.BuiltinRows as rows
use Rattle.pl_model.specs.Predicates.{proc_of}
use Rattle.pl_model.specs.Resolution.{Next, Node, State, goes}
use Rattle.pl_model.specs.Terms.{arguments}
use Rattle.pl_model.specs.Control.{costing, name_of, with_other, with_row}
use Rattle.atom_api.specs.Names.{FixedStand, Names}
use Rattle.atom_words.specs.declared.view.Refusal.{Refusal}
use Rattle.term_store.specs.Heap.{atom_name}
use Rattle.term_store.specs.Contents.{Contents, arguments_at, term_at}
use Rattle.world_api.specs.Texts.{Holds}
use Rattle.world_builtins.specs.Naming.{IsHeldAt, atoms_in, atoms_in_all}
use Rattle.world_builtins.specs.Spelling as written
use Rattle.builtin_rows.specs.Predicates as kinds
use Rattle.builtin_rows.specs.Predicates.{arity_of}
use Rattle.builtin_rows.specs.declared.row.Row.{Row}
use Rattle.builtin_rows.specs.declared.row.Row.TheVariants.{Fails, Holds as HoldsRow, Answer, Line, Ball, CellsFull, NeedsAtoms, Retry, Worn}
use Rattle.builtin_rows.specs.Given.{given_texts}
use Rattle.builtin_rows.specs.Rows.{row_refusals}
use Rattle.builtin_rows.specs.Dispatching.{HasLines, IsRowOf, given_by}
use Rattle.iso_engine.specs.Dispatching.{AreHeld, terms_of}
use Rattle.iso_engine.specs.Leading.{IsOfTable, IsRowMade, Origin}
use Rattle.iso_search.specs.declared.search.Search.{Search}
use Rattle.iso_search.specs.declared.outcome.Fault.TheVariants.{Inferences}
use Rattle.iso_search.specs.declared.outcome.Outcome.{Outcome}
use Rattle.iso_search.specs.declared.outcome.Outcome.TheVariants.{Raise}
use Rattle.iso_search.specs.Budgeting.{after_inference}
use Rattle.iso_search.specs.Lines.{table_of}
use Rattle.iso_search.specs.Outcomes.{IsAfter, Setting, limits_in, result_in, state_in}
use Rattle.iso_search.specs.Reading.{IsView, View, reads}
use Rattle.iso_search.specs.Searching.{IsWhole, node_of}
use Rattle.iso_search.specs.Spelling.{TellsApart, spelled, text_of}
use Rattle.iso_search.proofs.After.{after_behind}
use Rattle.iso_search.proofs.Naming.{text_is}
use Rattle.iso_engine.proofs.OutputSteps.{read_held}
use Rattle.iso_engine.specs.declared.builtin.RowGoal.{RowGoal}
use Rattle.iso_engine.specs.Builtins.{IsRowGoal}
use Rattle.world_api.specs.declared.unserved.Unserved.{Unserved}
use Rattle.world_api.specs.declared.unserved.Unserved.TheVariants as unserved
use Rattle.iso_engine.specs.Rows.{IsGivenText, IsRowAt, LeadsTo, refusal_of}
use Rattle.world_api.specs.Unserved.{unserved_refusals}
use Rattle.iso_engine.proofs.Calls.{taken_costs}
use Rattle.iso_engine.proofs.Equals.{keeps_counted}
use Rattle.iso_engine.proofs.Procedures.{compound_proc}

some_none : (u : Unserved) → Some u ≡ None → ⊥
some_none s e = cc

-- The arguments of a goal

spelled_each : (h : Chars → Chars) (xs : List Tree) → written.spelled_all h (trees xs) ≡ trees (map (written.spelled h) xs)
spelled_each h [] = refl
spelled_each h (x ∷ xs) = ap (more (written.spelled h x)) (spelled_each h xs)

written_arguments : (h : Chars → Chars) (f : Chars) (xs : List Tree) → arguments (written.spelled h (compound f xs)) ≡ trees (map (written.spelled h) xs)
written_arguments h f [] = refl
written_arguments h f (x ∷ xs) = ap (more (written.spelled h x)) (spelled_each h xs)

-- The arguments as the atoms that are held spell them.
pub written_terms : (m : Names) (s : Contents) (r : RowGoal) → IsRowGoal s r → arguments (written.reads m s r.place) ≡ terms_of m s r.arguments
written_terms m s r at =
    ap (λ x. arguments (written.spelled (written.text_of m) x)) at.means ∙ written_arguments (written.text_of m) (atom_name r.name) (arguments_at s r.arguments)

module _ (P : ℕ → Type 0) where
  parted : (xs ys : List ℕ) → AllByRecursion P (xs ++ ys) → AllByRecursion P xs × AllByRecursion P ys
  parted [] ys h = (tt, h)
  parted (x ∷ xs) ys h = let both = parted xs ys h.1 in ((h.0, both.0), both.1)

  each_term : (xs : List Tree) → AllByRecursion P (atoms_in_all (trees xs)) → AllByRecursion (λ t. All P (atoms_in t)) xs
  each_term [] h = tt
  each_term (x ∷ xs) h =
      let both = parted (atoms_in x) (atoms_in_all (trees xs)) h
      in (All-from_recursion P (atoms_in x) both.0, each_term xs both.1)

  of_arguments : (f : Chars) (xs : List Tree) → AllByRecursion P (atoms_in (compound f xs)) → AllByRecursion (λ t. All P (atoms_in t)) xs
  of_arguments f [] h = tt
  of_arguments f (x ∷ xs) h = each_term (x ∷ xs) h.1

-- The atoms of the arguments are held where those of the goal are.
pub arguments_held : (m : Names) (s : Contents) (r : RowGoal) → IsRowGoal s r → IsHeldAt m s r.place → AreHeld m s r.arguments
arguments_held m s r at held =
    let P : ℕ → Type 0 = λ a. IsSome (m a)
    in let xs = arguments_at s r.arguments
    in let means = subst (λ t. All P (atoms_in t)) at.means held
    in All-from_recursion (λ t. All P (atoms_in t)) xs
    (of_arguments P (atom_name r.name) xs (recursion_from_All P (atoms_in (compound (atom_name r.name) xs)) means))

-- The goal has the name of its predicate.
pub row_proc : (v : View) → IsView v → (s : Contents) (r : RowGoal) → IsRowGoal s r → proc_of (reads v s r.place) ≡ proc (kinds.name_of r.pred) (arity_of r.pred)
row_proc v view s r at =
    compound_proc v s r.place r.name r.arguments.count r.arguments at.means at.inside at.some refl
    ∙ ap₂ proc (text_is v view r.name (kinds.name_of r.pred) at.named) at.many

-- What the goal gives
module _ (m : Names) (v : View) (view : IsView v) (grown : Holds m v.names) (s : Contents) (r : RowGoal) (at : IsRowGoal s r) (held : IsHeldAt m s r.place) where
  pub same_terms : arguments (reads v s r.place) ≡ terms_of m s r.arguments
  same_terms = ap arguments (sym (read_held m v grown s r.place held)) ∙ written_terms m s r at

  pub same_row : (next : ℕ) → row (name_of (reads v s r.place)) (arguments (reads v s r.place)) next ≡ row (kinds.name_of r.pred) (terms_of m s r.arguments) next
  same_row next = ap₂ (λ f ts. row f ts next) (ap (λ (p : Proc). p.name) (row_proc v view s r at)) same_terms

-- An inference was made, or none could be.
module _ (e x : Search) (kept : (let y : Search = record e { inferences = x.inferences } in x ≡ y)) (r : RowGoal) (rest : ℕ) where
  abbrev pub IsCosted : Bool → Type 0
  IsCosted b = (t : Setting) (n : Node) (g : Tree) (next : State → Next) → after_inference t x n g next b ≡ costing (limits_in t e) (state_in t e) n g next

  abbrev follows : Setting → State → Next
  follows t q =
      let g = reads t.view e.store r.place
      in with_other (limits_in t e) q (node_of t.view e rest) g (row (name_of g) (arguments g) q.next)

  pub spent_leads : (n : Names) → IsRowAt e.store r → IsWhole x → IsCosted false → LeadsTo n e r rest x (Raise Inferences)
  spent_leads n at whole made =
      record {
        whole = whole;
        after = record { budgets = ap (λ (y : Search). y.budgets) kept; inside = (tt, keeps_counted e x kept) };
        step = λ t cut view grown.
            let k = node_of t.view e rest
            in let g = reads t.view e.store r.place
            in made t k g (follows t) ∙ taken_costs (limits_in t e) (state_in t e) k g cut (at.other_is t.view view);
      }

  -- The row was followed.
  module _ (m n : Names) (f : Search) (o : Outcome) (at : IsRowAt e.store r) (made : IsCosted true) (grown : Holds m n) (held : IsHeldAt m e.store r.place)
      (means : rows.Row) (row_is : row (kinds.name_of r.pred) (terms_of m x.store r.arguments) x.next_variable ≡ Some means) (whole : IsWhole f) (after : IsAfter x f o) where
    abbrev pred : Proc
    pred = proc (kinds.name_of r.pred) (arity_of r.pred)

    abbrev IsLed : Setting → Search → Type 0
    IsLed t y =
        result_in t f (node_of t.view y rest) pred o
        ≡ with_row (limits_in t y) (state_in t x) (node_of t.view y rest) pred (arguments (reads t.view y.store r.place)) means

    row_here : row (kinds.name_of r.pred) (terms_of m e.store r.arguments) x.next_variable ≡ Some means
    row_here = subst (λ (y : Search). row (kinds.name_of r.pred) (terms_of m y.store r.arguments) x.next_variable ≡ Some means) kept row_is

    led_step : (t : Setting) (cut : ℕ) → IsView t.view → Holds n t.view.names → IsLed t x
        → (let k = node_of t.view e rest in let g = reads t.view e.store r.place in
        goes (result_in t f k (proc_of g) o) ≡ costing (limits_in t e) (state_in t e) k g (follows t))
    led_step t cut view later led =
        let k = node_of t.view e rest
        in let g = reads t.view e.store r.place
        in let l = limits_in t e
        in let here : IsLed t e = subst (IsLed t) kept led
        in let named = row_proc t.view view e.store r at.goal_is
        in let known : Holds m t.view.names = λ a y h. later a y (grown a y h)
        in let found = same_row m t.view view known e.store r at.goal_is held x.next_variable ∙ row_here
        in ap (λ p. goes (result_in t f k p o)) named
        ∙ ap goes here
        ∙ ap (λ p. goes (with_row l (state_in t x) k p (arguments g) means)) (sym named)
        ∙ ap (with_other l (state_in t x) k g) (sym found)
        ∙ made t k g (follows t)

    pub led_leads : ((t : Setting) → IsView t.view → Holds n t.view.names → IsLed t x) → LeadsTo n e r rest f o
    led_leads led =
        let same : length x.frames.items ≡ length e.frames.items = ap (λ (y : Search). length y.frames.items) kept
        in record {
          whole = whole;
          after = after_behind e x f o (omega (arith, same)) (ap (λ (y : Search). y.budgets) kept) (keeps_counted e x kept) after;
          step = λ t cut view later.
              led_step t cut view later (led t view later)
              ∙ taken_costs (limits_in t e) (state_in t e) (node_of t.view e rest) (reads t.view e.store r.place) cut (at.other_is t.view view);
        }

  -- What was asked of the atoms are texts of what the goal gives.
  pub asked_given : (m : Names) → FixedStand m → TellsApart (text_of m) → IsRowGoal e.store r → IsHeldAt m e.store r.place → (c : Chars)
      → (means : rows.Row) × (row (kinds.name_of r.pred) (terms_of m x.store r.arguments) x.next_variable ≡ Some means)
      × Contains (given_texts (given_by x.store x.next_variable r.pred (terms_of m x.store r.arguments) means)) c
      → IsGivenText (spelled (text_of m) (term_at e.store r.place)) e.next_variable e.store.used e.store.budget c
  asked_given m fixed apart at held c asked =
      let v : View = record { names = m; all = λ goal g. []; left = λ goal g place. [] }
      in let view : IsView v = record { fixed = fixed; apart = apart }
      in let ts = terms_of m e.store r.arguments
      in let here = subst (λ (y : Search). (means : rows.Row) × (row (kinds.name_of r.pred) (terms_of m y.store r.arguments) y.next_variable ≡ Some means)
      × Contains (given_texts (given_by y.store y.next_variable r.pred (terms_of m y.store r.arguments) means)) c) kept asked
      in let same = same_terms m v view (λ a y h. h) e.store r at held
      in record {
        means = here.0;
        row_is = same_row m v view (λ a y h. h) e.store r at held e.next_variable ∙ here.1;
        given_is =
            subst (λ us. Contains (given_texts (Rattle.builtin_rows.specs.Given.given (proc_of (reads v e.store r.place)) us e.next_variable e.store.used e.store.budget here.0)) c) (sym same)
            (subst (λ p. Contains (given_texts (Rattle.builtin_rows.specs.Given.given p ts e.next_variable e.store.used e.store.budget here.0)) c) (sym (row_proc v view e.store r at)) here.2);
      }

  -- What is known of the row that is followed.
  abbrev pub origin : Names → Names → rows.Row → Origin
  origin m n means =
      record {
        store = x.store;
        before = m;
        after = n;
        predicate = proc (kinds.name_of r.pred) (arity_of r.pred);
        terms = terms_of m x.store r.arguments;
        row = means;
      }

  -- A line is one of the table of the goal.
  of_table : (m n : Names) → IsRowGoal x.store r → IsHeldAt m x.store r.place → Holds m n → (means : rows.Row)
      → row (kinds.name_of r.pred) (terms_of m x.store r.arguments) x.next_variable ≡ Some means → (row : Row)
      → HasLines r.pred (terms_of m x.store r.arguments) row → IsOfTable (origin m n means) r.place row
  of_table m n at held grown means row_is (Line ps following) h =
      λ v view known. (
        row_proc v view x.store r at,
        λ xs is.
            ap table_of
            (same_row m v view (λ a y g. known a y (grown a y g)) x.store r at held 0
            ∙ h.1 0
            ∙ sym (h.1 x.next_variable)
            ∙ row_is
            ∙ ap Some is),
      )
  of_table m n at held grown means row_is Fails h = tt
  of_table m n at held grown means row_is HoldsRow h = tt
  of_table m n at held grown means row_is (Answer ps fresh) h = tt
  of_table m n at held grown means row_is (Ball w) h = tt
  of_table m n at held grown means row_is (CellsFull used need) h = tt
  of_table m n at held grown means row_is (NeedsAtoms p) h = tt
  of_table m n at held grown means row_is (Retry c) h = tt
  of_table m n at held grown means row_is (Worn w) h = tt

  pub row_made : (m n : Names) (t : Contents) (made : Row) → IsRowGoal e.store r → IsHeldAt m e.store r.place → Holds m n → IsWhole x
      → (is : IsRowOf x.store x.next_variable r.pred (terms_of m x.store r.arguments) n t made) → HasLines r.pred (terms_of m x.store r.arguments) made
      → (let y : Search = record x { store = t } in IsRowMade (origin m n is.means) r.place y made)
  row_made m n t made at held grown whole is lines =
      let there : IsRowGoal x.store r = subst (λ (y : Search). IsRowGoal y.store r) (sym kept) at
      in let known : IsHeldAt m x.store r.place = subst (λ (y : Search). IsHeldAt m y.store r.place) (sym kept) held
      in record {
        whole = whole;
        inside = there.holds;
        held = known;
        later = grown;
        arguments = written_terms m x.store r there;
        made = is.stands;
        of_table = of_table m n there known grown is.means is.row_is made lines;
      }

-- A row of which no atom was refused.
pub unrefused : (row : Row) → refusal_of row ≡ None → row_refusals row ≡ []
unrefused Fails e = refl
unrefused HoldsRow e = refl
unrefused (Answer ps fresh) e = refl
unrefused (Line ps following) e = refl
unrefused (Ball w) e = refl
unrefused (CellsFull used need) e = refl
unrefused (NeedsAtoms p) e = absurd (some_none (unserved.NeedsAtoms p) e)
unrefused (Retry c) e = absurd (some_none (unserved.Retry c) e)
unrefused (Worn w) e = absurd (some_none (unserved.Worn w) e)

refusals_told : Option Unserved → List Refusal
refusals_told None = []
refusals_told (Some u) = unserved_refusals u

all_told : (row : Row) → row_refusals row ≡ refusals_told (refusal_of row)
unfolding refusals_told
all_told Fails = refl
all_told HoldsRow = refl
all_told (Answer ps fresh) = refl
all_told (Line ps following) = refl
all_told (Ball w) = refl
all_told (CellsFull used need) = refl
all_told (NeedsAtoms p) = refl
all_told (Retry c) = refl
all_told (Worn w) = refl

-- The refusal of a row.
pub row_refused : (row : Row) (u : Unserved) → refusal_of row ≡ Some u → row_refusals row ≡ unserved_refusals u
unfolding refusals_told
row_refused row u is = all_told row ∙ ap refusals_told is
