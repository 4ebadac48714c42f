-- Clauses that retractall/1 looks at: whether their heads unify with its own.
use Rattle.std.proofs.Common.{◌≡◌, ℕ, ◌+◌, ◌≤◌, ◌<◌, ◌^◌, Bool, true, false, List, ◌∷◌, length, reverse, Option, Some, None, refl, sym, ap, ap₂, subst, ◌∙◌, arith}
use Rattle.std.specs.Prelude.{if◌then◌else◌, is_some, nat_lt}
use Rattle.std.specs.Option.{option_map}
use Rattle.std.proofs.lemmas.List.Elements.{All-weaker}
use Rattle.pl_term.specs.Tree.{Chars, Tree}
use Rattle.pl_term.specs.Variables.{variables}
use Rattle.pl_model.specs.Balls.{error_ball, no_cells, no_inferences}
use Rattle.pl_model.specs.Control.{clear_next, cleared_by, fits, raised, retractall_proc, taking}
use Rattle.pl_model.specs.Database.{Stored}
use Rattle.pl_model.specs.History.{Clause, Proc, head_part}
use Rattle.pl_model.specs.Resolution.{Limits, Next, Node, Pending, State, failing, goes, throwing}
use Rattle.pl_model.specs.Terms.{clause_cells, raised_by}
use Rattle.pl_model.specs.Unify.{unify}
use Rattle.term_store.specs.declared.words.Place.{Place}
use Rattle.term_store.specs.declared.words.StoreMark.{StoreMark}
use Rattle.term_store.specs.Contents.{Adds, Contents, IsMark, Unified, back_to, numbers_of, term_at}
use Rattle.iso_search.specs.declared.choices.ChoicePoint.{ChoicePoint}
use Rattle.iso_search.specs.Collecting.{IsOlder}
use Rattle.iso_search.specs.declared.search.Search.{Search}
use Rattle.iso_search.specs.Searching.{IsWhole, node_of}
use Rattle.iso_search.specs.declared.outcome.Fault.{Fault}
use Rattle.iso_search.specs.declared.outcome.Outcome.TheVariants.{Raise}
use Rattle.iso_search.specs.Outcomes.{Setting, fault_term, limits_in, result_in, state_in}
use Rattle.iso_search.specs.Reading.{IsView, reads}
use Rattle.term_store.specs.NumberedNames.{clause_size, term_by}
use Rattle.world_api.specs.Texts as worlds
use Rattle.world_api.specs.Visits.{clause_in}
use Rattle.iso_engine.proofs.Copies.{cells_taken, numbers_taken}
use Rattle.iso_search.specs.Spelling.{TellsApart, spelled}
use Rattle.iso_search.proofs.Collected.{older_later}
use Rattle.iso_search.proofs.Spelt.{unify-spelled}

-- Whether two terms unify does not depend on how names are spelled.

some_map : {A B : Type 0} (f : A → B) (o : Option A) → is_some (option_map f o) ≡ is_some o
some_map f None = refl
some_map f (Some x) = refl

found_by : (r : Bool) (s : Contents) (a b : Place) (t : Contents) → Unified r s a b t → is_some (unify (term_at s a) (term_at s b)) ≡ r
found_by true s a b t u = ap is_some u.1.0
found_by false s a b t u = ap is_some u.0

pub unified_test : (g : Chars → Chars) → TellsApart g → (r : Bool) (s : Contents) (a b : Place) (t : Contents) → Unified r s a b t
    → is_some (unify (spelled g (term_at s a)) (spelled g (term_at s b))) ≡ r
unified_test g apart r s a b t u = ap is_some (unify-spelled g apart (term_at s a) (term_at s b)) ∙ some_map _ (unify (term_at s a) (term_at s b)) ∙ found_by r s a b t u

-- Numbers and cells for a clause, by the definition

abbrev pub fails : State → Node → State
fails s n = record s { doing = failing }

throws_not : (b : Tree) (ps : List Pending) → throwing b ps ≡ failing → ⊥
throws_not b ps e = cc

module _ (l : Limits) (s : State) (n : Node) (h : Tree) (c : Stored Clause) (cs : List (Stored Clause)) (taken cells : ℕ) (vs : taken ≡ c.clause.variables) (sizes : cells ≡ clause_cells c.clause) where
  abbrev numbered : State
  numbered = record s { next = s.next + c.clause.variables }

  abbrev met : Bool
  met = is_some (unify h (raised_by s.next c.clause.head))

  abbrev by_tests : Bool → Bool → Next → Next → Next → Next
  by_tests a b x y z = if a then (if b then x else y) else z

  abbrev took : Bool → Bool → State
  took a b = if a then (if b then fails (record s { next = s.next + taken }) (record n { used = n.used + cells }) else raised s n no_cells retractall_proc) else raised s n no_inferences retractall_proc

  took_is : taking l s n retractall_proc taken cells fails ≡ took (nat_lt (s.next + c.clause.variables) (2 ^ 64)) (fits l s n (clause_cells c.clause))
  took_is = ap₂ (λ k m. took (nat_lt (s.next + k) (2 ^ 64)) (fits l s n m)) vs sizes

  -- They could not be taken.
  pub not_met : (x : State) → (x.doing ≡ failing → ⊥) → x ≡ taking l s n retractall_proc taken cells fails → clear_next l s n h (c ∷ cs) ≡ goes x
  not_met x other is = go (nat_lt (s.next + c.clause.variables) (2 ^ 64)) (fits l s n (clause_cells c.clause)) (is ∙ took_is)
    where
      go : (a b : Bool) → x ≡ took a b
          → by_tests a b (cleared_by s numbered n h c cs met) (goes (raised s n no_cells retractall_proc)) (goes (raised s n no_inferences retractall_proc)) ≡ goes x
      go true true e = absurd (other (ap (λ (y : State). y.doing) e))
      go true false e = ap goes (sym e)
      go false b e = ap goes (sym e)

  -- They were taken.
  pub met_taken : (x : State) → x.doing ≡ failing → x ≡ taking l s n retractall_proc taken cells fails → clear_next l s n h (c ∷ cs) ≡ cleared_by s numbered n h c cs met
  met_taken x failed is = go (nat_lt (s.next + c.clause.variables) (2 ^ 64)) (fits l s n (clause_cells c.clause)) (sym failed ∙ ap (λ (y : State). y.doing) (is ∙ took_is))
    where
      go : (a b : Bool) → failing ≡ (took a b).doing
          → by_tests a b (cleared_by s numbered n h c cs met) (goes (raised s n no_cells retractall_proc)) (goes (raised s n no_inferences retractall_proc))
          ≡ cleared_by s numbered n h c cs met
      go true true e = refl
      go true false e = absurd (throws_not (error_ball no_cells retractall_proc) n.goals (sym e))
      go false b e = absurd (throws_not (error_ball no_inferences retractall_proc) n.goals (sym e))

-- A clause is met, by the definition: its numbers and cells could be taken, and its head unifies, or does not.
pub found_met : (s : Setting) → IsView s.view → (e d t : Search) (head : Place) (rest : ℕ) (k : Stored Clause) (cs : List (Stored Clause)) (clause : Tree) (taken cells : ℕ) (b : Bool)
    → k.clause ≡ clause_in (term_by (worlds.text_of s.view.names) clause) → taken ≡ length (variables clause) → cells ≡ clause_size clause
    → ((list : ℕ) (p : Proc) (next : State → Node → State)
    → next (state_in s d) (node_of s.view d list) ≡ taking (limits_in s e) (state_in s e) (node_of s.view e list) p taken cells next)
    → t ≡ record e { next_variable = e.next_variable + taken }
    → is_some (unify (reads s.view e.store head) (raised_by e.next_variable (head_part (term_by (worlds.text_of s.view.names) clause)))) ≡ b
    → clear_next (limits_in s e) (state_in s e) (node_of s.view e rest) (reads s.view e.store head) (k ∷ cs)
    ≡ cleared_by (state_in s e) (state_in s t) (node_of s.view e rest) (reads s.view e.store head) k cs b
found_met s view e d t head rest k cs clause taken cells b is variables_are cells_are step numbered test =
    let v = s.view in
    let st = state_in s e in
    let n = node_of v e rest in
    let h = reads v e.store head in
    let vs : taken ≡ k.clause.variables = variables_are ∙ numbers_taken v view clause ∙ ap (λ (x : Clause). x.variables) (sym is) in
    let sizes : cells ≡ clause_cells k.clause = cells_are ∙ cells_taken v view clause ∙ ap clause_cells (sym is) in
    let grown : (let y : State = record st { next = st.next + k.clause.variables } in y) ≡ state_in s t =
    ap (λ j. let y : State = record st { next = st.next + j } in y) (sym vs) ∙ sym (ap (state_in s) numbered) in
    met_taken (limits_in s e) st n h k cs taken cells vs sizes (fails (state_in s d) (node_of v d rest)) refl (step rest retractall_proc fails)
    ∙ ap₂ (λ y c. cleared_by st y n h k cs c) grown (ap (λ (x : Clause). is_some (unify h (raised_by e.next_variable x.head))) is ∙ test)

-- They could not be taken.
pub spent_met : (s : Setting) → IsView s.view → (e d : Search) (head : Place) (rest : ℕ) (k : Stored Clause) (cs : List (Stored Clause)) (clause : Tree) (taken cells : ℕ) (f : Fault)
    → k.clause ≡ clause_in (term_by (worlds.text_of s.view.names) clause) → taken ≡ length (variables clause) → cells ≡ clause_size clause
    → ((list : ℕ) (p : Proc) (next : State → Node → State)
    → result_in s d (node_of s.view e list) p (Raise f) ≡ taking (limits_in s e) (state_in s e) (node_of s.view e list) p taken cells next)
    → d ≡ e
    → clear_next (limits_in s e) (state_in s e) (node_of s.view e rest) (reads s.view e.store head) (k ∷ cs)
    ≡ goes (raised (state_in s e) (node_of s.view e rest) (fault_term (reads s.view e.store) f) retractall_proc)
spent_met s view e d head rest k cs clause taken cells f is variables_are cells_are step same =
    let v = s.view in
    let n = node_of v e rest in
    let vs : taken ≡ k.clause.variables = variables_are ∙ numbers_taken v view clause ∙ ap (λ (x : Clause). x.variables) (sym is) in
    let sizes : cells ≡ clause_cells k.clause = cells_are ∙ cells_taken v view clause ∙ ap clause_cells (sym is) in
    not_met (limits_in s e) (state_in s e) n (reads v e.store head) k cs taken cells vs sizes (result_in s d n retractall_proc (Raise f))
    (throws_not (error_ball (fault_term (reads v d.store) f) retractall_proc) n.goals) (step rest retractall_proc fails)
    ∙ ap (λ (x : Search). goes (result_in s x n retractall_proc (Raise f))) same

-- The store as it was

-- The search with further numbers taken is whole.
pub whole_numbered : (e : Search) (n : ℕ) → IsWhole e → e.next_variable ≤ n → (let d : Search = record e { next_variable = n } in IsWhole d)
whole_numbered e n whole le =
    record {
      base = whole.base;
      rests = whole.rests;
      budget = whole.budget;
      above = All-weaker (λ m. m < e.next_variable) (λ m. m < n) (λ m lt. omega (arith, lt, le)) (numbers_of e.store) whole.above;
      older =
          All-weaker (λ (k : ChoicePoint). IsOlder e.next_variable k.alternative) (λ (k : ChoicePoint). IsOlder n k.alternative) (λ k o. older_later e.next_variable n le k.alternative o)
          (reverse e.choices.items) whole.older;
    }

-- A mark is one of the store with further cells counted.
pub mark_counted : (m : StoreMark) (s : Contents) (k : ℕ) → IsMark m s → s.used ≤ k → (let t : Contents = record s { used = k } in IsMark m t)
mark_counted m s k is le = record { within = is.within; used = omega (arith, is.used, le); fit = is.fit }

-- Going back to it after more was made there leads to the store.
pub back_again : (m : StoreMark) (s t u : Contents) (k : ℕ) → IsMark m s → back_to m s ≡ s → s.used ≤ k → t ≡ record s { used = k } → Adds t u → back_to m u ≡ s
back_again m s t u k is here le same adds =
    adds.back m (subst (IsMark m) (sym same) (mark_counted m s k is le)) ∙ ap (back_to m) same ∙ here

-- Nothing has changed but the next number.
pub restored : (e d u : Search) (t : Contents) (k : ℕ)
    → d ≡ record e { store = (let s : Contents = record e.store { used = d.store.used } in s); next_variable = d.next_variable }
    → u ≡ record d { store = u.store }
    → t ≡ e.store
    → d.next_variable ≡ e.next_variable + k
    → (let x : Search = record u { store = t } in let y : Search = record e { next_variable = e.next_variable + k } in x ≡ y)
restored e d u t k counted kept back taken =
    ap (λ (x : Search). let y : Search = record x { store = t } in y) kept
    ∙ ap (λ (x : Search). let y : Search = record x { store = t } in y) counted
    ∙ ap (λ (s : Contents). let y : Search = record e { store = s; next_variable = d.next_variable } in y) back
    ∙ ap (λ j. let y : Search = record e { next_variable = j } in y) taken

pub only_numbers : (e x : Search) (n : ℕ) → x ≡ record e { next_variable = n } → x ≡ record e { next_variable = x.next_variable }
only_numbers e x n is = is ∙ sym (ap (λ (y : Search). let z : Search = record e { next_variable = y.next_variable } in z) is)
