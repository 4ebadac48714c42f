-- The steps of findall/3, by the definition.
use Rattle.std.proofs.Common.{◌≡◌, ℕ, ℤ, zero, suc, ◌+◌, ◌<◌, ◌≤◌, ◌^◌, true, false, cond, List, [], ◌∷◌, length, map, Result, Err, codes, refl, sym, ap, ap₂, ◌∙◌, arith}
use Rattle.pl_term.specs.Tree.{Chars, Tree, var, int, atom, compound}
use Rattle.pl_term.specs.Cells.{cells}
use Rattle.pl_term.specs.Variables.{rename, variables}
use Rattle.pl_model.specs.Balls.{instantiation_error, not_callable, type_error}
use Rattle.pl_model.specs.BodyChecks.{body_of, called_goal, if_callable}
use Rattle.pl_model.specs.History.{Proc}
use Rattle.pl_model.specs.Predicates.{proc_of}
use Rattle.pl_model.specs.Resolution.{Limits, Node, State, collect, collected_cells, failing, findall, goal}
use Rattle.pl_model.specs.Control.{checked, collected, findall_proc, list_made, over, taking, unified, with_copy, with_findall}
use Rattle.pl_model.specs.Terms.{is_list_or_partial, list_term, variable_count}
use Rattle.pl_model.specs.Unify.{unify}
use Rattle.term_store.specs.declared.words.Place.{Place}
use Rattle.term_store.specs.Contents.{Contents, Holds, term_at}
use Rattle.iso_search.specs.declared.copies.Collection.{Collection}
use Rattle.iso_search.specs.declared.copies.Copied.{Copied}
use Rattle.iso_search.specs.declared.outcome.Outcome.{Outcome}
use Rattle.iso_search.specs.declared.outcome.Outcome.TheVariants.{Fail, Raise}
use Rattle.iso_search.specs.declared.outcome.Fault.TheVariants.{Cells, Inferences}
use Rattle.iso_search.specs.declared.search.Search.{Search}
use Rattle.iso_search.specs.Collecting.{copies_of, copy_of, copy_over}
use Rattle.iso_search.specs.Conversions.{Stays}
use Rattle.iso_search.specs.Lists.{listed}
use Rattle.iso_search.specs.Outcomes.{Setting, limits_in, result_in, state_in}
use Rattle.iso_search.specs.Reading.{View, IsView, reads}
use Rattle.iso_search.specs.Searching.{IsWhole, choices_of, node_of}
use Rattle.iso_search.specs.Spelling.{spelled, text_of}
use Rattle.iso_search.proofs.Charging.{fitting_then, no_number, no_room, not_at_most}
use Rattle.iso_search.proofs.Copying.{cells-kept, cells-spelled, rename-kept, rename-spelled, variables-spelled}
use Rattle.iso_search.proofs.Equalling.{result_goals}
use Rattle.iso_search.proofs.Grown.{node_grown, read_kept, state_grown}
use Rattle.iso_search.proofs.ListTerms.{listed_read}
use Rattle.iso_search.proofs.Over.{is_below, state_by}
use Rattle.term_store.proofs.Renumbering.{length-variables_renamed}

-- The begin

abbrev pub listed_goal : Tree → Tree → Result Tree Tree
listed_goal t list = if_callable t (cond (is_list_or_partial list) (body_of t) (Err (type_error (codes "list") list)))

module _ (l : Limits) (s : State) (n : Node) (g x : Tree) where
  pub by_goal : (t list : Tree) (r : Result Tree Tree) → r ≡ listed_goal t list
      → checked s n (proc_of g) r (λ body. over l s n (proc_of g) (findall list [] n) (λ h. goal body (suc h) ∷ collect x h ∷ [])) ≡ with_findall l s n g x t list
  by_goal t list r e = ap (λ q. checked s n (proc_of g) q (λ body. over l s n (proc_of g) (findall list [] n) (λ h. goal body (suc h) ∷ collect x h ∷ []))) e

pub goal_variable : (v : View) (s : Contents) (p : Place) (y : ℕ) (list : Tree) → term_at s p ≡ var y → Err instantiation_error ≡ listed_goal (reads v s p) list
goal_variable v s p y list e = sym (ap (λ u. listed_goal (spelled (text_of v.names) u) list) e)

pub goal_integer : (v : View) (s : Contents) (p : Place) (i : ℤ) (list : Tree) → term_at s p ≡ int i → Err (not_callable (reads v s p)) ≡ listed_goal (reads v s p) list
goal_integer v s p i list e =
    ap (λ u. Err (not_callable (spelled (text_of v.names) u))) e ∙ sym (ap (λ u. listed_goal (spelled (text_of v.names) u) list) e)

pub goal_no_list : (v : View) (s : Contents) (p : Place) (list : Tree) → ((r : Result Tree Tree) → if_callable (reads v s p) r ≡ r)
    → is_list_or_partial list ≡ false → Err (type_error (codes "list") list) ≡ listed_goal (reads v s p) list
goal_no_list v s p list callable none =
    sym (callable (cond (is_list_or_partial list) (body_of (reads v s p)) (Err (type_error (codes "list") list)))
    ∙ ap (λ b. cond b (body_of (reads v s p)) (Err (type_error (codes "list") list))) none)

pub goal_called : (t list : Tree) → is_list_or_partial list ≡ true → called_goal t ≡ listed_goal t list
goal_called t list is = sym (ap (λ b. if_callable t (cond b (body_of t) (Err (type_error (codes "list") list)))) is)

pub atom_callable : (v : View) (s : Contents) (p : Place) (a : Chars) → term_at s p ≡ atom a → (r : Result Tree Tree) → if_callable (reads v s p) r ≡ r
atom_callable v s p a e r = ap (λ u. if_callable (spelled (text_of v.names) u) r) e

pub compound_callable : (v : View) (s : Contents) (p : Place) (f : Chars) (ts : List Tree) → term_at s p ≡ compound f ts
    → (r : Result Tree Tree) → if_callable (reads v s p) r ≡ r
compound_callable v s p f ts e r = ap (λ u. if_callable (spelled (text_of v.names) u) r) e ∙ go ts
  where
    go : (us : List Tree) → if_callable (spelled (text_of v.names) (compound f us)) r ≡ r
    go [] = refl
    go (u ∷ us) = refl

-- A copy is kept

pub kept_copy : (v : View) (t kept : Tree) (from : ℕ) → kept ≡ rename zero t → spelled (text_of v.names) (rename from kept) ≡ rename from (spelled (text_of v.names) t)
kept_copy v t kept from e =
    let g = text_of v.names in ap (λ u. spelled g (rename from u)) e ∙ ap (spelled g) (rename-kept from t) ∙ sym (rename-spelled g from t)

-- The state after a copy was put to the others, or none was.
module _ (t : Setting) (e d : Search) (rest : ℕ) (u : Tree) (h : ℕ) (new need : ℕ) (w : IsWhole e) (count : new ≡ variable_count u) (size : need ≡ cells u) where
  pub collect_done : e.next_variable + new < 2 ^ 64 → e.store.used + need ≤ e.store.budget
      → choices_of t.view d ≡ with_copy (rename e.next_variable u) h (choices_of t.view e) → d.next_variable ≡ e.next_variable + new → d.inferences ≡ e.inferences
      → result_in t d (node_of t.view e rest) findall_proc Fail ≡ collected (limits_in t e) (state_in t e) (node_of t.view e rest) u h
  collect_done room le choices next inferences =
      let s = state_in t e in
      state_by failing failing (choices_of t.view d) (with_copy (rename e.next_variable u) h (choices_of t.view e)) d.next_variable (e.next_variable + new) d.inferences e.inferences t.output
      refl choices next inferences
      ∙ fitting_then t e e new need findall_proc rest (λ s' n'. record s' { choices = with_copy (rename s.next u) h s.choices; doing = failing }) w room le
      ∙ ap₂ (λ k m. taking (limits_in t e) s (node_of t.view e rest) findall_proc k m (λ s' n'. record s' { choices = with_copy (rename s.next u) h s.choices; doing = failing }))
      count size

  pub collect_no_room : e.next_variable + new < 2 ^ 64 → e.store.budget < e.store.used + need
      → result_in t e (node_of t.view e rest) findall_proc (Raise Cells) ≡ collected (limits_in t e) (state_in t e) (node_of t.view e rest) u h
  collect_no_room room lt =
      let s = state_in t e in
      no_room t e e new need findall_proc rest (λ s' n'. record s' { choices = with_copy (rename s.next u) h s.choices; doing = failing }) w lt room refl
      ∙ ap₂ (λ k m. taking (limits_in t e) s (node_of t.view e rest) findall_proc k m (λ s' n'. record s' { choices = with_copy (rename s.next u) h s.choices; doing = failing }))
      count size

  pub collect_no_number : 2 ^ 64 ≤ e.next_variable + new
      → result_in t e (node_of t.view e rest) findall_proc (Raise Inferences) ≡ collected (limits_in t e) (state_in t e) (node_of t.view e rest) u h
  collect_no_number le =
      let s = state_in t e in
      no_number t e e new need findall_proc rest (λ s' n'. record s' { choices = with_copy (rename s.next u) h s.choices; doing = failing }) w le refl
      ∙ ap₂ (λ k m. taking (limits_in t e) s (node_of t.view e rest) findall_proc k m (λ s' n'. record s' { choices = with_copy (rename s.next u) h s.choices; doing = failing }))
      count size

pub count_saved : (v : View) (t kept : Tree) → kept ≡ rename zero t → length (variables kept) ≡ variable_count (spelled (text_of v.names) t)
count_saved v t kept e =
    ap (λ u. length (variables u)) e ∙ length-variables_renamed t ∙ sym (ap length (variables-spelled (text_of v.names) t))

pub cells_saved : (v : View) (t kept : Tree) → kept ≡ rename zero t → cells kept ≡ cells (spelled (text_of v.names) t)
cells_saved v t kept e = ap cells e ∙ cells-kept t ∙ sym (cells-spelled (text_of v.names) t)

-- The end

abbrev pub list_of_copies : View → Collection → Tree
list_of_copies v f = list_term (copies_of v f)

-- The list has too many cells.
pub list_too_large : (t : Setting) (e : Search) (n : Node) (list : Tree) (ts : List Tree) → e.next_variable < 2 ^ 64 → e.budgets.cells < cells (list_term ts)
    → result_in t e n findall_proc (Raise Cells) ≡ list_made (limits_in t e) (state_in t e) n list ts
list_too_large t e n list ts few lt =
    let s = state_in t e in
    let next : State → Node → State = λ s' n'. unified s' n' (unify list (list_term ts)) in
    sym (ap₂ (λ a b. cond a (cond b (next (record s { next = s.next + 0 }) (record n { used = n.used + cells (list_term ts) }))
    (result_in t e n findall_proc (Raise Cells))) (result_in t e n findall_proc (Raise Inferences)))
    (is_below (e.next_variable + 0) (2 ^ 64) (omega (arith, few)))
    (not_at_most (n.used + collected_cells s.choices + cells (list_term ts)) e.budgets.cells (omega (arith, lt))))

-- The list that was built is the definition's.
pub copies_read : (v : View) (cs : List Copied) → map (spelled (text_of v.names)) (map copy_over cs) ≡ map (copy_of v) cs
copies_read v [] = refl
copies_read v (c ∷ cs) = ap (λ ts. copy_of v c ∷ ts) (copies_read v cs)

-- The list was built and unified, after its cells were taken.
module _ (t : Setting) (view : IsView t.view) (e d f g : Search) (list made : Place) (found : Collection) (rest : ℕ) (o : Outcome)
    (taken : d ≡ record e { store = record e.store { used = d.store.used }; next_variable = d.next_variable }) (w : IsWhole d) (stays : Stays d.store f.store)
    (built : f ≡ record d { store = f.store }) (held : Holds d.store list) (means : term_at f.store made ≡ listed (map copy_over found.copies.items)) where
  list_reads : reads t.view f.store made ≡ list_term (copies_of t.view found)
  list_reads =
      ap (spelled (text_of t.view.names)) means ∙ listed_read t.view view (map copy_over found.copies.items)
      ∙ ap list_term (copies_read t.view found.copies.items)

  node_built : node_of t.view f rest ≡ node_of t.view d rest
  node_built = ap (λ (x : Search). node_of t.view x rest) built ∙ node_grown d f.store stays w t.view rest

  pub list_given : (need : ℕ) → need ≡ cells (list_term (copies_of t.view found))
      → ((list : ℕ) (p : Proc) (next : State → Node → State)
      → next (state_in t d) (node_of t.view d list) ≡ taking (limits_in t e) (state_in t e) (node_of t.view e list) p 0 need next)
      → result_in t g (node_of t.view f rest) findall_proc o
      ≡ unified (state_in t f) (node_of t.view f rest) (unify (reads t.view f.store list) (reads t.view f.store made))
      → result_in t g (node_of t.view e rest) findall_proc o
      ≡ list_made (limits_in t e) (state_in t e) (node_of t.view e rest) (reads t.view e.store list) (copies_of t.view found)
  list_given need size takes done =
      let v = t.view in
      let ts = copies_of v found in
      let next : State → Node → State = λ s n. unified s n (unify (reads v e.store list) (list_term ts)) in
      let goals : (node_of v e rest).goals ≡ (node_of v f rest).goals =
      sym (ap (λ (n : Node). n.goals) node_built ∙ ap (λ (x : Search). (node_of v x rest).goals) taken) in
      let listed_at : reads v f.store list ≡ reads v e.store list = read_kept v d.store f.store stays list held ∙ ap (λ (x : Search). reads v x.store list) taken in
      result_goals t g (node_of v e rest) (node_of v f rest) findall_proc o goals
      ∙ done
      ∙ ap₂ (λ x y. unified (state_in t f) (node_of v f rest) (unify x y)) listed_at list_reads
      ∙ ap₂ next (ap (state_in t) built ∙ state_grown d f.store stays w t) node_built
      ∙ takes rest findall_proc next
      ∙ ap (λ k. taking (limits_in t e) (state_in t e) (node_of v e rest) findall_proc 0 k next) size
