-- Lines that the shared state told, as answers of the definition.
use Rattle.std.proofs.Common.{◌≡◌, ◌<◌, ◌≤◌, ◌+◌, ℕ, Bool, true, false, cond, ◌&&◌, nat_le, List, [], ◌∷◌, length, map, drop, get_or, Option, Some, None, is_some, codes, pos, Vec, refl, sym, ap, ap₂, subst, ◌∙◌, arith, append-nil}
use Rattle.std.specs.declared.alloc.Global.{Global}
use Rattle.std.specs.List.{All}
use Rattle.std.specs.Option.{option_map}
use Rattle.std.proofs.lemmas.List.{drop-map, drop_all, drop_more, get_or_default}
use Rattle.pl_term.specs.Tree.{Chars, Tree, Trees, atom, comp, int, more, none, trees, count}
use Rattle.pl_model.specs.Balls.{no_choices}
use Rattle.pl_model.specs.BuiltinRows.{Answer, unifying}
use Rattle.pl_model.specs.Control.{answer_tried, first_answer, next_answer, raised, several, taking, unified}
use Rattle.pl_model.specs.History.{Proc}
use Rattle.pl_model.specs.Predicates.{proc_of}
use Rattle.pl_model.specs.Resolution.{Node, State, answers}
use Rattle.pl_model.specs.Terms.{arguments}
use Rattle.pl_model.specs.Unify.{Bindings, solve_all}
use Rattle.atom_api.specs.Fixed.{fixed, fixed_texts}
use Rattle.atom_api.specs.FixedNames.{slash_name}
use Rattle.atom_api.specs.Names.{Names}
use Rattle.term_store.specs.declared.words.Place.{Place}
use Rattle.term_store.specs.declared.words.StoreMark.{StoreMark}
use Rattle.term_store.specs.Heap.{atom_name}
use Rattle.world_api.specs.declared.visit.Procedure.{Procedure}
use Rattle.iso_engine.specs.Standing.{doing_of}
use Rattle.term_store.specs.Contents.{Adds, Contents, Holds, IsMark, SameSize, back_to, term_at}
use Rattle.world_api.specs.Told.{Told as SharedTold}
use Rattle.iso_search.specs.declared.failure.Back.TheVariants.{Told as ToldBack}
use Rattle.iso_search.specs.declared.outcome.Fault.TheVariants.{Choices}
use Rattle.iso_search.specs.declared.outcome.Outcome.{Outcome}
use Rattle.iso_search.specs.declared.outcome.Outcome.TheVariants.{Fail, Raise, Run}
use Rattle.iso_search.specs.declared.search.Search.{Search}
use Rattle.iso_search.specs.declared.told.Constant.{Constant}
use Rattle.iso_search.specs.declared.told.Line.{Line}
use Rattle.iso_search.specs.declared.told.Line.TheVariants.{Indicator, Flag, Operator}
use Rattle.iso_search.specs.Outcomes.{IsAfter, Setting, doing_by, limits_in, result_in, state_in}
use Rattle.iso_search.specs.Reading.{IsView, View, reads}
use Rattle.iso_search.specs.Searching.{IsWhole, choices_of, node_of, state_of}
use Rattle.iso_search.specs.Spelling.{spelled, spelled_bindings, text_of}
use Rattle.iso_search.specs.Conversions.{Grows}
use Rattle.iso_search.specs.Told.{constant_term, line_answer, told_answers, told_from}
use Rattle.iso_search.proofs.Cutting.{adds_nothing}
use Rattle.iso_search.proofs.Equalling.{result_goals}
use Rattle.iso_search.proofs.Grown.{node_grown, read_kept, state_grown, whole_grown}
use Rattle.iso_search.proofs.Naming.{text_is}
use Rattle.iso_search.proofs.Over.{length_choices, state_by}
use Rattle.iso_search.proofs.Spelt.{solve_all-spelled}
use Rattle.iso_engine.specs.declared.doing.Doing.TheVariants.{Failing}
use Rattle.iso_engine.specs.declared.engine.Engine.{Engine}
use Rattle.iso_engine.specs.Following.{HasProcedure, IsInteger, proc_in}
use Rattle.iso_engine.specs.Leading.{AreUnified}
use Rattle.iso_engine.specs.Retrying.{IsTried}
use Rattle.iso_engine.specs.ToldLines.{IsLineUnified, IsNextTold, line_cells}
use Rattle.iso_engine.proofs.Followed.{doing_same}
use Rattle.iso_engine.proofs.FollowedRows.{arguments_spelled}
use Rattle.iso_engine.proofs.Paired.{not_as_many}
use Rattle.iso_engine.proofs.Resolving.{at_any_node}
use Rattle.iso_engine.proofs.Unified.{places_differ, places_unified, terms_read, unified_whole}

-- Lists

-- A line that does not unify is passed by.
pub passed : (f : Line → Answer) (ts : Trees) (ls : List Line) (i : ℕ) (line : Line) → i < length ls → line ≡ get_or ls i line
    → is_some (solve_all [] ts (f line).terms) ≡ false
    → unifying ts (drop i (map f ls)) ≡ unifying ts (drop (i + 1) (map f ls))
passed f ts ls i line lt is differs =
    ap (unifying ts) (at_line f ls i line lt is)
    ∙ ap (λ b. cond b (f line ∷ unifying ts (drop (i + 1) (map f ls))) (unifying ts (drop (i + 1) (map f ls)))) differs
  where
    at_line : (f : Line → Answer) (ls : List Line) (i : ℕ) (line : Line) → i < length ls → line ≡ get_or ls i line
        → drop i (map f ls) ≡ f line ∷ drop (i + 1) (map f ls)
    at_line f ls i line lt is =
        drop-map f i ls ∙ ap (map f) (drop_more ls i line lt) ∙ ap₂ (λ x xs. f x ∷ xs) (sym is) (sym (drop-map f (i + 1) ls))

-- The store was as it is.
pub tells_here : (v : View) (s r : Contents) → r ≡ s → (goal : Place) (line : Line) (b c : Bool)
    → is_some (solve_all [] (arguments (reads v r goal)) (line_answer v.names line).terms) ≡ b → b ≡ c
    → is_some (solve_all [] (arguments (reads v s goal)) (line_answer v.names line).terms) ≡ c
tells_here v s r same goal line b c tells is =
    ap (λ (y : Contents). is_some (solve_all [] (arguments (reads v y goal)) (line_answer v.names line).terms)) (sym same) ∙ tells ∙ is

-- One that unifies is an answer.
pub met : (f : Line → Answer) (ts : Trees) (ls : List Line) (from i : ℕ) (line : Line) → i < length ls → line ≡ get_or ls i line
    → is_some (solve_all [] ts (f line).terms) ≡ true
    → unifying ts (drop from (map f ls)) ≡ unifying ts (drop i (map f ls))
    → IsNextTold f ts ls from (Some i)
met f ts ls from i line lt is unifies rest = (lt, rest, λ k at. here k at)
  where
    here : (k : Line) → k ≡ get_or ls i k → unifying ts (drop i (map f ls)) ≡ f k ∷ unifying ts (drop (i + 1) (map f ls))
    here k at =
        let same : k ≡ line = at ∙ get_or_default ls i k line lt ∙ sym is in
        ap (unifying ts) (drop-map f i ls ∙ ap (map f) (drop_more ls i line lt) ∙ ap₂ (λ x xs. f x ∷ xs) (sym is) (sym (drop-map f (i + 1) ls)))
        ∙ ap (λ b. cond b (f line ∷ unifying ts (drop (i + 1) (map f ls))) (unifying ts (drop (i + 1) (map f ls)))) unifies
        ∙ ap (λ x. f x ∷ unifying ts (drop (i + 1) (map f ls))) (sym same)

-- No further line.
pub none_met : (f : Line → Answer) (ts : Trees) (ls : List Line) (from i : ℕ) → length ls ≤ i
    → unifying ts (drop from (map f ls)) ≡ unifying ts (drop i (map f ls))
    → unifying ts (drop from (map f ls)) ≡ []
none_met f ts ls from i past rest = rest ∙ ap (unifying ts) (drop-map f i ls ∙ ap (map f) (drop_all i ls past))

-- Whether several of them unify.
module _ (f : Line → Answer) (ts : Trees) (ls : List Line) where
  abbrev unified_ones : List Answer
  unified_ones = unifying ts (drop 0 (map f ls))

  pub several_none : IsNextTold f ts ls 0 None → several unified_ones ≡ false
  several_none ends = ap several ends

  some_line : (k : ℕ) → k < length ls → (line : Line) × (line ≡ get_or ls k line)
  some_line k lt = go ls lt
    where
      go : (xs : List Line) → k < length xs → (line : Line) × (line ≡ get_or xs k line)
      go [] less = absurd (omega (arith, less))
      go (x ∷ xs) less = (get_or (x ∷ xs) k x, get_or_default (x ∷ xs) k x (get_or (x ∷ xs) k x) less)

  begins : (from k : ℕ) → (first : IsNextTold f ts ls from (Some k)) → (line : Line) × (unifying ts (drop from (map f ls)) ≡ f line ∷ unifying ts (drop (k + 1) (map f ls)))
  begins from k first = let one = some_line k first.0 in (one.0, first.1 ∙ first.2 one.0 one.1)

  pub several_one : (k : ℕ) → IsNextTold f ts ls 0 (Some k) → IsNextTold f ts ls (k + 1) None → several unified_ones ≡ false
  several_one k first ends =
      let one = begins 0 k first in ap several (one.1 ∙ ap (λ xs. f one.0 ∷ xs) ends)

  pub several_more : (k j : ℕ) → IsNextTold f ts ls 0 (Some k) → IsNextTold f ts ls (k + 1) (Some j) → several unified_ones ≡ true
  several_more k j first later =
      let one = begins 0 k first in let two = begins (k + 1) j later in ap several (one.1 ∙ ap (λ xs. f one.0 ∷ xs) two.1)

-- A goal without arguments has no answer.
nothing_unifies : (m : Names) (ts : Trees) (ls : List Line) → count ts ≡ 0 → unifying ts (map (line_answer m) ls) ≡ []
nothing_unifies m ts [] is = refl
nothing_unifies m ts (line ∷ ls) is =
    ap (λ o. cond (is_some o) (line_answer m line ∷ unifying ts (map (line_answer m) ls)) (unifying ts (map (line_answer m) ls))) (fewer line)
    ∙ nothing_unifies m ts ls is
  where
    fewer : (l : Line) → solve_all [] ts (line_answer m l).terms ≡ None
    fewer (Indicator name arity) = not_as_many ts (line_answer m (Indicator name arity)).terms (λ e. omega (arith, e, is))
    fewer (Flag flag value) = not_as_many ts (line_answer m (Flag flag value)).terms (λ e. omega (arith, e, is))
    fewer (Operator priority specifier name) = not_as_many ts (line_answer m (Operator priority specifier name)).terms (λ e. omega (arith, e, is))

pub integer_fails : (v : View) (s : Contents) (goal : Place) (ls : List Line) (line : ℕ) → IsInteger s goal
    → told_answers v.names (reads v s goal) ls line ≡ []
integer_fails v s goal ls line i =
    ap (λ (x : Tree). told_answers v.names (spelled (text_of v.names) x) ls line) i.1
    ∙ ap (unifying none) (drop-map (line_answer v.names) line ls)
    ∙ nothing_unifies v.names none (drop line ls) refl

-- Unification with a line

module _ (b : Bool) (s : Contents) (goal : Place) (line : Line) (u : Contents) (held : Holds s goal) (x : IsLineUnified b s goal line u) where
  -- It tells whether the terms unify, by each view.
  told_by : (c : Bool) → AreUnified c x.made (arguments (term_at x.made goal)) (trees (map (term_at x.made) x.places)) u
      → is_some (solve_all [] (arguments (term_at x.made goal)) (trees (map (term_at x.made) x.places))) ≡ c
  told_by true same = ap (λ (o : Option Bindings). is_some o) same.1.0
  told_by false differ = ap (λ (o : Option Bindings). is_some o) differ

  mapped : (g : Chars → Chars) (o : Option Bindings) → is_some (option_map (spelled_bindings g) o) ≡ is_some o
  mapped g None = refl
  mapped g (Some bs) = refl

  pub tells : (v : View) → IsView v → is_some (solve_all [] (arguments (reads v s goal)) (line_answer v.names line).terms) ≡ b
  tells v view =
      let g = text_of v.names in
      let lefts = arguments (term_at x.made goal) in
      let rights = trees (map (term_at x.made) x.places) in
      ap (λ (o : Option Bindings). is_some o)
      (ap₂ (solve_all []) (ap arguments (sym (read_kept v s x.made x.grows.stays goal held)) ∙ arguments_spelled g (term_at x.made goal))
      (sym (x.stand v view) ∙ terms_read v x.made x.places)
      ∙ solve_all-spelled g view.apart [] lefts rights)
      ∙ mapped g (solve_all [] lefts rights)
      ∙ told_by b x.unified

  -- It can be undone.
  pub undone : (mark : StoreMark) → IsMark mark s → back_to mark s ≡ s → IsMark mark u × (back_to mark u ≡ s)
  undone mark is here =
      let there = x.grows.stays.adds.marks mark is in (
        x.adds.marks mark there,
        x.adds.back mark there ∙ x.grows.stays.adds.back mark is ∙ here,
      )

-- As a step of the search `e`.
module _ (e : Search) (goal : Place) (line : Line) (rest : ℕ) (u : Contents) (whole : IsWhole e) (held : Holds e.store goal) where
  abbrev ended : Search
  ended = record e { store = u }

  abbrev made_in : Contents → Search
  made_in s = record e { store = s }

  pub line_whole : (b : Bool) → IsLineUnified b e.store goal line u → IsWhole ended
  line_whole b x =
      let d = made_in x.made in unified_whole d goal x.places rest u (whole_grown e x.made x.grows whole) x.adds x.size

  pub line_step : (b : Bool) (o : Outcome) → (x : IsLineUnified b e.store goal line u)
      → ((t : Setting) (p : Proc) → IsView t.view → let d = made_in x.made in
      result_in t ended (node_of t.view d rest) p o
      ≡ unified (state_in t d) (node_of t.view d rest) (solve_all [] (arguments (reads t.view d.store goal)) (trees (map (reads t.view d.store) x.places))))
      → (t : Setting) (p : Proc) → IsView t.view
      → result_in t ended (node_of t.view e rest) p o
      ≡ unified (state_in t e) (node_of t.view e rest) (solve_all [] (arguments (reads t.view e.store goal)) (line_answer t.view.names line).terms)
  line_step b o x ran t p view =
      let v = t.view in
      let d = made_in x.made in
      let stays = x.grows.stays in
      at_any_node t ended (node_of v d rest) (node_of v d rest) (node_of v e rest) p o (state_in t d)
      (solve_all [] (arguments (reads v x.made goal)) (trees (map (reads v x.made) x.places))) (ran t p view)
      ∙ ap₂ (λ (y : State) (m : Node). unified y m (solve_all [] (arguments (reads v x.made goal)) (trees (map (reads v x.made) x.places))))
      (state_grown e x.made stays whole t) (node_grown e x.made stays whole v rest)
      ∙ ap (unified (state_in t e) (node_of v e rest))
      (ap₂ (λ (h : Tree) us. solve_all [] (arguments h) us) (read_kept v e.store x.made stays goal held) (x.stand v view))

  pub line_runs : IsLineUnified true e.store goal line u → (t : Setting) (p : Proc) → IsView t.view
      → result_in t ended (node_of t.view e rest) p (Run rest)
      ≡ unified (state_in t e) (node_of t.view e rest) (solve_all [] (arguments (reads t.view e.store goal)) (line_answer t.view.names line).terms)
  line_runs x =
      let d = made_in x.made in
      line_step true (Run rest) x
      (λ t p view. places_unified d goal x.places rest u (whole_grown e x.made x.grows whole) x.adds x.size t p view x.unified)

  pub line_fails : IsLineUnified false e.store goal line u → (t : Setting) (p : Proc) → IsView t.view
      → result_in t ended (node_of t.view e rest) p Fail
      ≡ unified (state_in t e) (node_of t.view e rest) (solve_all [] (arguments (reads t.view e.store goal)) (line_answer t.view.names line).terms)
  line_fails x =
      let d = made_in x.made in
      line_step false Fail x
      (λ t p view. places_differ d goal x.places rest u (whole_grown e x.made x.grows whole) x.adds x.size t p view x.unified)

-- After the cells were taken.

made_is : (m : Names) (line : Line) → (line_answer m line).made ≡ line_cells line
made_is m (Indicator name arity) = refl
made_is m (Flag flag value) = refl
made_is m (Operator priority specifier name) = refl

fresh_is : (m : Names) (line : Line) → (line_answer m line).fresh ≡ 0
fresh_is m (Indicator name arity) = refl
fresh_is m (Flag flag value) = refl
fresh_is m (Operator priority specifier name) = refl

pub tried_is : (t : Setting) (e : Search) (rest : ℕ) (p : Proc) (ts : Trees) (line : Line) (cells : ℕ) → cells ≡ line_cells line
    → taking (limits_in t e) (state_in t e) (node_of t.view e rest) p 0 cells (λ s' n'. unified s' n' (solve_all [] ts (line_answer t.view.names line).terms))
    ≡ answer_tried (limits_in t e) (state_in t e) (node_of t.view e rest) p ts (line_answer t.view.names line)
tried_is t e rest p ts line cells is =
    ap₂ (λ k c. taking (limits_in t e) (state_in t e) (node_of t.view e rest) p k c (λ s' n'. unified s' n' (solve_all [] ts (line_answer t.view.names line).terms)))
    (sym (fresh_is t.view.names line)) (is ∙ sym (made_is t.view.names line))

pub tried_ran : (t : Setting) (e d f : Search) (p : Proc) (goal : Place) (line : Line) (rest cells : ℕ) (o : Outcome) → cells ≡ line_cells line
    → d ≡ record e { store = record e.store { used = d.store.used }; next_variable = d.next_variable }
    → ((list : ℕ) (q : Proc) (next : State → Node → State)
    → next (state_in t d) (node_of t.view d list) ≡ taking (limits_in t e) (state_in t e) (node_of t.view e list) q 0 cells next)
    → result_in t f (node_of t.view d rest) p o
    ≡ unified (state_in t d) (node_of t.view d rest) (solve_all [] (arguments (reads t.view d.store goal)) (line_answer t.view.names line).terms)
    → result_in t f (node_of t.view e rest) p o
    ≡ answer_tried (limits_in t e) (state_in t e) (node_of t.view e rest) p (arguments (reads t.view e.store goal)) (line_answer t.view.names line)
tried_ran t e d f p goal line rest cells o is kept taken done =
    let v = t.view in
    let us = (line_answer v.names line).terms in
    result_goals t f (node_of v e rest) (node_of v d rest) p o (sym (ap (λ (x : Search). (node_of v x rest).goals) kept))
    ∙ done
    ∙ ap (unified (state_in t d) (node_of v d rest)) (ap (λ (x : Search). solve_all [] (arguments (reads v x.store goal)) us) kept)
    ∙ taken rest p (λ s' n'. unified s' n' (solve_all [] (arguments (reads v e.store goal)) us))
    ∙ tried_is t e rest p (arguments (reads v e.store goal)) line cells is

-- The next answer

module _ (t : Setting) (e : Search) (goal : Place) (ls : List Line) (line rest : ℕ) where
  abbrev g : Tree
  g = reads t.view e.store goal

  abbrev n : Node
  n = node_of t.view e rest

  abbrev Answered : State → Type 0
  Answered s = s ≡ next_answer (limits_in t e) (state_in t e) n (proc_of g) (arguments g) (told_answers t.view.names g ls line)

  pub told_none : IsNextTold (line_answer t.view.names) (arguments g) ls line None → (r : Outcome) → r ≡ Fail → (f : Search) → f ≡ e → Answered (result_in t f n (proc_of g) r)
  told_none ends r is f same =
      ap₂ (λ (x : Search) (o : Outcome). result_in t x n (proc_of g) o) same is
      ∙ sym (ap (next_answer (limits_in t e) (state_in t e) n (proc_of g) (arguments g)) ends)

  module _ (k : ℕ) (told : Line) (at : told ≡ get_or ls k told) (first : IsNextTold (line_answer t.view.names) (arguments g) ls line (Some k)) where
    abbrev later : List Answer
    later = unifying (arguments g) (drop (k + 1) (map (line_answer t.view.names) ls))

    list_is : told_answers t.view.names g ls line ≡ line_answer t.view.names told ∷ later
    list_is = first.1 ∙ first.2 told at

    -- It is the last one.
    pub told_last : IsNextTold (line_answer t.view.names) (arguments g) ls (k + 1) None → (r : State)
        → r ≡ answer_tried (limits_in t e) (state_in t e) n (proc_of g) (arguments g) (line_answer t.view.names told) → Answered r
    told_last ends r ran =
        ran
        ∙ sym (ap (next_answer (limits_in t e) (state_in t e) n (proc_of g) (arguments g)) (list_is ∙ ap (λ xs. line_answer t.view.names told ∷ xs) ends))

    -- Others follow it, for which a choice point was made in the search `d`.
    pub told_more : (j : ℕ) → IsNextTold (line_answer t.view.names) (arguments g) ls (k + 1) (Some j) → (d : Search)
        → (let x : Search = record e { choices = d.choices } in d ≡ x)
        → choices_of t.view d ≡ told_from t.view.names g ls j n ∷ choices_of t.view e
        → (r : State)
        → r ≡ answer_tried (limits_in t d) (state_in t d) (node_of t.view d rest) (proc_of (reads t.view d.store goal)) (arguments (reads t.view d.store goal)) (line_answer t.view.names told)
        → Answered r
    told_more j later_at d kept choices r ran =
        let v = t.view in
        let a = line_answer v.names told in
        let next = get_or ls j told in
        let b = line_answer v.names next in
        let bs = unifying (arguments g) (drop (j + 1) (map (line_answer v.names) ls)) in
        let x : Search = record e { choices = d.choices } in
        let left : told_answers v.names g ls j ≡ b ∷ bs = later_at.2 next (get_or_default ls j told next later_at.0) in
        let rest_is : later ≡ b ∷ bs = later_at.1 ∙ left in
        let state : state_in t x ≡ record (state_in t e) { choices = answers (proc_of g) (arguments g) (b ∷ bs) n ∷ choices_of v e } =
        state_by t.doing t.doing (choices_of v x) (answers (proc_of g) (arguments g) (b ∷ bs) n ∷ choices_of v e) e.next_variable e.next_variable e.inferences e.inferences t.output refl
        (sym (ap (choices_of v) kept) ∙ choices ∙ ap (λ l. answers (proc_of g) (arguments g) l n ∷ choices_of v e) left) refl refl in
        ran
        ∙ ap (λ (y : Search). answer_tried (limits_in t y) (state_in t y) (node_of v y rest) (proc_of (reads v y.store goal)) (arguments (reads v y.store goal)) a) kept
        ∙ ap (λ (s : State). answer_tried (limits_in t e) s n (proc_of g) (arguments g) a) state
        ∙ sym (ap (next_answer (limits_in t e) (state_in t e) n (proc_of g) (arguments g)) (list_is ∙ ap (λ xs. a ∷ xs) rest_is))

pub and_true : (b : Bool) → (b && true) ≡ b
and_true true = refl
and_true false = refl

-- Whether the first answer leaves one choice point too many.
module _ (t : Setting) (e : Search) (n : Node) (p : Proc) (ts : Trees) (xs : List Answer) (b : Bool)
    (is : b ≡ (several xs && nat_le e.budgets.choices (length e.choices.items))) where
  too_many : (several xs && nat_le e.budgets.choices (length (choices_of t.view e))) ≡ b
  too_many = ap (λ k. several xs && nat_le e.budgets.choices k) (length_choices t.view e) ∙ sym is

  pub told_full : b ≡ true → result_in t e n p (Raise Choices) ≡ first_answer (limits_in t e) (state_in t e) n p ts xs
  told_full full =
      sym (ap (λ z. cond z (raised (state_in t e) n no_choices p) (next_answer (limits_in t e) (state_in t e) n p ts xs)) (too_many ∙ full))

  pub told_room : b ≡ false → (r : State) → r ≡ next_answer (limits_in t e) (state_in t e) n p ts xs → r ≡ first_answer (limits_in t e) (state_in t e) n p ts xs
  told_room room r ran =
      ran ∙ sym (ap (λ z. cond z (raised (state_in t e) n no_choices p) (next_answer (limits_in t e) (state_in t e) n p ts xs)) (too_many ∙ room))

-- A line was tried where the store was as it was before.
pub tried_same : (t : Setting) (e x f : Search) (goal : Place) (line : Line) (rest : ℕ) (o : Outcome) → x ≡ e
    → ((q : Setting) (p : Proc) → IsView q.view → result_in q f (node_of q.view x rest) p o
    ≡ answer_tried (limits_in q x) (state_in q x) (node_of q.view x rest) p (arguments (reads q.view x.store goal)) (line_answer q.view.names line))
    → IsView t.view
    → result_in t f (node_of t.view e rest) (proc_of (reads t.view e.store goal)) o
    ≡ answer_tried (limits_in t e) (state_in t e) (node_of t.view e rest) (proc_of (reads t.view e.store goal)) (arguments (reads t.view e.store goal)) (line_answer t.view.names line)
tried_same t e x f goal line rest o same step view =
    subst (λ (y : Search). result_in t f (node_of t.view y rest) (proc_of (reads t.view y.store goal)) o
    ≡ answer_tried (limits_in t y) (state_in t y) (node_of t.view y rest) (proc_of (reads t.view y.store goal)) (arguments (reads t.view y.store goal)) (line_answer t.view.names line))
    same (step t (proc_of (reads t.view x.store goal)) view)

-- The search in which only the store is named anew.
pub with_store : (e : Search) (s : Contents) → s ≡ e.store → (let x : Search = record e { store = s } in x ≡ e)
with_store e s same = ap (λ c. let x : Search = record e { store = c } in x) same

-- The engine, where the goal has no answer since it is an integer.
pub no_told_tried : (n : Names) (t : SharedTold) (e : Engine) (goal : Place) (ls : Vec Line Global) (line next : ℕ) → IsInteger e.search.store goal
    → (let f : Engine = record e { doing = Failing } in IsTried t e (ToldBack goal ls line next) n t f)
no_told_tried n t e goal ls line next i =
    record {
      before = t.history;
      follows = record { later = []; grown = sym (append-nil t.history); others = refl };
      told = refl;
      stands =
          λ q view alike.
          let s = e.search
          in let g = reads q.view s.store goal
          in ap (next_answer (limits_in q s) (state_in q s) (node_of q.view s next) (proc_of g) (arguments g)) (integer_fails q.view s.store goal ls.items line i);
      budgets = refl;
      rest = refl;
    }

-- The first of the lines that unify was tried.
pub told_tried : (n : Names) (t : SharedTold) (e f : Engine) (goal : Place) (ls : Vec Line Global) (line next : ℕ) (p : Procedure) (o : Outcome) → next ≤ length e.search.frames.items
    → HasProcedure e.search.store goal p
    → IsAfter e.search f.search o
    → ((r : Setting) → IsView r.view → let s = e.search in let g = reads r.view s.store goal in
    result_in r f.search (node_of r.view s next) (proc_of g) o
    ≡ next_answer (limits_in r s) (state_in r s) (node_of r.view s next) (proc_of g) (arguments g) (told_answers r.view.names g ls.items line))
    → ((r : Setting) → IsView r.view → doing_of r.view f.search f.doing
    ≡ doing_by r f.search (node_of r.view f.search next) (record { name = text_of r.view.names (atom_name p.name); arity = p.arity }) o)
    → (let x : Engine = record e { search = f.search; doing = f.doing } in f ≡ x)
    → IsTried t e (ToldBack goal ls line next) n t f
told_tried n t e f goal ls line next p o le procedure after step follows rest =
    record {
      before = t.history;
      follows = record { later = []; grown = sym (append-nil t.history); others = refl };
      told = refl;
      stands =
          λ r view alike.
          let v = r.view
          in let s = e.search
          in sym (step r view)
          ∙ ap (λ d. state_of v f.search d r.output)
          (sym (follows r view ∙ doing_same r s f.search (proc_in v p) (proc_of (reads v s.store goal)) next o le after.inside (sym (procedure r view))));
      budgets = after.budgets;
      rest = rest;
    }

-- The places of a line

grows_nothing : (s : Contents) → Grows s s
grows_nothing s = record { stays = record { others = λ p h. refl; adds = adds_nothing s; used = refl; budget = refl }; numbers = refl }

slash_is : fixed slash_name ≡ Some (codes "/")
unfolding fixed_texts
slash_is = refl

pub indicator_stands : (v : View) → IsView v → (s : Contents) (p : Place) (name arity : ℕ)
    → term_at s p ≡ comp (atom_name slash_name) (atom (atom_name name)) (more (int (pos arity)) none)
    → trees (map (reads v s) (p ∷ [])) ≡ (line_answer v.names (Indicator name arity)).terms
indicator_stands v view s p name arity is =
    ap (λ x. more x none)
    (ap (spelled (text_of v.names)) is
    ∙ ap (λ (f : Chars). comp f (atom (text_of v.names (atom_name name))) (more (int (pos arity)) none)) (text_is v view slash_name (codes "/") slash_is))

pub flag_stands : (v : View) (s : Contents) (p q : Place) (flag : ℕ) (value : Constant) → term_at s p ≡ atom (atom_name flag) → reads v s q ≡ constant_term v.names value
    → trees (map (reads v s) (p ∷ q ∷ [])) ≡ (line_answer v.names (Flag flag value)).terms
flag_stands v s p q flag value is reads_as = ap₂ (λ (x y : Tree). more x (more y none)) (ap (spelled (text_of v.names)) is) reads_as

pub operator_stands : (v : View) (s : Contents) (p q r : Place) (priority specifier name : ℕ) → term_at s p ≡ int (pos priority)
    → term_at s q ≡ atom (atom_name specifier) → term_at s r ≡ atom (atom_name name)
    → trees (map (reads v s) (p ∷ q ∷ r ∷ [])) ≡ (line_answer v.names (Operator priority specifier name)).terms
operator_stands v s p q r priority specifier name first second third =
    ap₂ (λ (x y : Tree). more x (more y (more (reads v s r) none))) (ap (spelled (text_of v.names)) first) (ap (spelled (text_of v.names)) second)
    ∙ ap (λ (z : Tree). more (int (pos priority)) (more (atom (text_of v.names (atom_name specifier))) (more z none))) (ap (spelled (text_of v.names)) third)

-- Two places, or three, were unified where they stand in every store.
pub line_unified : (b : Bool) (s : Contents) (goal : Place) (line : Line) (u : Contents) (ps : List Place) → All (Holds s) ps
    → ((v : View) → IsView v → trees (map (reads v s) ps) ≡ (line_answer v.names line).terms)
    → AreUnified b s (arguments (term_at s goal)) (trees (map (term_at s) ps)) u → Adds s u → SameSize s u
    → IsLineUnified b s goal line u
line_unified b s goal line u ps inside stand unified adds size =
    record { made = s; places = ps; grows = grows_nothing s; inside = inside; stand = stand; unified = unified; adds = adds; size = size }
