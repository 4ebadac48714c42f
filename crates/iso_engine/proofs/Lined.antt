-- What is gone on with of a table leads to where the definition goes back to its lines.
use Rattle.std.proofs.Common.{◌≡◌, ◌≢◌, ◌≤◌, ℕ, zero, Bool, true, false, cond, List, [], ◌∷◌, ◌&&◌, length, map, drop, nat_le, is_some, Option, Some, None, Vec, refl, sym, ap, ap₂, subst, ◌∙◌, add-zero, arith}
use Rattle.std.specs.declared.alloc.Global.{Global}
use Rattle.std.specs.List.{All}
use Rattle.pl_term.specs.Tree.{Tree, Trees, trees}
use Rattle.pl_model.specs.Balls.{error_ball, no_choices}
use Rattle.pl_model.specs.BuiltinRows.{Answer, plain_answer, table, unifying}
use Rattle.pl_model.specs.Control.{answer_tried, first_answer, next_answer, raised, several, with_row}
use Rattle.pl_model.specs.History.{Proc}
use Rattle.pl_model.specs.Predicates.{proc_of}
use Rattle.pl_model.specs.Resolution.{Limits, Node, State, answers, failing, throwing}
use Rattle.pl_model.specs.Terms.{arguments}
use Rattle.term_store.specs.declared.words.Place.{Place}
use Rattle.term_store.specs.Contents.{Holds as IsIn, IsAbove}
use Rattle.term_store.proofs.Storing.{above_of}
use Rattle.world_api.specs.Texts.{Holds as AreHeld}
use Rattle.iso_search.specs.declared.choices.Alternative.TheVariants.{Answers as AnswersLeft}
use Rattle.iso_search.specs.declared.failure.Back.TheVariants.{Answers}
use Rattle.iso_search.specs.declared.outcome.Fault.TheVariants.{Choices}
use Rattle.iso_search.specs.declared.outcome.Outcome.{Outcome}
use Rattle.iso_search.specs.declared.outcome.Outcome.TheVariants.{Fail, Raise}
use Rattle.iso_search.specs.declared.search.Search.{Search}
use Rattle.iso_search.specs.Choices.{answers_from, choice_at}
use Rattle.iso_search.specs.Failures.{back_result}
use Rattle.iso_search.specs.Frames.{tasks}
use Rattle.iso_search.specs.Lines.{lines_of}
use Rattle.iso_search.specs.Outcomes.{IsAfter, KeepsTasks, Setting, limits_in, result_in, state_in}
use Rattle.iso_search.specs.Reading.{IsView, View, node_at, reads}
use Rattle.iso_search.specs.Searching.{IsWhole, choices_of, node_of, state_of}
use Rattle.iso_search.specs.Spelling.{spelled, text_of}
use Rattle.iso_search.proofs.After.{after_behind, keeps_choices}
use Rattle.iso_search.proofs.Over.{length_choices, state_by}
use Rattle.iso_engine.proofs.OutputSteps.{read_held}
use Rattle.builtin_rows.specs.declared.row.Row.TheVariants.{Fails, Line}
use Rattle.builtin_rows.specs.Given.{lined}
use Rattle.builtin_rows.specs.Rows.{ArePlaced, IsLater, IsLine, IsRow, Makes, terms_at}
use Rattle.iso_engine.specs.Leading.{IsRowMade, Origin, as_before}
use Rattle.iso_engine.specs.TableLines.{IsGoneBack, IsNextMade, LineOrigin, search_before}
use Rattle.iso_engine.proofs.FollowedRows.{places_read}
use Rattle.iso_engine.proofs.Giving.{line_gives}
use Rattle.iso_engine.proofs.Grown.{choices_still, keeps_tasks, node_still, whole_still}
use Rattle.iso_engine.proofs.Unified.{terms_read}

-- Answers that follow are a choice point.
next_more : (l : Limits) (s : State) (n : Node) (p : Proc) (ts : Trees) (a : Answer) (later : List Answer) → later ≢ []
    → next_answer l s n p ts (a ∷ later) ≡ answer_tried l (record s { choices = answers p ts later n ∷ s.choices }) n p ts a
next_more l s n p ts a [] some = absurd (some refl)
next_more l s n p ts a (b ∷ bs) some = refl

next_last : (l : Limits) (s : State) (n : Node) (p : Proc) (ts : Trees) (a : Answer) (later : List Answer) → later ≡ []
    → next_answer l s n p ts (a ∷ later) ≡ answer_tried l s n p ts a
next_last l s n p ts a [] none = refl
next_last l s n p ts a (b ∷ bs) none = absurd (no_cons b bs none)
  where
    no_cons : (y : Answer) (ys : List Answer) → y ∷ ys ≡ [] → ⊥
    no_cons y ys e = cc

several_is : (us : Trees) (xs : List Answer) (a : Answer) (later : List Answer) (following : Option ℕ) → IsLater us xs later following
    → several (a ∷ later) ≡ is_some following
several_is us xs a later None none = ap (λ l. several (a ∷ l)) none
several_is us xs a [] (Some k) some = absurd (some.1 refl)
several_is us xs a (b ∷ bs) (Some k) some = refl

tried_same : (l : Limits) (s s' : State) (n n' : Node) (p : Proc) (ts ts' us us' : Trees) → s ≡ s' → n ≡ n' → ts ≡ ts' → us ≡ us'
    → answer_tried l s n p ts (plain_answer us) ≡ answer_tried l s' n' p ts' (plain_answer us')
tried_same l s s' n n' p ts ts' us us' a b c d =
    ap₂ (λ x y. answer_tried l x y p ts (plain_answer us)) a b ∙ ap₂ (λ x y. answer_tried l s' n' p x (plain_answer y)) c d

-- None of the lines unifies.
module _ (x : LineOrigin) (at : Place) (e : Search) (m : IsNextMade x at e Fails) where
  pub none_whole : IsWhole e
  none_whole = subst (λ u. let y : Search = record e { store = u } in IsWhole y) (sym m.made.1) m.whole

  pub none_gone : (rest : ℕ) → IsGoneBack x at rest e e Fail
  none_gone rest t view known =
      let b = search_before x e in
      let g = reads t.view x.store at in
      let k = m.read_as t.view view known in
      ap (λ u. let y : Search = record e { store = u } in state_of t.view y failing t.output) m.made.1
      ∙ sym
      (ap (next_answer (limits_in t b) (state_in t b) (node_of t.view b rest) (proc_of g) (arguments g))
      (ap₂ (λ ts xs. unifying ts (drop x.from xs)) k.0 k.1 ∙ m.made.0))

-- One does.
module _ (x : LineOrigin) (at : Place) (e : Search) (ps : Vec Place Global) (following : Option ℕ) (m : IsNextMade x at e (Line ps following)) where
  abbrev b : Search
  b = search_before x e

  line : IsLine x.terms x.lines x.from (terms_at x.held e.store ps.items) following
  line = m.made.0

  makes : Makes x.store e.next_variable zero zero e.store
  makes = m.made.1.0

  placed : ArePlaced x.held e.store ps.items
  placed = m.made.1.1

  pub line_whole : IsWhole e
  line_whole =
      whole_still e x.store e.store makes.adds m.whole e.next_variable (omega arith) makes.budget
      (subst (λ k. IsAbove k e.store) (add-zero e.next_variable) (above_of x.store x.store e.store e.next_variable zero zero refl m.whole.above makes.numbers refl))

  pub line_goal : IsIn e.store at
  line_goal = makes.adds.places at m.inside

  pub line_places : All (IsIn e.store) ps.items
  line_places = placed.inside

  pub line_keeps : KeepsTasks b e
  line_keeps = keeps_tasks e x.store e.store makes.adds m.whole makes.others e.next_variable

  pub line_choices : (v : View) → choices_of v e ≡ choices_of v b
  line_choices v = choices_still e x.store e.store makes.adds m.whole v e.next_variable

  -- After the last one.
  pub last_after : (f : Search) (o : Outcome) → IsAfter e f o → IsAfter b f o
  last_after f o after = after_behind b e f o (let same : length b.frames.items ≤ length e.frames.items = omega arith in same) refl line_keeps after

  module _ (d : Search) (kept : (let y : Search = record e { choices = d.choices } in d ≡ y)) where
    pub more_after : (f : Search) (o : Outcome) → IsAfter d f o → IsAfter b f o
    more_after f o after =
        let same : length d.frames.items ≡ length e.frames.items = ap (λ (y : Search). length y.frames.items) kept in
        last_after f o (after_behind e d f o (omega (arith, same)) (ap (λ (y : Search). y.budgets) kept) (keeps_choices e d kept) after)

    pub more_goal : IsIn d.store at
    more_goal = subst (λ (y : Search). IsIn y.store at) (sym kept) line_goal

    pub more_places : All (IsIn d.store) ps.items
    more_places = subst (λ (y : Search). All (IsIn y.store) ps.items) (sym kept) line_places

  module _ (rest : ℕ) (t : Setting) (view : IsView t.view) (known : AreHeld x.held t.view.names) where
    abbrev v : View
    v = t.view

    abbrev l : Limits
    l = limits_in t b

    abbrev s : State
    s = state_in t b

    abbrev n : Node
    n = node_of v b rest

    abbrev g : Tree
    g = reads v x.store at

    abbrev us : Trees
    us = terms_at x.held e.store ps.items

    read_as : (arguments g ≡ x.terms) × (lines_of g ≡ x.lines)
    read_as = m.read_as v view known

    node_same : node_of v e rest ≡ n
    node_same =
        node_still e x.store e.store makes.adds m.whole makes.others v rest e.store.used
        ∙ ap (node_at (reads v x.store) (tasks e.frames.items rest) e.answer.items) (makes.used ∙ add-zero x.store.used)

    state_same : state_in t e ≡ s
    state_same = ap (λ cs. record s { choices = cs }) (line_choices v)

    goal_same : reads v e.store at ≡ g
    goal_same = ap (spelled (text_of v.names)) (makes.others at m.inside)

    places_same : trees (map (reads v e.store) ps.items) ≡ us
    places_same = terms_read v e.store ps.items ∙ sym (places_read x.held v known e.store ps.items placed)

    gone : back_result t b (Answers at x.from rest) ≡ next_answer l s n (proc_of g) (arguments g) (plain_answer us ∷ line.later)
    gone =
        ap (next_answer l s n (proc_of g) (arguments g))
        (ap₂ (λ ts xs. unifying ts (drop x.from xs)) read_as.0 read_as.1 ∙ line.first)

    abbrev pub IsTried : List Place → Search → Search → Outcome → Type 0
    IsTried qs d f o =
        let r = reads v d.store in
        result_in t f (node_of v d rest) (proc_of g) o
        ≡ answer_tried (limits_in t d) (state_in t d) (node_of v d rest) (proc_of g) (arguments (r at)) (plain_answer (trees (map r qs)))

    -- The last one.
    pub last_gone : following ≡ None → (f : Search) (o : Outcome) → IsTried ps.items e f o
        → result_in t f n (proc_of g) o ≡ back_result t b (Answers at x.from rest)
    last_gone is f o tried =
        let none : line.later ≡ [] = subst (IsLater x.terms x.lines line.later) is line.rest in
        ap (λ k. result_in t f k (proc_of g) o) (sym node_same)
        ∙ tried
        ∙ tried_same l (state_in t e) s (node_of v e rest) n (proc_of g) (arguments (reads v e.store at)) (arguments g) (trees (map (reads v e.store) ps.items)) us
        state_same node_same (ap arguments goal_same) places_same
        ∙ sym (gone ∙ next_last l s n (proc_of g) (arguments g) (plain_answer us) line.later none)

    -- One before others, which are a choice point.
    pub more_gone : (k : ℕ) → following ≡ Some k → (d : Search) → (let y : Search = record e { choices = d.choices } in d ≡ y)
        → choices_of v d ≡ choice_at v (reads v e.store) (node_of v e rest) (AnswersLeft at k) ∷ choices_of v e
        → (f : Search) (o : Outcome) → IsTried ps.items d f o
        → result_in t f n (proc_of g) o ≡ back_result t b (Answers at x.from rest)
    more_gone k is d kept made f o tried =
        let more = subst (IsLater x.terms x.lines line.later) is line.rest in
        let left : unifying (arguments g) (drop k (lines_of g)) ≡ line.later = ap₂ (λ ts xs. unifying ts (drop k xs)) read_as.0 read_as.1 ∙ sym more.0 in
        let choice : answers_from (reads v e.store at) k (node_of v e rest) ≡ answers (proc_of g) (arguments g) line.later n =
        ap₂ (λ y j. answers_from y k j) goal_same node_same ∙ ap (λ xs. answers (proc_of g) (arguments g) xs n) left in
        let cs : choices_of v d ≡ answers (proc_of g) (arguments g) line.later n ∷ s.choices = made ∙ ap₂ (λ c older. c ∷ older) choice (line_choices v) in
        let after : State = record s { choices = answers (proc_of g) (arguments g) line.later n ∷ s.choices } in
        let state_is : state_in t d ≡ after =
        state_by t.doing t.doing (choices_of v d) (answers (proc_of g) (arguments g) line.later n ∷ s.choices) d.next_variable e.next_variable d.inferences e.inferences t.output
        refl cs (ap (λ (y : Search). y.next_variable) kept) (ap (λ (y : Search). y.inferences) kept) in
        ap (λ j. result_in t f j (proc_of g) o) (sym node_same)
        ∙ ap (λ (y : Search). result_in t f (node_of v y rest) (proc_of g) o) (sym kept)
        ∙ tried
        ∙ ap (λ (y : Search). answer_tried (limits_in t y) (state_in t d) (node_of v y rest) (proc_of g) (arguments (reads v y.store at)) (plain_answer (trees (map (reads v y.store) ps.items))))
        kept
        ∙ tried_same l (state_in t d) after (node_of v e rest) n (proc_of g) (arguments (reads v e.store at)) (arguments g) (trees (map (reads v e.store) ps.items)) us
        state_is node_same (ap arguments goal_same) places_same
        ∙ sym (gone ∙ next_more l s n (proc_of g) (arguments g) (plain_answer us) line.later more.1)

with_table : (l : Limits) (s : State) (n : Node) (p : Proc) (ts : Trees) (xs : List Answer) → with_row l s n p ts (table xs) ≡ first_answer l s n p ts (unifying ts xs)
unfolding with_row
with_table l s n p ts xs = refl

-- The first of them, as the goal is called.
module _ (x : Origin) (at : Place) (e : Search) (ps : Vec Place Global) (following : Option ℕ) (m : IsRowMade x at e (Line ps following)) where
  pub given_lines : (xs : List Answer) × (x.row ≡ table xs) × IsRow x.store e.next_variable x.terms (lined x.terms xs zero) x.after e.store (Line ps following)
  given_lines = line_gives x.store e.next_variable x.terms x.after e.store x.predicate x.store.used x.store.budget ps following x.row m.made

  abbrev pub first_origin : LineOrigin
  first_origin = record { store = x.store; held = x.after; terms = x.terms; lines = given_lines.0; from = zero }

  pub first_made : IsNextMade first_origin at e (Line ps following)
  first_made =
      record {
        whole = m.whole;
        inside = m.inside;
        read_as =
            λ v view known. (
              ap arguments (sym (read_held x.before v (λ a text h. known a text (m.later a text h)) x.store at m.held)) ∙ m.arguments,
              (m.of_table v view known).1 given_lines.0 given_lines.1,
            );
        made = given_lines.2;
      }

  pub first_whole : IsWhole e
  first_whole = line_whole first_origin at e ps following first_made

  pub first_full_after : IsAfter (as_before x e) e (Raise Choices)
  first_full_after = record { budgets = refl; inside = (tt, line_keeps first_origin at e ps following first_made) }

  module _ (rest : ℕ) (t : Setting) (view : IsView t.view) (known : AreHeld x.after t.view.names) where
    abbrev was : Search
    was = as_before x e

    abbrev here : State
    here = state_in t was

    abbrev node : Node
    node = node_of t.view was rest

    abbrev goal : Tree
    goal = reads t.view x.store at

    abbrev definition : State
    definition = with_row (limits_in t was) here node x.predicate (arguments goal) x.row

    abbrev next : State
    next = next_answer (limits_in t was) here node x.predicate (arguments goal) (unifying (arguments goal) given_lines.0)

    test_is : (several (unifying (arguments goal) given_lines.0) && nat_le e.budgets.choices (length here.choices))
        ≡ (is_some following && nat_le e.budgets.choices (length e.choices.items))
    test_is =
        let k = first_made.read_as t.view view known in
        let line = first_made.made.0 in
        ap₂ (λ a c. a && nat_le e.budgets.choices c)
        (ap (λ ts. several (unifying ts given_lines.0)) k.0 ∙ ap several line.first
        ∙ several_is x.terms given_lines.0 (plain_answer (terms_at x.after e.store ps.items)) line.later following line.rest)
        (length_choices t.view was)

    defined_as : (full : Bool) → full ≡ (is_some following && nat_le e.budgets.choices (length e.choices.items))
        → definition ≡ cond full (raised here node no_choices x.predicate) next
    defined_as full is =
        ap (with_row (limits_in t was) here node x.predicate (arguments goal)) given_lines.1
        ∙ with_table (limits_in t was) here node x.predicate (arguments goal) given_lines.0
        ∙ ap (λ c. cond c (raised here node no_choices x.predicate) next) (test_is ∙ sym is)

    pub first_full : (full : Bool) → full ≡ (is_some following && nat_le e.budgets.choices (length e.choices.items)) → full ≡ true
        → result_in t e node x.predicate (Raise Choices) ≡ definition
    first_full full is holds =
        ap (λ cs. record here { choices = cs; doing = throwing (error_ball no_choices x.predicate) node.goals })
        (line_choices first_origin at e ps following first_made t.view)
        ∙ sym (defined_as full is ∙ ap (λ c. cond c (raised here node no_choices x.predicate) next) holds)

    pub first_gone : (full : Bool) → full ≡ (is_some following && nat_le e.budgets.choices (length e.choices.items)) → full ≡ false
        → (f : Search) (o : Outcome) → IsGoneBack first_origin at rest e f o → result_in t f node x.predicate o ≡ definition
    first_gone full is fails f o back =
        let named : proc_of goal ≡ x.predicate = (m.of_table t.view view known).0 in
        let lines : lines_of goal ≡ given_lines.0 = (first_made.read_as t.view view known).1 in
        ap (λ p. result_in t f node p o) (sym named)
        ∙ back t view known
        ∙ ap₂ (λ p xs. next_answer (limits_in t was) here node p (arguments goal) (unifying (arguments goal) xs)) named lines
        ∙ sym (defined_as full is ∙ ap (λ c. cond c (raised here node no_choices x.predicate) next) fails)
