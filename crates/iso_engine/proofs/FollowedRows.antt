-- What a row of places leads to is the step of the definition.
use Rattle.std.proofs.Common.{◌≡◌, ℕ, zero, true, false, ◌+◌, ◌<◌, ◌^◌, List, [], ◌∷◌, map, Option, Some, None, refl, sym, ap, ap₂, subst, ◌∙◌, add-zero, arith}
use Rattle.std.specs.List.{All}
use Rattle.std.specs.Option.{option_map}
use Rattle.std.proofs.lemmas.List.Elements.{All-head, All-tail}
use Rattle.pl_term.specs.Tree.{Chars, Tree, Trees, var, int, atom, comp, more, trees}
use Rattle.pl_model.specs.Balls.{error_ball, no_cells}
use Rattle.pl_model.specs.Control.{failed, first_answer, unified, with_row}
use Rattle.pl_model.specs.History.{Proc}
use Rattle.pl_model.specs.Resolution.{Doing, Limits, Node, Pending, State, collected_cells, collect, commit, failing, goal, leave, node_instance, pending_instance, refute, running, throwing}
use Rattle.pl_model.specs.Terms.{arguments}
use Rattle.pl_model.specs.Unify.{Bindings, bound, solve_all}
use Rattle.pl_model.proofs.UnifyTurns.{solve-same}
use Rattle.atom_api.specs.Names.{Names}
use Rattle.term_store.specs.declared.words.Place.{Place}
use Rattle.term_store.specs.Contents.{Adds, Contents, Holds as IsIn, IsAbove, SameSize, term_at}
use Rattle.term_store.proofs.Storing.{above_of}
use Rattle.world_api.specs.Texts.{Holds as AreHeld}
use Rattle.world_builtins.specs.Naming.{IsHeldAt}
use Rattle.world_builtins.specs.Spelling as written
use Rattle.iso_search.specs.declared.outcome.Fault.TheVariants.{Cells}
use Rattle.iso_search.specs.declared.outcome.Outcome.TheVariants.{Fail, Raise, Run, Throw}
use Rattle.iso_search.specs.declared.search.Search.{Search}
use Rattle.iso_search.specs.Frames.{tasks}
use Rattle.iso_search.specs.Outcomes.{IsAfter, Setting, limits_in, result_in, state_in}
use Rattle.iso_search.specs.Reading.{IsView, View, reads}
use Rattle.iso_search.specs.Searching.{IsWhole, choices_of, node_of, state_of}
use Rattle.iso_search.specs.Spelling.{spelled, spelled_all, spelled_bindings, text_of}
use Rattle.iso_search.proofs.Instances.{node-bound}
use Rattle.iso_search.proofs.Over.{state_by}
use Rattle.iso_search.proofs.Spelt.{bound-spelled, solve_all-spelled}
use Rattle.iso_engine.proofs.OutputSteps.{read_held}
use Rattle.builtin_rows.specs.declared.row.Places.{Places}
use Rattle.builtin_rows.specs.declared.row.Row.{Row}
use Rattle.builtin_rows.specs.declared.row.Row.TheVariants.{Answer, Ball, CellsFull, Fails, Holds}
use Rattle.builtin_rows.specs.Given.{Given, answered, full, given, lined, thrown}
use Rattle.builtin_rows.specs.Rows.{ArePlaced, IsRow, Makes, listed, terms_at}
use Rattle.iso_engine.specs.Leading.{AreUnified, IsRowMade, Origin, as_before}
use Rattle.iso_engine.proofs.Giving.{answer_gives, ball_gives, full_gives, given_beside, holds_gives}
use Rattle.iso_engine.proofs.Grown.{choices_still, keeps_tasks, node_still, over, whole_still}
use Rattle.iso_engine.proofs.Led.{LedTo, led}
use Rattle.iso_engine.proofs.Paired.{adds_on}

-- Arguments as they are read

pub arguments_spelled : (g : Chars → Chars) (t : Tree) → arguments (spelled g t) ≡ spelled_all g (arguments t)
arguments_spelled g (var x) = refl
arguments_spelled g (int i) = refl
arguments_spelled g (atom a) = refl
arguments_spelled g (comp f t ts) = refl

-- The node to which no bindings were made.

bound_none : (ts : List Tree) → map (bound []) ts ≡ ts
bound_none [] = refl
bound_none (t ∷ ts) = ap (λ us. t ∷ us) (bound_none ts)

pending_none : (p : Pending) → pending_instance [] p ≡ p
pending_none (goal t h) = refl
pending_none (commit h) = refl
pending_none (refute h) = refl
pending_none (leave h) = refl
pending_none (collect t h) = refl

pendings_none : (ps : List Pending) → map (pending_instance []) ps ≡ ps
pendings_none [] = refl
pendings_none (p ∷ ps) = ap₂ (λ q qs. q ∷ qs) (pending_none p) (pendings_none ps)

pub instance_none : (n : Node) → node_instance [] n ≡ n
instance_none n = ap₂ (λ ps ts. record { goals = ps; answer = ts; used = n.used }) (pendings_none n.goals) (bound_none n.answer)

pub themselves : (ts : Trees) → solve_all [] ts ts ≡ Some []
unfolding solve_all
themselves ts = solve-same _ [] ts

-- The terms at places whose atoms are held.
pub places_read : (n : Names) (v : View) → AreHeld n v.names → (t : Contents) (ps : List Place) → ArePlaced n t ps
    → terms_at n t ps ≡ spelled_all (text_of v.names) (trees (map (term_at t) ps))
places_read n v grown t ps placed = go ps placed.held
  where
    go : (qs : List Place) → All (IsHeldAt n t) qs → terms_at n t qs ≡ spelled_all (text_of v.names) (trees (map (term_at t) qs))
    go [] all = refl
    go (q ∷ qs) all =
        ap₂ more (read_held n v grown t q (All-head (IsHeldAt n t) q qs all)) (go qs (All-tail (IsHeldAt n t) q qs all))

module _ (x : Origin) (at : Place) (e : Search) (row : Row) (m : IsRowMade x at e row) where
  abbrev b : Search
  b = as_before x e

  abbrev told : Given
  told = given x.predicate x.terms e.next_variable x.store.used x.store.budget x.row

  module _ (t : Setting) (known : AreHeld x.after t.view.names) (rest : ℕ) where
    abbrev v : View
    v = t.view

    abbrev l : Limits
    l = limits_in t b

    abbrev s : State
    s = state_in t b

    abbrev n : Node
    n = node_of v b rest

    abbrev p : Proc
    p = x.predicate

    abbrev ts : Trees
    ts = arguments (reads v x.store at)

    terms_are : x.terms ≡ ts
    terms_are = sym m.arguments ∙ ap arguments (read_held x.before v (λ a text h. known a text (m.later a text h)) x.store at m.held)

    told_is : given p ts s.next (n.used + collected_cells s.choices) l.cells x.row ≡ told
    told_is =
        ap₂ (λ us k. given p us s.next (n.used + collected_cells s.choices) k x.row) (sym terms_are) (sym (m.whole.budget v))
        ∙ given_beside p x.terms e.next_variable x.store.used x.store.budget (collected_cells s.choices) x.row

    -- The step of the definition, by what is given.
    led_by : (g : Given) → told ≡ g → LedTo l s n p ts (with_row l s n p ts x.row) g
    led_by g is = subst (LedTo l s n p ts (with_row l s n p ts x.row)) (told_is ∙ is) (led l s n p ts x.row)

    -- The state of a search that differs in its store and the next number of a variable.
    state_still : (u : Contents) (next : ℕ) (d : Doing) → Adds x.store u
        → state_of v (over e u next) d t.output ≡ record s { doing = d; next = next }
    state_still u next d adds =
        state_by d d (choices_of v (over e u next)) (choices_of v b) next next e.inferences e.inferences t.output refl
        (choices_still e x.store u adds m.whole v next) refl refl

pub adds_itself : (u : Contents) → Adds u u
adds_itself u = record { places = λ p h. h; marks = λ k h. h; back = λ k h. refl }

adds_same : (s u : Contents) → u ≡ s → Adds s u
adds_same s u is = subst (Adds s) (sym is) (adds_itself s)

pub same_size : (u : Contents) → SameSize u u
same_size u = record { numbers = refl; used = refl; budget = refl }

-- No answer is given.
fails_led : (l : Limits) (here : State) (d : Node) (p : Proc) (args : Trees) (q : State) (s : Contents) (next : ℕ) (us : Trees) (n : Names) (t : Contents) (g : Given)
    → IsRow s next us g n t Fails → LedTo l here d p args q g → (q ≡ failed here) × (t ≡ s)
fails_led l here d p args q s next us n t (answered xs f k) h to = (subst (λ ys. LedTo l here d p args q (answered ys f k)) h.0 to, h.1)
fails_led l here d p args q s next us n t (lined vs xs k) h to = (to ∙ ap (first_answer l here d p args) h.0, h.1)
fails_led l here d p args q s next us n t (thrown b) h to = absurd h
fails_led l here d p args q s next us n t (full need) h to = absurd h

-- By any view of what is held there are numbers for the new variables of an answer.
abbrev any_setting : Names → Setting
any_setting names =
    record {
      view = record { names = names; all = λ g k. []; left = λ g k w. [] };
      solutions = zero;
      stays = None;
      doing = failing;
      output = [];
    }

module _ (x : Origin) (at : Place) (e : Search) (rest : ℕ) where
  abbrev pub before : Search
  before = as_before x e

  -- The step of the definition, by a setting.
  abbrev pub row_step : Setting → State
  row_step t =
      with_row (limits_in t before) (state_in t before) (node_of t.view before rest) x.predicate (arguments (reads t.view x.store at)) x.row

  pub fails_step : IsRowMade x at e Fails → (t : Setting) → AreHeld x.after t.view.names
      → result_in t e (node_of t.view before rest) x.predicate Fail ≡ row_step t
  fails_step m t known =
      let g = told x at e Fails m in
      let k = fails_led (limits_in t before) (state_in t before) (node_of t.view before rest) x.predicate (arguments (reads t.view x.store at)) (row_step t) x.store e.next_variable
      x.terms x.after e.store g m.made (led_by x at e Fails m t known rest g refl) in
      state_still x at e Fails m t known rest e.store e.next_variable failing (adds_same x.store e.store k.1) ∙ sym k.0

  pub full_step : (used need : ℕ) → IsRowMade x at e (CellsFull used need) → (t : Setting) → AreHeld x.after t.view.names
      → result_in t e (node_of t.view before rest) x.predicate (Raise Cells) ≡ row_step t
  full_step used need m t known =
      let row = CellsFull used need in
      let k = full_gives x.store e.next_variable x.terms x.after e.store used need (told x at e row m) m.made in
      state_still x at e row m t known rest e.store e.next_variable (throwing (error_ball no_cells x.predicate) (node_of t.view before rest).goals)
      (adds_same x.store e.store k.1)
      ∙ sym (led_by x at e row m t known rest (full need) k.0)

  pub ball_step : (w : Place) → IsRowMade x at e (Ball w) → (t : Setting) → AreHeld x.after t.view.names
      → result_in t e (node_of t.view before rest) x.predicate (Throw w) ≡ row_step t
  ball_step w m t known =
      let row = Ball w in
      let k = ball_gives x.store e.next_variable x.terms x.after e.store w (told x at e row m) m.made in
      let outer = (node_of t.view before rest).goals in
      state_still x at e row m t known rest e.store e.next_variable (throwing (reads t.view e.store w) outer) k.1.0.adds
      ∙ ap (λ ball. record (state_in t before) { doing = throwing ball outer }) (sym (read_held x.after t.view known e.store w k.1.1.1))
      ∙ sym (led_by x at e row m t known rest (thrown (written.reads x.after e.store w)) k.0)

  pub holds_step : IsRowMade x at e Holds → (t : Setting) → AreHeld x.after t.view.names
      → result_in t e (node_of t.view before rest) x.predicate (Run rest) ≡ row_step t
  holds_step m t known =
      let s = state_in t before in
      let n = node_of t.view before rest in
      let ts = arguments (reads t.view x.store at) in
      let k = holds_gives x.store e.next_variable x.terms x.after e.store (told x at e Holds m) m.made in
      let q = led_by x at e Holds m t known rest (answered (x.terms ∷ []) zero zero) k.0 in
      let next : s.next + zero ≡ e.next_variable = add-zero e.next_variable in
      let used : n.used + zero ≡ x.store.used = add-zero x.store.used in
      let solved : solve_all [] ts x.terms ≡ Some [] = ap (solve_all [] ts) (terms_are x at e Holds m t known rest) ∙ themselves ts in
      state_still x at e Holds m t known rest e.store e.next_variable (running (node_of t.view e rest)) (adds_same x.store e.store k.1)
      ∙ ap (λ u. record s { doing = running (node_of t.view (record e { store = u }) rest) }) k.1
      ∙ sym
      (q.1
      ∙ ap (unified (record s { next = s.next + zero }) (record n { used = n.used + zero })) solved
      ∙ ap₂ (λ j d. record s { doing = running d; next = j }) next
      (instance_none (record n { used = n.used + zero }) ∙ ap (λ j. record n { used = j }) used))

module _ (x : Origin) (at : Place) (e : Search) (w : Place) (m : IsRowMade x at e (Ball w)) where
  thrown_ball : Makes x.store e.next_variable zero zero e.store × (IsIn e.store w × IsHeldAt x.after e.store w)
  thrown_ball = (ball_gives x.store e.next_variable x.terms x.after e.store w (told x at e (Ball w) m) m.made).1

  pub ball_whole : IsWhole e
  ball_whole =
      let makes = thrown_ball.0 in
      whole_still e x.store e.store makes.adds m.whole e.next_variable (omega arith) makes.budget
      (subst (λ k. IsAbove k e.store) (add-zero e.next_variable) (above_of x.store x.store e.store e.next_variable zero zero refl m.whole.above makes.numbers refl))

  pub ball_after : IsAfter (as_before x e) e (Throw w)
  ball_after =
      let makes = thrown_ball.0 in
      record { budgets = refl; inside = (thrown_ball.1.0, keeps_tasks e x.store e.store makes.adds m.whole makes.others e.next_variable) }

module _ (x : Origin) (at : Place) (e : Search) (ps : Places) (fresh : ℕ) (m : IsRowMade x at e (Answer ps fresh)) where
  abbrev gives : (k : ℕ)
      × ((told x at e (Answer ps fresh) m ≡ answered (terms_at x.after e.store (listed ps) ∷ []) fresh k)
      × (Makes x.store e.next_variable fresh k e.store × ArePlaced x.after e.store (listed ps)))
  gives = answer_gives x.store e.next_variable x.terms x.after e.store ps fresh (told x at e (Answer ps fresh) m) m.made

  makes : Makes x.store e.next_variable fresh gives.0 e.store
  makes = gives.1.1.0

  placed : ArePlaced x.after e.store (listed ps)
  placed = gives.1.1.1

  pub answer_goal : IsIn e.store at
  answer_goal = makes.adds.places at m.inside

  pub answer_numbers : e.next_variable + fresh < 2 ^ 64
  answer_numbers =
      (led_by x at e (Answer ps fresh) m (any_setting x.after) (λ a text h. h) zero (answered (terms_at x.after e.store (listed ps) ∷ []) fresh gives.0) gives.1.0).0

  -- The search after the answer was unified, or was not.
  module _ (u : Contents) (adds : Adds e.store u) (size : SameSize e.store u) where
    all_adds : Adds x.store u
    all_adds = adds_on x.store e.store u makes.adds adds

    pub answer_whole : IsWhole (over e u (e.next_variable + fresh))
    answer_whole =
        whole_still e x.store u all_adds m.whole (e.next_variable + fresh) (omega arith) (size.budget ∙ makes.budget)
        (above_of x.store x.store u e.next_variable fresh fresh refl m.whole.above (size.numbers ∙ makes.numbers) refl)

    module _ (t : Setting) (view : IsView t.view) (known : AreHeld x.after t.view.names) (rest : ℕ) where
      abbrev node : Node
      node = node_of t.view (as_before x e) rest

      abbrev here : State
      here = state_in t (as_before x e)

      abbrev definition : State
      definition =
          with_row (limits_in t (as_before x e)) here node x.predicate (arguments (reads t.view x.store at)) x.row

      abbrev g : Chars → Chars
      g = text_of t.view.names

      abbrev lefts : Trees
      lefts = arguments (term_at e.store at)

      abbrev rights : Trees
      rights = trees (map (term_at e.store) (listed ps))

      answer_led_by : LedTo (limits_in t (as_before x e)) here node x.predicate (arguments (reads t.view x.store at)) definition
          (answered (terms_at x.after e.store (listed ps) ∷ []) fresh gives.0)
      answer_led_by = led_by x at e (Answer ps fresh) m t known rest (answered (terms_at x.after e.store (listed ps) ∷ []) fresh gives.0) gives.1.0

      solved_read : solve_all [] (arguments (reads t.view x.store at)) (terms_at x.after e.store (listed ps))
          ≡ option_map (spelled_bindings g) (solve_all [] lefts rights)
      solved_read =
          ap₂ (solve_all [])
          (arguments_spelled g (term_at x.store at) ∙ ap (λ w. spelled_all g (arguments w)) (sym (makes.others at m.inside)))
          (places_read x.after t.view known e.store (listed ps) placed)
          ∙ solve_all-spelled g view.apart [] lefts rights

      led_on : (o : Option Bindings) → solve_all [] lefts rights ≡ o
          → definition ≡ unified (record here { next = e.next_variable + fresh }) (record node { used = x.store.used + gives.0 }) (option_map (spelled_bindings g) o)
      led_on o is =
          answer_led_by.1
          ∙ ap (unified (record here { next = e.next_variable + fresh }) (record node { used = x.store.used + gives.0 }))
          (solved_read ∙ ap (option_map (spelled_bindings g)) is)

      pub answer_fails : AreUnified false e.store lefts rights u → result_in t (over e u (e.next_variable + fresh)) node x.predicate Fail ≡ definition
      answer_fails differ =
          state_still x at e (Answer ps fresh) m t known rest u (e.next_variable + fresh) failing all_adds ∙ sym (led_on None differ)

      pub answer_runs : AreUnified true e.store lefts rights u → result_in t (over e u (e.next_variable + fresh)) node x.predicate (Run rest) ≡ definition
      answer_runs same =
          let bs : Bindings = spelled_bindings g same.0 in
          let puts : (p : Place) → reads t.view u p ≡ bound bs (reads t.view e.store p) =
          λ p. ap (spelled g) (same.1.1 p) ∙ sym (bound-spelled g same.0 (term_at e.store p)) in
          let node_is : node_of t.view (over e u (e.next_variable + fresh)) rest ≡ node_instance bs (record node { used = x.store.used + gives.0 }) =
          node-bound (reads t.view e.store) (reads t.view u) bs puts (tasks e.frames.items rest) e.answer.items (x.store.used + gives.0) u.used (size.used ∙ makes.used)
          ∙ ap (node_instance bs) (node_still e x.store e.store makes.adds m.whole makes.others t.view rest (x.store.used + gives.0)) in
          state_still x at e (Answer ps fresh) m t known rest u (e.next_variable + fresh) (running (node_of t.view (over e u (e.next_variable + fresh)) rest)) all_adds
          ∙ ap (λ d. record here { doing = running d; next = e.next_variable + fresh }) node_is
          ∙ sym (led_on (Some same.0) same.1.0)
