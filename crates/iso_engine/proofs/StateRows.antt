-- Rows of goals of the shared state, as steps of a search.
use Rattle.std.proofs.Common.{◌≡◌, ℕ, suc, ◌<◌, ◌≤◌, true, false, cond, List, [], ◌∷◌, map, nat_lt, Option, Some, None, IsSome, is_some, refl, sym, ap, ap₂, subst, ◌∙◌, arith, pos, zero}
use Rattle.std.proofs.lemmas.Bool.{le-ltb, lt-ltb, true≢false}
use Rattle.std.specs.List.{All}
use Rattle.std.proofs.lemmas.List.Elements.{All-head, All-tail}
use Rattle.pl_term.specs.Tree.{Chars, Tree, Trees, atom, int, none, more}
use Rattle.pl_model.specs.Balls.{error_ball, indicator, no_inferences}
use Rattle.pl_model.specs.BuiltinRows as rows
use Rattle.pl_model.specs.BuiltinRows.{plain_answer, unifying}
use Rattle.pl_model.specs.Builtins.{row}
use Rattle.pl_model.specs.Control.{costing, first_answer, name_of, raised, take_up, with_other, with_row, with_shared}
use Rattle.pl_model.specs.History.{Proc, proc}
use Rattle.pl_model.specs.Predicates.{proc_of}
use Rattle.pl_model.specs.Requests.{Reply, Request}
use Rattle.pl_model.specs.Resolution.{Limits, Next, Node, State, asks, goes}
use Rattle.pl_model.specs.SharedBuiltins.{Shared, asks_for, gives_row, shared}
use Rattle.pl_model.specs.Terms.{arguments}
use Rattle.atom_api.specs.Fixed.{fixed}
use Rattle.atom_api.specs.Names.{FixedStand, Names}
use Rattle.term_store.specs.Heap.{atom_name}
use Rattle.term_store.specs.Contents.{Contents}
use Rattle.world_api.specs.Texts.{Holds}
use Rattle.world_builtins.specs.Naming.{IsHeldAt}
use Rattle.world_builtins.specs.Spelling as written
use Rattle.builtin_rows.specs.Given.{given, thrown}
use Rattle.builtin_rows.specs.Rows.{IsRow, IsSingle}
use Rattle.builtin_rows.specs.declared.row.Row.{Row}
use Rattle.builtin_rows.specs.declared.row.Row.TheVariants.{Fails, Holds as HoldsRow, Answer, Line, Ball, CellsFull, NeedsAtoms, Retry, Worn}
use Rattle.iso_search.specs.declared.outcome.Fault.TheVariants.{Inferences}
use Rattle.iso_search.specs.declared.outcome.Outcome.{Outcome}
use Rattle.iso_search.specs.declared.outcome.Outcome.TheVariants.{Raise}
use Rattle.iso_search.specs.declared.search.Search.{Search}
use Rattle.iso_search.specs.Outcomes.{IsAfter, Setting, limits_in, result_in, state_in}
use Rattle.iso_search.specs.Reading.{IsView, View, reads}
use Rattle.iso_search.specs.Searching.{IsWhole, node_of}
use Rattle.iso_search.specs.Spelling.{or_no_text, text_of}
use Rattle.iso_search.specs.Told.{constant_term, line_answer, told_answers}
use Rattle.iso_search.specs.declared.told.Constant.{Constant}
use Rattle.iso_search.specs.declared.told.Constant.TheVariants.{Int, Atom}
use Rattle.iso_search.specs.declared.told.Line.{Line as ToldLine}
use Rattle.iso_search.specs.declared.told.Line.TheVariants.{Indicator, Flag, Operator}
use Rattle.iso_search.proofs.Naming.{text_is}
use Rattle.shared_builtins.specs.declared.goal.StateGoal.{StateGoal}
use Rattle.shared_builtins.specs.declared.preds.StatePred.{StatePred}
use Rattle.shared_builtins.specs.declared.preds.StatePred.TheVariants.{One, Two, Three}
use Rattle.shared_builtins.specs.declared.faults.Fault.{Fault}
use Rattle.shared_builtins.specs.Faults.{IsFaultHeld, fault_term}
use Rattle.shared_builtins.specs.Goals.{IsStateGoal, arity_of}
use Rattle.shared_builtins.specs.Replies.{IsConstantHeld, IsLineHeld}
use Rattle.shared_builtins.specs.Telling.{TellsAtoms}
use Rattle.iso_engine.specs.Leading.{IsOfTable, IsRowMade, Origin}
use Rattle.iso_engine.specs.State.{IsAlone, IsRowLed, IsStateAt}
use Rattle.iso_engine.specs.Wrote.{taken}
use Rattle.iso_engine.proofs.OutputSteps.{read_held}
use Rattle.iso_engine.proofs.Procedures.{compound_proc}

-- The goal

some_arguments : (p : StatePred) (k : ℕ) → k ≡ arity_of p → 0 < k
some_arguments (One p) k is = omega (arith, is)
some_arguments (Two p) k is = omega (arith, is)
some_arguments (Three p) k is = omega (arith, is)

pub state_proc : (v : View) (s : Contents) (x : StateGoal) → IsStateGoal s x
    → proc_of (reads v s x.place) ≡ record { name = text_of v.names (atom_name x.name); arity = x.arguments.count }
state_proc v s x at =
    compound_proc v s x.place x.name x.arguments.count x.arguments at.means at.inside (some_arguments x.pred x.arguments.count at.predicate.1) refl

abbrev pub by_names : Names → View
by_names n = record { names = n; all = λ goal g. []; left = λ goal g place. [] }

pub by_names_view : (n : Names) → TellsAtoms n → IsView (by_names n)
by_names_view n tells = record { fixed = tells.naming.stands; apart = tells.apart }

-- The goal as the atoms that are held spell it.
pub written_proc : (n : Names) → TellsAtoms n → (s : Contents) (x : StateGoal) → IsStateGoal s x → IsHeldAt n s x.place → (f : Chars) → fixed x.name ≡ Some f
    → proc_of (written.reads n s x.place) ≡ proc f (arity_of x.pred)
written_proc n tells s x at held f is =
    let v = by_names n
    in ap proc_of (read_held n v (λ a y h. h) s x.place held)
    ∙ state_proc v s x at
    ∙ ap₂ proc (text_is v (by_names_view n tells) x.name f is) at.predicate.1

-- Rows

abbrev pub origin_of : Names → Contents → StateGoal → rows.Row → Origin
origin_of n s x d =
    record { store = s; before = n; after = n; predicate = proc_of (written.reads n s x.place); terms = arguments (written.reads n s x.place); row = d }

pub of_no_table : (x : Origin) (goal : Rattle.term_store.specs.declared.words.Place.Place) (row : Row) → IsSingle row → IsOfTable x goal row
of_no_table x goal (Line ps following) h = absurd h
of_no_table x goal Fails h = tt
of_no_table x goal HoldsRow h = tt
of_no_table x goal (Answer ps fresh) h = tt
of_no_table x goal (Ball w) h = tt
of_no_table x goal (CellsFull used need) h = tt
of_no_table x goal (NeedsAtoms p) h = tt
of_no_table x goal (Retry c) h = tt
of_no_table x goal (Worn w) h = tt

-- The row was made for the goal of the search `e`.
module _ (n : Names) (e : Search) (x : StateGoal) (d : rows.Row) (whole : IsWhole e) (at : IsStateGoal e.store x) (held : IsHeldAt n e.store x.place) where
  abbrev g : Tree
  g = written.reads n e.store x.place

  abbrev pub IsMadeRow : Contents → Row → Type 0
  IsMadeRow t r = IsRow e.store e.next_variable (arguments g) (given (proc_of g) (arguments g) e.next_variable e.store.used e.store.budget d) n t r

  pub made_here : (t : Contents) (r : Row) → IsMadeRow t r → IsSingle r → (let y : Search = record e { store = t } in IsRowMade (origin_of n e.store x d) x.place y r)
  made_here t r made single =
      record {
        whole = whole;
        inside = at.holds;
        held = held;
        later = λ a y h. h;
        arguments = refl;
        made = made;
        of_table = of_no_table (origin_of n e.store x d) x.place r single;
      }

  pub led_by : (f : Search) (rest : ℕ) (o : Outcome)
      → ((s : Setting) → IsView s.view → Holds n s.view.names
      → result_in s f (node_of s.view e rest) (proc_of g) o
      ≡ with_row (limits_in s e) (state_in s e) (node_of s.view e rest) (proc_of g) (arguments (reads s.view e.store x.place)) d)
      → IsRowLed n e x rest d f o
  led_by f rest o step s view known =
      let same : g ≡ reads s.view e.store x.place = read_held n s.view known e.store x.place held
      in subst
      (λ (p : Proc). result_in s f (node_of s.view e rest) p o
      ≡ with_row (limits_in s e) (state_in s e) (node_of s.view e rest) p (arguments (reads s.view e.store x.place)) d)
      (ap proc_of same) (step s view known)

-- An error is a ball.
pub error_row : (n : Names) (tells : TellsAtoms n) (e : Search) (x : StateGoal) (error : Tree) (whole : IsWhole e) (at : IsStateGoal e.store x) (held : IsHeldAt n e.store x.place)
    (t : Contents) (r : Row) (f : Chars) → fixed x.name ≡ Some f
    → IsRow e.store e.next_variable (arguments (written.reads n e.store x.place)) (thrown (error_ball error (proc f (arity_of x.pred)))) n t r
    → IsMadeRow n e x (rows.error error) whole at held t r
unfolding given
error_row n tells e x error whole at held t r f is made =
    subst (λ (p : Proc). IsRow e.store e.next_variable (arguments (written.reads n e.store x.place)) (thrown (error_ball error p)) n t r)
    (sym (written_proc n tells e.store x at held f is)) made

-- An error of the predicate, raised.
pub fault_row : (n : Names) (tells : TellsAtoms n) (e : Search) (x : StateGoal) (fault : Fault) (whole : IsWhole e) (at : IsStateGoal e.store x) (held : IsHeldAt n e.store x.place)
    → IsFaultHeld n e.store fault → (t : Contents) (r : Row) (arity : ℕ) → arity ≡ arity_of x.pred
    → ((m : Names) (p : Chars) (next : ℕ) (ts : Trees) → FixedStand m → IsFaultHeld m e.store fault → fixed x.name ≡ Some p
    → IsRow e.store next ts (thrown (error_ball (fault_term m e.store fault) (proc p arity))) m t r)
    → IsMadeRow n e x (rows.error (fault_term n e.store fault)) whole at held t r
fault_row n tells e x fault whole at held fault_held t r arity is raises =
    let named = at.predicate.0 in
    error_row n tells e x (fault_term n e.store fault) whole at held t r named.0 named.1
    (subst (λ k. IsRow e.store e.next_variable (arguments (written.reads n e.store x.place)) (thrown (error_ball (fault_term n e.store fault) (proc named.0 k))) n t r) is
    (raises n named.0 e.next_variable (arguments (written.reads n e.store x.place)) tells.naming.stands fault_held named.1))

-- Lines that were told

held_text : (n m : Names) → Holds n m → (a : ℕ) → IsSome (n a) → text_of n (atom_name a) ≡ text_of m (atom_name a)
held_text n m grown a some = go (n a) refl some
  where
    go : (o : Option Chars) → n a ≡ o → IsSome (n a) → text_of n (atom_name a) ≡ text_of m (atom_name a)
    go None e there = absurd (true≢false (sym there ∙ ap is_some e))
    go (Some t) e there = ap (or_no_text (a ∷ [])) e ∙ sym (ap (or_no_text (a ∷ [])) (grown a t e))

constant_same : (n m : Names) → Holds n m → (c : Constant) → IsConstantHeld n c → constant_term n c ≡ constant_term m c
constant_same n m grown (Int i) h = refl
constant_same n m grown (Atom a) h = ap atom (held_text n m grown a h)

line_same : (n m : Names) → Holds n m → (l : ToldLine) → IsLineHeld n l → line_answer n l ≡ line_answer m l
line_same n m grown (Indicator f k) h =
    ap (λ (t : Chars). let a : rows.Answer = record { terms = more (indicator (record { name = t; arity = k })) none; fresh = zero; made = 3 } in a) (held_text n m grown f h)
line_same n m grown (Flag f v) h =
    ap₂ (λ (t : Chars) (u : Tree). plain_answer (more (atom t) (more u none))) (held_text n m grown f h.0) (constant_same n m grown v h.1)
line_same n m grown (Operator p k f) h =
    ap₂ (λ (t u : Chars). plain_answer (more (int (pos p)) (more (atom t) (more (atom u) none)))) (held_text n m grown k h.0) (held_text n m grown f h.1)

lines_same : (n m : Names) → Holds n m → (ls : List ToldLine) → All (IsLineHeld n) ls → map (line_answer n) ls ≡ map (line_answer m) ls
lines_same n m grown [] h = refl
lines_same n m grown (l ∷ ls) h =
    ap₂ (λ a as₁. a ∷ as₁) (line_same n m grown l (All-head (IsLineHeld n) l ls h)) (lines_same n m grown ls (All-tail (IsLineHeld n) l ls h))

pub table_led : (n : Names) (e y : Search) → y ≡ e → (x : StateGoal) (ls : List ToldLine) → All (IsLineHeld n) ls → (d : rows.Row) → d ≡ rows.table (map (line_answer n) ls)
    → (f : Search) (rest : ℕ) (o : Outcome)
    → ((s : Setting) → IsView s.view
    → (let g = reads s.view y.store x.place in let k = node_of s.view y rest in
    result_in s f k (proc_of g) o ≡ first_answer (limits_in s y) (state_in s y) k (proc_of g) (arguments g) (told_answers s.view.names g ls 0)))
    → IsRowLed n e x rest d f o
unfolding with_row
table_led n e y same x ls held d is f rest o step s view known =
    let g = reads s.view e.store x.place in
    let k = node_of s.view e rest in
    subst (λ (z : Search). let h = reads s.view z.store x.place in result_in s f (node_of s.view z rest) (proc_of h) o
    ≡ first_answer (limits_in s z) (state_in s z) (node_of s.view z rest) (proc_of h) (arguments h) (told_answers s.view.names h ls 0)) same (step s view)
    ∙ ap (λ xs. first_answer (limits_in s e) (state_in s e) k (proc_of g) (arguments g) (unifying (arguments g) xs)) (sym (lines_same n s.view.names known ls held))
    ∙ ap (with_row (limits_in s e) (state_in s e) k (proc_of g) (arguments g)) (sym is)

-- The step

pub no_inference : (l : Limits) (q : State) (k : Node) (h : Tree) (next : State → Next) → nat_lt q.inferences l.inferences ≡ false
    → costing l q k h next ≡ goes (raised q k no_inferences (proc_of h))
no_inference l q k h next spent = ap (λ b. cond b (next (record q { inferences = suc q.inferences })) (goes (raised q k no_inferences (proc_of h)))) spent

pub one_inference : (l : Limits) (q : State) (k : Node) (h : Tree) (next : State → Next) → nat_lt q.inferences l.inferences ≡ true
    → costing l q k h next ≡ next (record q { inferences = suc q.inferences })
one_inference l q k h next some = ap (λ b. cond b (next (record q { inferences = suc q.inferences })) (goes (raised q k no_inferences (proc_of h)))) some

-- The search in which an inference more was made.
abbrev pub counted_in : Search → Search
counted_in e = record e { inferences = suc e.inferences }

pub counted_whole : (e : Search) → IsWhole e → IsWhole (counted_in e)
counted_whole e h = record { base = h.base; rests = h.rests; budget = h.budget; above = h.above; older = h.older }

pub counted_again : (e : Search) (s : Contents) (k : ℕ) → s ≡ e.store → k ≡ suc e.inferences → (let y : Search = record e { store = s; inferences = k } in y ≡ counted_in e)
counted_again e s k is count = ap₂ (λ c i. let y : Search = record e { store = c; inferences = i } in y) is count

module _ (e : Search) (x : StateGoal) (rest : ℕ) (at : IsStateAt e.store x) where
  takes : (s : Setting) (h : ℕ) → IsView s.view
      → (let k = node_of s.view e rest in let g = reads s.view e.store x.place in
      taken s e x.place rest h
      ≡ costing (limits_in s e) (state_in s e) k g (λ q. with_other (limits_in s e) q k g (row (name_of g) (arguments g) q.next)))
  unfolding take_up
  takes s h view =
      let k = node_of s.view e rest
      in let g = reads s.view e.store x.place
      in ap (take_up (limits_in s e) (state_in s e) k g h) (at.other_is s.view view)

  -- No inference can be made.
  pub spent_alone : (n : Names) → e.budgets.inferences ≤ e.inferences → IsAfter e e (Raise Inferences) → IsAlone n e x rest e (Raise Inferences)
  spent_alone n most after =
      record {
        leads =
            λ s h view known.
            let k = node_of s.view e rest
            in let g = reads s.view e.store x.place
            in takes s h view
            ∙ no_inference (limits_in s e) (state_in s e) k g (λ q. with_other (limits_in s e) q k g (row (name_of g) (arguments g) q.next)) (le-ltb e.inferences e.budgets.inferences most);
        after = after;
      }

  -- An inference can be made.
  module _ (count : e.inferences < e.budgets.inferences) where
    taken_shared : (s : Setting) (h : ℕ) → IsView s.view
        → (let k = node_of s.view e rest in let g = reads s.view e.store x.place in
        taken s e x.place rest h ≡ with_shared (limits_in s e) (state_in s (counted_in e)) k g (shared (name_of g) (arguments g)))
    taken_shared s h view =
        let l = limits_in s e
        in let k = node_of s.view e rest
        in let g = reads s.view e.store x.place
        in takes s h view
        ∙ one_inference l (state_in s e) k g (λ q. with_other l q k g (row (name_of g) (arguments g) q.next)) (lt-ltb e.inferences e.budgets.inferences count)
        ∙ ap (with_other l (state_in s (counted_in e)) k g) (at.no_row s.view view e.next_variable)

    -- What the definition makes of the goal as the atoms that are held spell it.
    module _ (n : Names) (held : IsHeldAt n e.store x.place) where
      abbrev h : Tree
      h = written.reads n e.store x.place

      taken_as : (o : Option Shared) → shared (name_of h) (arguments h) ≡ o → (s : Setting) (cut : ℕ) → IsView s.view → Holds n s.view.names
          → (let k = node_of s.view e rest in let g = reads s.view e.store x.place in
          taken s e x.place rest cut ≡ with_shared (limits_in s e) (state_in s (counted_in e)) k g o)
      taken_as o is s cut view known =
          let g = reads s.view e.store x.place
          in taken_shared s cut view
          ∙ ap (λ (y : Tree). with_shared (limits_in s e) (state_in s (counted_in e)) (node_of s.view e rest) g (shared (name_of y) (arguments y)))
          (sym (read_held n s.view known e.store x.place held))
          ∙ ap (with_shared (limits_in s e) (state_in s (counted_in e)) (node_of s.view e rest) g) is

      -- Nothing is asked.
      pub row_alone : (d : rows.Row) → shared (name_of h) (arguments h) ≡ Some (gives_row d) → (f : Search) (o : Outcome) → IsRowLed n (counted_in e) x rest d f o → IsAfter e f o
          → IsAlone n e x rest f o
      row_alone d is f o leads after =
          record {
            leads = λ s cut view known. taken_as (Some (gives_row d)) is s cut view known ∙ ap goes (sym (leads s view known));
            after = after;
          }

      -- A request is made.
      abbrev pub next_of : (Reply → ℕ → rows.Row) → Setting → Reply → State
      next_of r s reply =
          let g = reads s.view e.store x.place
          in with_row (limits_in s e) (state_in s (counted_in e)) (node_of s.view e rest) (proc_of g) (arguments g) (r reply e.next_variable)

      pub taken_asks : (q : Request) (r : Reply → ℕ → rows.Row) → shared (name_of h) (arguments h) ≡ Some (asks_for q r) → (s : Setting) (cut : ℕ) → IsView s.view
          → Holds n s.view.names → taken s e x.place rest cut ≡ asks q (next_of r s)
      taken_asks q r is s cut view known = taken_as (Some (asks_for q r)) is s cut view known
