-- A step makes at most one inference.
use Rattle.std.proofs.Common.{◌≡◌, ℕ, suc, pos, negsuc, Bool, true, false, List, [], ◌∷◌, Option, Some, None, Result, Ok, Err, inl, inr, if◌then◌else◌, length, nat_le, nat_lt, ◌&&◌, codes, is_some, ◌+◌, ◌^◌, refl}
use Rattle.pl_term.specs.Tree.{Chars, Tree, Trees, var, int, atom, comp}
use Rattle.pl_model.specs.OperatorTable.{OperatorTable}
use Rattle.pl_model.specs.Unify.{Bindings, solve_all, unify}
use Rattle.pl_term.specs.Variables.{rename}
use Rattle.pl_model.specs.Terms.{clause_cells, arguments, extended, is_list_or_partial, is_variable, list_term, raised_by, variable_count}
use Rattle.pl_model.specs.Predicates.{proc_of}
use Rattle.pl_model.specs.Checks.{bound_error, callable_error, first_error}
use Rattle.pl_model.specs.AtomBuiltins.{character_error}
use Rattle.pl_model.specs.BodyChecks.{body_of, called_goal, clause_of_term, if_callable, rule}
use Rattle.pl_term.specs.Cells.{cells}
use Rattle.pl_model.specs.Balls.{instantiation_error, no_cells, no_choices, no_inferences, type_error}
use Rattle.pl_model.specs.History.{Proc, Clause, body_part, head_part}
use Rattle.pl_model.specs.Database.{Stored}
use Rattle.pl_model.specs.BuiltinRows.{Answer, Row, gives, table, error}
use Rattle.pl_model.specs.Builtins.{row}
use Rattle.pl_model.specs.SharedBuiltins.{Shared, gives_row, asks_for}
use Rattle.pl_model.specs.Requests.{Reply, read_operators, inspected_clauses, retracted_clauses, cleared_clauses, standing, listed, done, gone, refused}
use Rattle.pl_model.specs.Resolution.{Limits, Pending, goal, commit, refute, leave, collect, Node, Purpose, resolving, inspecting, retracting, Choice, clauses, answers, branch, barrier, catch, findall, Doing, running, failing, throwing, erasing, clearing, answering, ended, State, Next, goes, asks, stops, solved, solution_count}
use Rattle.pl_model.specs.Control.{Construct, construct, succeeds, cuts, conjunction, disjunction, if_then, if_then_else, fails, repeats, calls, not_provable, once, catches, throws, finds_all, halts, exits, inspects, retracts, clears, writes, prints, puts, other, raised, costing, fits, retractall_proc, findall_proc, pattern, tried_by, with_copy, extension_cells, run_on, before, failed, several, error_of, name_of, taking, over, checked, unified, clause_unified, tried, next_clause, first_clause, with_clauses, answer_tried, next_answer, first_answer, with_row, with_call, with_negation, with_once, with_catch, with_findall, with_throw, with_status, with_text, with_operators, with_exit, with_character, unless, with_inspection, with_retraction, with_clearing, to_clear, with_shared, with_other, take_up, collected, list_made, gone_back, Caught, fitting, recovered, ball_unified, at_catch, caught, thrown, erased, cleared, cleared_by, clear_next, with_solution, do_first, step_by, step}
use Rattle.iso_engine.specs.Spending.{IsSpent}

-- So many inferences were made in what follows.
abbrev pub Makes : ℕ → Next → Type 0
Makes n (goes r) = r.inferences ≡ n
Makes n (asks q k) = (y : Reply) → (k y).inferences ≡ n
Makes n (stops how) = Unit {0}

-- At most one more.
abbrev pub Spends : ℕ → Next → Type 0
Spends n (goes r) = IsSpent n r.inferences
Spends n (asks q k) = (y : Reply) → IsSpent n (k y).inferences
Spends n (stops how) = Unit {0}

none_made : (n : ℕ) (x : Next) → Makes n x → Spends n x
none_made n (goes r) h = inl h
none_made n (asks q k) h = λ y. inl (h y)
none_made n (stops how) h = tt

one_made : (n : ℕ) (x : Next) → Makes (suc n) x → Spends n x
one_made n (goes r) h = inr h
one_made n (asks q k) h = λ y. inr (h y)
one_made n (stops how) h = tt

either : (n : ℕ) (b : Bool) (x y : State) → x.inferences ≡ n → y.inferences ≡ n → (if b then x else y).inferences ≡ n
either n true x y p q = p
either n false x y p q = q

either_next : (n : ℕ) (b : Bool) (x y : Next) → Makes n x → Makes n y → Makes n (if b then x else y)
either_next n true x y p q = p
either_next n false x y p q = q

module _ (n : ℕ) where
  over_made : (l : Limits) (s : State) (m : Node) (p : Proc) (c : Choice) (first : ℕ → List Pending) → s.inferences ≡ n → (over l s m p c first).inferences ≡ n
  over_made l s m p c first e = either n _ _ _ e e

  taking_made : (l : Limits) (s : State) (m : Node) (p : Proc) (new need : ℕ) (next : State → Node → State) → s.inferences ≡ n
      → ((r : State) (k : Node) → r.inferences ≡ n → (next r k).inferences ≡ n) → (taking l s m p new need next).inferences ≡ n
  taking_made l s m p new need next e h =
      let x = next (record s { next = s.next + new }) (record m { used = m.used + need })
      in let y = raised s m no_cells p
      in let z = raised s m no_inferences p
      in either n (nat_lt (s.next + new) (2 ^ 64)) (if fits l s m need then x else y) z
      (either n (fits l s m need) x y (h (record s { next = s.next + new }) (record m { used = m.used + need }) e) e) e

  checked_made : (s : State) (m : Node) (p : Proc) (r : Result Tree Tree) (next : Tree → State) → s.inferences ≡ n
      → ((t : Tree) → (next t).inferences ≡ n) → (checked s m p r next).inferences ≡ n
  checked_made s m p (Ok t) next e h = h t
  checked_made s m p (Err t) next e h = e

  unified_made : (s : State) (m : Node) (o : Option Bindings) → s.inferences ≡ n → (unified s m o).inferences ≡ n
  unified_made s m None e = e
  unified_made s m (Some bs) e = e

  clause_unified_made : (p : Purpose) (s : State) (m : Node) (h place : ℕ) (body : Tree) (o : Option Bindings) → s.inferences ≡ n → (clause_unified p s m h place body o).inferences ≡ n
  clause_unified_made resolving s m h place body None e = e
  clause_unified_made resolving s m h place body (Some bs) e = e
  clause_unified_made inspecting s m h place body None e = e
  clause_unified_made inspecting s m h place body (Some bs) e = e
  clause_unified_made retracting s m h place body None e = e
  clause_unified_made retracting s m h place body (Some bs) e = e

  tried_made : (l : Limits) (p : Purpose) (s : State) (t : Tree) (m : Node) (h : ℕ) (c : Stored Clause) → s.inferences ≡ n → (tried l p s t m h c).inferences ≡ n
  tried_made l p s t m h c e =
      let body = raised_by s.next c.clause.body
      in let o = unify t (raised_by s.next (pattern p c.clause))
      in taking_made l s m (tried_by p t) c.clause.variables (clause_cells c.clause) (λ s' n'. clause_unified p s' n' h c.place body o) e
      (λ r k q. clause_unified_made p r k h c.place body o q)

  next_clause_made : (l : Limits) (p : Purpose) (s : State) (t : Tree) (m : Node) (cs : List (Stored Clause)) → s.inferences ≡ n → (next_clause l p s t m cs).inferences ≡ n
  unfolding next_clause
  next_clause_made l p s t m [] e = e
  next_clause_made l p s t m (c ∷ []) e = tried_made l p s t m (length s.choices) c e
  next_clause_made l p s t m (c ∷ (d ∷ ds)) e = tried_made l p (record s { choices = clauses p t (d ∷ ds) m ∷ s.choices }) t m (length s.choices) c e

  first_clause_made : (l : Limits) (p : Purpose) (s : State) (t : Tree) (m : Node) (cs : List (Stored Clause)) → s.inferences ≡ n → (first_clause l p s t m cs).inferences ≡ n
  first_clause_made l p s t m cs e =
      either n (several cs && nat_le l.choices (length s.choices)) (raised s m no_choices (tried_by p t)) (next_clause l p s t m cs) e (next_clause_made l p s t m cs e)

  with_clauses_made : (l : Limits) (p : Purpose) (s : State) (t : Tree) (m : Node) (y : Reply) → s.inferences ≡ n → (with_clauses l p s t m y).inferences ≡ n
  with_clauses_made l p s t m (listed cs) e = first_clause_made l p s t m cs e
  with_clauses_made l p s t m (refused x) e = e
  with_clauses_made l p s t m _ e = e

  answer_tried_made : (l : Limits) (s : State) (m : Node) (p : Proc) (ts : Trees) (a : Answer) → s.inferences ≡ n → (answer_tried l s m p ts a).inferences ≡ n
  answer_tried_made l s m p ts a e =
      let o = solve_all [] ts a.terms
      in taking_made l s m p a.fresh a.made (λ s' n'. unified s' n' o) e (λ r k q. unified_made r k o q)

  next_answer_made : (l : Limits) (s : State) (m : Node) (p : Proc) (ts : Trees) (xs : List Answer) → s.inferences ≡ n → (next_answer l s m p ts xs).inferences ≡ n
  next_answer_made l s m p ts [] e = e
  next_answer_made l s m p ts (a ∷ []) e = answer_tried_made l s m p ts a e
  next_answer_made l s m p ts (a ∷ (b ∷ bs)) e = answer_tried_made l (record s { choices = answers p ts (b ∷ bs) m ∷ s.choices }) m p ts a e

  first_answer_made : (l : Limits) (s : State) (m : Node) (p : Proc) (ts : Trees) (xs : List Answer) → s.inferences ≡ n → (first_answer l s m p ts xs).inferences ≡ n
  first_answer_made l s m p ts xs e =
      either n (several xs && nat_le l.choices (length s.choices)) (raised s m no_choices p) (next_answer l s m p ts xs) e (next_answer_made l s m p ts xs e)

  with_row_made : (l : Limits) (s : State) (m : Node) (p : Proc) (ts : Trees) (r : Row) → s.inferences ≡ n → (with_row l s m p ts r).inferences ≡ n
  unfolding with_row
  with_row_made l s m p ts (gives xs) e = first_answer_made l s m p ts xs e
  with_row_made l s m p ts (table xs) e = first_answer_made l s m p ts _ e
  with_row_made l s m p ts (error x) e = e

  status_made : (s : State) (m : Node) (g t : Tree) → s.inferences ≡ n → (with_status s m g t).inferences ≡ n
  status_made s m g (var x) e = e
  status_made s m g (int (pos k)) e = either n _ _ _ e e
  status_made s m g (int (negsuc k)) e = e
  status_made s m g (atom a) e = e
  status_made s m g (comp f t ts) e = e

  exit_made : (l : Limits) (s : State) (m : Node) (g t : Tree) → s.inferences ≡ n → (with_exit l s m g t).inferences ≡ n
  exit_made l s m g t e = go l.stays
    where
      go : (o : Option Chars)
          → (let r : State = elim o [ None ↦ record s { doing = ended (Rattle.pl_model.specs.Resolution.exited t) } | Some name ↦ raised s m (Rattle.pl_model.specs.ErrorTerms.permission_error (Rattle.std.specs.Prelude.codes "exit") (Rattle.std.specs.Prelude.codes "thread") (atom name)) (Rattle.pl_model.specs.Predicates.proc_of g) ] in r.inferences ≡ n)
      go None = e
      go (Some name) = e

  character_made : (s : State) (m : Node) (g t : Tree) (o : Option Tree) → s.inferences ≡ n → (with_character s m g t o).inferences ≡ n
  character_made s m g t (Some x) e = e
  character_made s m g t None e = e

  operators_made : (s : State) (m : Node) (t : OperatorTable → Chars) (y : Reply) → s.inferences ≡ n → (with_operators s m t y).inferences ≡ n
  operators_made s m t (standing ops quotes) e = e
  operators_made s m t _ e = e

  unless_made : (s : State) (m : Node) (g : Tree) (o : Option Tree) (x : Next) → s.inferences ≡ n → Makes n x → Makes n (unless s m g o x)
  unless_made s m g None x e h = h
  unless_made s m g (Some t) x e h = e

  to_clear_made : (s : State) (m : Node) (h : Tree) (y : Reply) → s.inferences ≡ n → (to_clear s m h y).inferences ≡ n
  to_clear_made s m h (listed cs) e = e
  to_clear_made s m h (refused x) e = e
  to_clear_made s m h _ e = e

  shared_made : (l : Limits) (s : State) (m : Node) (g : Tree) (o : Option Shared) → s.inferences ≡ n → Makes n (with_shared l s m g o)
  shared_made l s m g (Some (gives_row r)) e = with_row_made l s m _ _ r e
  shared_made l s m g (Some (asks_for q r)) e = λ y. with_row_made l s m _ _ _ e
  shared_made l s m g None e = λ y. with_clauses_made l resolving s g m y e

  other_made : (l : Limits) (s : State) (m : Node) (g : Tree) (o : Option Row) → s.inferences ≡ n → Makes n (with_other l s m g o)
  other_made l s m g (Some r) e = with_row_made l s m _ _ r e
  other_made l s m g None e = shared_made l s m g _ e

costing_made : (l : Limits) (s : State) (m : Node) (t : Tree) (next : State → Next)
    → ((r : State) → r.inferences ≡ suc s.inferences → Makes (suc s.inferences) (next r))
    → Spends s.inferences (costing l s m t next)
costing_made l s m t next h = go _ (h (record s { inferences = suc s.inferences }) refl)
  where
    go : (b : Bool) → Makes (suc s.inferences) (next (record s { inferences = suc s.inferences }))
        → Spends s.inferences (if b then next (record s { inferences = suc s.inferences }) else goes (raised s m Rattle.pl_model.specs.Balls.no_inferences (Rattle.pl_model.specs.Predicates.proc_of t)))
    go true k = one_made _ _ k
    go false k = inl refl

call_made : (n : ℕ) (l : Limits) (s : State) (m : Node) (g t : Tree) (ts : Trees) → s.inferences ≡ n → (with_call l s m g t ts).inferences ≡ n
call_made n l s m g t ts e =
    checked_made n s m (proc_of g) (if_callable t (body_of (extended t ts)))
    (λ body. taking l s m (proc_of g) 0 (extension_cells t ts) (λ s' n'. run_on s' (before (goal body (length s.choices) ∷ []) n'))) e
    (λ body. taking_made n l s m (proc_of g) 0 (extension_cells t ts) (λ s' n'. run_on s' (before (goal body (length s.choices) ∷ []) n')) e (λ x k q. q))

entered : (n : ℕ) (l : Limits) (s : State) (m : Node) (p : Proc) (t : Tree) (c : Choice) (first : Tree → ℕ → List Pending) → s.inferences ≡ n
    → (checked s m p (called_goal t) (λ body. over l s m p c (first body))).inferences ≡ n
entered n l s m p t c first e = checked_made n s m p (called_goal t) (λ body. over l s m p c (first body)) e (λ body. over_made n l s m p c (first body) e)

finds_made : (n : ℕ) (l : Limits) (s : State) (m : Node) (g x t list : Tree) → s.inferences ≡ n → (with_findall l s m g x t list).inferences ≡ n
finds_made n l s m g x t list e =
    let r = if_callable t (if is_list_or_partial list then body_of t else Err (type_error (codes "list") list))
    in let next : Tree → State = λ body. over l s m (proc_of g) (findall list [] m) (λ h. goal body (suc h) ∷ collect x h ∷ [])
    in checked_made n s m (proc_of g) r next e (λ body. over_made n l s m (proc_of g) (findall list [] m) (λ h. goal body (suc h) ∷ collect x h ∷ []) e)

pub take_up_spends : (l : Limits) (s : State) (m : Node) (g : Tree) (h : ℕ) (c : Construct) → Spends s.inferences (take_up l s m g h c)
unfolding take_up
take_up_spends l s m g h succeeds = inl refl
take_up_spends l s m g h cuts = inl refl
take_up_spends l s m g h (conjunction t u) = inl refl
take_up_spends l s m g h (disjunction t u) = inl (over_made s.inferences l s m (proc_of g) (branch (before (goal u h ∷ []) m)) (λ k. goal t h ∷ []) refl)
take_up_spends l s m g h (if_then_else c t u) =
    inl (over_made s.inferences l s m (proc_of g) (branch (before (goal u h ∷ []) m)) (λ k. goal c (suc k) ∷ commit k ∷ goal t h ∷ []) refl)
take_up_spends l s m g h (if_then c t) = inl (over_made s.inferences l s m (proc_of g) barrier (λ k. goal c (suc k) ∷ commit k ∷ goal t h ∷ []) refl)
take_up_spends l s m g h fails = costing_made l s m g (λ r. goes (failed r)) (λ r e. e)
take_up_spends l s m g h repeats =
    costing_made l s m g (λ r. goes (over l r m (proc_of g) (branch (before (goal g (length r.choices) ∷ []) m)) (λ k. [])))
    (λ r e. over_made (suc s.inferences) l r m (proc_of g) (branch (before (goal g (length r.choices) ∷ []) m)) (λ k. []) e)
take_up_spends l s m g h (calls t ts) = costing_made l s m g (λ r. goes (with_call l r m g t ts)) (λ r e. call_made (suc s.inferences) l r m g t ts e)
take_up_spends l s m g h (not_provable t) =
    costing_made l s m g (λ r. goes (with_negation l r m g t))
    (λ r e. entered (suc s.inferences) l r m (proc_of g) t (branch m) (λ body k. goal body (suc k) ∷ refute k ∷ []) e)
take_up_spends l s m g h (once t) =
    costing_made l s m g (λ r. goes (with_once l r m g t))
    (λ r e. entered (suc s.inferences) l r m (proc_of g) t barrier (λ body k. goal body (suc k) ∷ commit k ∷ []) e)
take_up_spends l s m g h (catches t c u) =
    costing_made l s m g (λ r. goes (with_catch l r m g t c u))
    (λ r e. entered (suc s.inferences) l r m (proc_of g) t (catch c u m) (λ body k. goal body (suc k) ∷ leave k ∷ []) e)
take_up_spends l s m g h (throws t) =
    costing_made l s m g (λ r. goes (with_throw r m g t))
    (λ r e. either (suc s.inferences) (is_variable t) (raised r m instantiation_error (proc_of g)) (record r { doing = throwing t m.goals }) e e)
take_up_spends l s m g h (finds_all x t list) =
    costing_made l s m g (λ r. goes (with_findall l r m g x t list))
    (λ r e. finds_made (suc s.inferences) l r m g x t list e)
take_up_spends l s m g h (halts t) = costing_made l s m g (λ r. goes (with_status r m g t)) (λ r e. status_made (suc s.inferences) r m g t e)
take_up_spends l s m g h (exits t) = costing_made l s m g (λ r. goes (with_exit l r m g t)) (λ r e. exit_made (suc s.inferences) l r m g t e)
take_up_spends l s m g h (inspects t b) =
    costing_made l s m g (λ r. with_inspection l r m g t b)
    (λ r e. unless_made (suc s.inferences) r m g (first_error (bound_error t ∷ callable_error t ∷ callable_error b ∷ []))
    (asks (inspected_clauses t) (with_clauses l inspecting r (rule t b) m)) e (λ y. with_clauses_made (suc s.inferences) l inspecting r (rule t b) m y e))
take_up_spends l s m g h (retracts t) =
    costing_made l s m g (λ r. with_retraction l r m g t)
    (λ r e. unless_made (suc s.inferences) r m g (error_of (clause_of_term t))
    (asks (retracted_clauses (head_part t)) (with_clauses l retracting r (rule (head_part t) (body_part t)) m)) e
    (λ y. with_clauses_made (suc s.inferences) l retracting r (rule (head_part t) (body_part t)) m y e))
take_up_spends l s m g h (clears t) =
    costing_made l s m g (λ r. with_clearing r m g t)
    (λ r e. unless_made (suc s.inferences) r m g (first_error (bound_error t ∷ callable_error t ∷ []))
    (asks (cleared_clauses t) (to_clear r m t)) e (λ y. to_clear_made (suc s.inferences) r m t y e))
take_up_spends l s m g h (writes t) = costing_made l s m g (λ r. asks read_operators (with_operators r m t)) (λ r e y. operators_made (suc s.inferences) r m t y e)
take_up_spends l s m g h (puts t) =
    costing_made l s m g (λ r. goes (with_character r m g t (character_error t))) (λ r e. character_made (suc s.inferences) r m g t (character_error t) e)
take_up_spends l s m g h (prints t) = costing_made l s m g (λ r. goes (with_text r m t)) (λ r e. e)
take_up_spends l s m g h other =
    costing_made l s m g (λ r. with_other l r m g (row (name_of g) (arguments g) r.next))
    (λ r e. other_made (suc s.inferences) l r m g (row (name_of g) (arguments g) r.next) e)

module _ (n : ℕ) where
  list_made_made : (l : Limits) (s : State) (m : Node) (list : Tree) (ts : List Tree) → s.inferences ≡ n → (list_made l s m list ts).inferences ≡ n
  list_made_made l s m list ts e =
      let o = unify list (list_term ts)
      in taking_made n l s m findall_proc 0 (cells (list_term ts)) (λ s' n'. unified s' n' o) e (λ r k q. unified_made n r k o q)

  gone_back_made : (l : Limits) (s : State) (cs : List Choice) → s.inferences ≡ n → (gone_back l s cs).inferences ≡ n
  unfolding gone_back
  gone_back_made l s [] e = e
  gone_back_made l s (clauses p t ds m ∷ older) e = next_clause_made n l p (record s { choices = older }) t m ds e
  gone_back_made l s (answers p ts xs m ∷ older) e = next_answer_made n l (record s { choices = older }) m p ts xs e
  gone_back_made l s (branch m ∷ older) e = e
  gone_back_made l s (barrier ∷ older) e = e
  gone_back_made l s (catch c r m ∷ older) e = e
  gone_back_made l s (findall list ts m ∷ older) e = list_made_made l (record s { choices = older }) m list ts e

  recovered_made : (s : State) (m : Node) (b : Tree) (r : Result Tree Tree) → s.inferences ≡ n → (recovered s m b r).inferences ≡ n
  recovered_made s m b (Ok t) e = e
  recovered_made s m b (Err t) e = e

  ball_unified_made : (s : State) (m : Node) (b r : Tree) (o : Option Bindings) → s.inferences ≡ n → (ball_unified s m b r o).inferences ≡ n
  ball_unified_made s m b r None e = e
  ball_unified_made s m b r (Some bs) e = recovered_made s _ b _ e

  at_catch_made : (s : State) (m : Node) (c r : Tree) (k : Caught) → s.inferences ≡ n → (at_catch s m c r k).inferences ≡ n
  at_catch_made s m c r k e =
      ball_unified_made (record s { next = s.next + variable_count k.ball }) (record m { used = m.used + k.need }) k.ball r (unify (rename s.next k.ball) c) e

  caught_made : (l : Limits) (s : State) (b : Tree) (ps : List Pending) (cs : List Choice) → s.inferences ≡ n → (caught l s b ps cs).inferences ≡ n
  caught_made l s b ps [] e = e
  caught_made l s b ps (clauses p t ds m ∷ older) e = e
  caught_made l s b ps (answers p ts xs m ∷ older) e = e
  caught_made l s b ps (branch m ∷ older) e = e
  caught_made l s b ps (barrier ∷ older) e = e
  caught_made l s b ps (catch c r m ∷ older) e =
      let s' : State = record s { choices = older } in at_catch_made s' m c r (fitting l s' m b) e
  caught_made l s b ps (findall list ts m ∷ older) e = e

  thrown_made : (l : Limits) (s : State) (b : Tree) (ps : List Pending) → s.inferences ≡ n → (thrown l s b ps).inferences ≡ n
  unfolding thrown
  thrown_made l s b [] e = e
  thrown_made l s b (leave h ∷ ps) e = caught_made l s b ps _ e
  thrown_made l s b (goal t h ∷ ps) e = thrown_made l s b ps e
  thrown_made l s b (commit h ∷ ps) e = thrown_made l s b ps e
  thrown_made l s b (refute h ∷ ps) e = thrown_made l s b ps e
  thrown_made l s b (collect t h ∷ ps) e = thrown_made l s b ps e

  solution_made : (s : State) (m : Node) (y : Reply) → s.inferences ≡ n → (with_solution s m y).inferences ≡ n
  solution_made s m (standing ops quotes) e = e
  solution_made s m _ e = e

  erased_made : (s : State) (m : Node) (y : Reply) → s.inferences ≡ n → (erased s m y).inferences ≡ n
  erased_made s m done e = e
  erased_made s m gone e = e
  erased_made s m (refused x) e = e
  erased_made s m _ e = e

  cleared_made : (s : State) (m : Node) (t : Tree) (cs : List (Stored Clause)) (y : Reply) → s.inferences ≡ n → (cleared s m t cs y).inferences ≡ n
  cleared_made s m t cs (refused x) e = e
  cleared_made s m t cs done e = e
  cleared_made s m t cs gone e = e
  cleared_made s m t cs _ e = e

  cleared_by_made : (s r : State) (m : Node) (t : Tree) (c : Stored Clause) (cs : List (Stored Clause)) (b : Bool) → r.inferences ≡ n → Makes n (cleared_by s r m t c cs b)
  cleared_by_made s r m t c cs true e = λ y. cleared_made r m t cs y e
  cleared_by_made s r m t c cs false e = e

  clear_next_made : (l : Limits) (s : State) (m : Node) (t : Tree) (cs : List (Stored Clause)) → s.inferences ≡ n → Makes n (clear_next l s m t cs)
  clear_next_made l s m t [] e = e
  clear_next_made l s m t (c ∷ cs) e =
      let s' : State = record s { next = s.next + c.clause.variables }
      in let b = is_some (unify t (raised_by s.next c.clause.head))
      in let x = cleared_by s s' m t c cs b
      in let y = goes (raised s m no_cells retractall_proc)
      in let z = goes (raised s m no_inferences retractall_proc)
      in either_next n (nat_lt (s.next + c.clause.variables) (2 ^ 64)) (if fits l s m (clause_cells c.clause) then x else y) z
      (either_next n (fits l s m (clause_cells c.clause)) x y (cleared_by_made s s' m t c cs b e) e) e

collected_made : (n : ℕ) (l : Limits) (s : State) (m : Node) (t : Tree) (h : ℕ) → s.inferences ≡ n → (collected l s m t h).inferences ≡ n
collected_made n l s m t h e =
    taking_made n l s m findall_proc (variable_count t) (cells t) (λ s' n'. record s' { choices = with_copy (rename s.next t) h s.choices; doing = failing }) e (λ r k q. q)

do_first_spends : (l : Limits) (s : State) (m : Node) (ps : List Pending) → Spends s.inferences (do_first l s m ps)
do_first_spends l s m [] = λ y. inl (solution_made _ s m y refl)
do_first_spends l s m (goal t h ∷ ps) = take_up_spends l s (record m { goals = ps }) t h (construct t)
do_first_spends l s m (commit h ∷ ps) = inl refl
do_first_spends l s m (refute h ∷ ps) = inl refl
do_first_spends l s m (leave h ∷ ps) = inl refl
do_first_spends l s m (collect t h ∷ ps) = inl (collected_made s.inferences l s (record m { goals = ps }) t h refl)

step_by_spends : (l : Limits) (s : State) (d : Doing) → Spends s.inferences (step_by l s d)
step_by_spends l s (running m) = do_first_spends l s m m.goals
step_by_spends l s failing = inl (gone_back_made _ l s s.choices refl)
step_by_spends l s (throwing b ps) = inl (thrown_made _ l s b ps refl)
step_by_spends l s (erasing place m) = λ y. inl (erased_made _ s m y refl)
step_by_spends l s (clearing t cs m) = none_made _ _ (clear_next_made _ l s m t cs refl)
step_by_spends l s answering = inl (either s.inferences (nat_le l.solutions (solution_count s.output)) (record s { doing = ended solved }) (failed s) refl refl)
step_by_spends l s (ended how) = tt

pub step_spends : (l : Limits) (s : State) → Spends s.inferences (step l s)
unfolding step
step_spends l s = step_by_spends l s s.doing
