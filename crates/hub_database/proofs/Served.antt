-- What requests of the database are answered by the definitions.
use Rattle.std.proofs.Common.{◌≡◌, ◌<◌, ◌≤◌, ◌^◌, ℕ, zero, suc, List, [], ◌∷◌, map, take, Option, Some, None, Bool, true, false, cond, ◌||◌, refl, sym, ap, ◌∙◌, arith, leb-true}
use Rattle.std.specs.List.{list_any, slice_get}
use Rattle.std.proofs.lemmas.Option.{same_Some}
use Rattle.std.specs.Prelude.{if◌then◌else◌, nat_le, codes}
use Rattle.std.proofs.lemmas.Bool.{false≢true, leb-false}
use Rattle.pl_model.specs.History.{Clause, Kind, Proc, abolish, erase, set_dynamic, set_flag, set_op}
use Rattle.pl_model.specs.Flags.{listed_flags}
use Rattle.pl_model.specs.OperatorTable.{specifier_of}
use Rattle.pl_model.specs.declared.operators.Kind.{Kind as OperatorKind}
use Rattle.pl_model.specs.Database.{current_procedures, has_room, is_known, is_static, is_system, is_there, used_cells}
use Rattle.pl_model.specs.Errors.{static_procedure}
use Rattle.pl_model.specs.Predicates.{proc_of}
use Rattle.pl_model.specs.ErrorTerms.{private_procedure, resource_error}
use Rattle.pl_term.specs.Tree.{Chars, Tree}
use Rattle.pl_model.specs.Requests.{Reply, abolish_procedure, all_flags, all_procedures, call_clauses, cleared_clauses, collect_atoms, collect_clauses, done, flags, make_dynamic, procedures, put_flag, put_operators, erase_clause, gone, inspected_clauses, listed, look, read_operators, refused, retracted_clauses, standing}
use Rattle.pl_model.specs.Service.{Served, answers, clause_cells, cleared, clauses_for, modified, most_updates, operators_error, operators_put, reads, refuses, serve, unknown_called, updates}
use Rattle.pl_model.specs.SharedState.{SharedState}
use Rattle.clause_db.specs.Faults.{addition_fault, is_closed}
use Rattle.clause_db.specs.declared.fault.DbFault.{DbFault}
use Rattle.clause_db.specs.declared.fault.DbFault.TheVariants.{Static, CellsFull}
use Rattle.hub_database.specs.declared.storing.Adding.{Adding}
use Rattle.hub_database.specs.declared.storing.Adding.TheVariants.{Text, First, Last}
use Rattle.hub_database.specs.Adding.{adding_kind, adding_request, origin_by}

-- UPDATES are made below the last generation
pub made : (g : ℕ) (r : Reply) (k : Kind) → g < 2 ^ 47 → updates g r k ≡ answers r (Some k)
made g r k few = go (nat_le most_updates g) refl
  where
    go : (b : Bool) → nat_le most_updates g ≡ b → cond b (refuses (resource_error (codes "generations"))) (answers r (Some k)) ≡ answers r (Some k)
    go true e = let over : 2 ^ 47 ≤ g = leb-true most_updates g e in absurd (omega (arith, few, over))
    go false e = refl

pub worn : (g : ℕ) (r : Reply) (k : Kind) → 2 ^ 47 ≤ g → updates g r k ≡ answers (refused (resource_error (codes "generations"))) None
worn g r k many = go (nat_le most_updates g) refl
  where
    go : (b : Bool) → nat_le most_updates g ≡ b → cond b (refuses (resource_error (codes "generations"))) (answers r (Some k)) ≡ answers (refused (resource_error (codes "generations"))) None
    go true e = refl
    go false e = let under = leb-false most_updates g e in absurd (omega (arith, many, under))

pub neither : (b c : Bool) → (b || c) ≡ false → (b ≡ false) × (c ≡ false)
neither true c e = absurd (false≢true (sym e))
neither false c e = (refl, e)

module _ (e : ℕ) (s : SharedState) (g : ℕ) where
  -- ERASURES
  pub erased : (j : ℕ) → is_there j s.database ≡ true → g < 2 ^ 47 → serve e (erase_clause j) s g ≡ answers done (Some (erase j))
  unfolding serve
  erased j is few = ap (λ b. cond b (updates g done (erase j)) (reads gone)) is ∙ made g done (erase j) few

  pub not_there : (j : ℕ) → is_there j s.database ≡ false → serve e (erase_clause j) s g ≡ answers gone None
  unfolding serve
  not_there j is = ap (λ b. cond b (updates g done (erase j)) (reads gone)) is

  pub erasure_worn : (j : ℕ) → is_there j s.database ≡ true → 2 ^ 47 ≤ g → serve e (erase_clause j) s g ≡ answers (refused (resource_error (codes "generations"))) None
  unfolding serve
  erasure_worn j is many = ap (λ b. cond b (updates g done (erase j)) (reads gone)) is ∙ worn g done (erase j) many

  -- PROCEDURES THAT ARE ABOLISHED
  pub abolish_refused : (p : Proc) → is_static s.database p ≡ true → serve e (abolish_procedure p) s g ≡ answers (refused (static_procedure p)) None
  unfolding serve
  abolish_refused p is = ap (λ b. cond b (refuses (static_procedure p)) (updates g done (abolish p))) is

  pub abolish_worn : (p : Proc) → is_static s.database p ≡ false → 2 ^ 47 ≤ g → serve e (abolish_procedure p) s g ≡ answers (refused (resource_error (codes "generations"))) None
  unfolding serve
  abolish_worn p is many = ap (λ b. cond b (refuses (static_procedure p)) (updates g done (abolish p))) is ∙ worn g done (abolish p) many

  pub abolished : (p : Proc) → is_static s.database p ≡ false → g < 2 ^ 47 → serve e (abolish_procedure p) s g ≡ answers done (Some (abolish p))
  unfolding serve
  abolished p is few = ap (λ b. cond b (refuses (static_procedure p)) (updates g done (abolish p))) is ∙ made g done (abolish p) few

  -- CALLS
  pub call_known : (goal : Tree) → is_known s.database (proc_of goal) ≡ true → serve e (call_clauses goal) s g ≡ answers (listed (clauses_for s g goal)) None
  unfolding serve
  call_known goal is = ap (λ b. cond b (reads (listed (clauses_for s g goal))) (unknown_called s.flags.unknown (proc_of goal))) is

  pub call_unknown : (goal : Tree) → is_known s.database (proc_of goal) ≡ false → serve e (call_clauses goal) s g ≡ unknown_called s.flags.unknown (proc_of goal)
  unfolding serve
  call_unknown goal is = ap (λ b. cond b (reads (listed (clauses_for s g goal))) (unknown_called s.flags.unknown (proc_of goal))) is

  pub inspect_private : (goal : Tree) → is_static s.database (proc_of goal) ≡ true → serve e (inspected_clauses goal) s g ≡ answers (refused (private_procedure (proc_of goal))) None
  unfolding serve
  inspect_private goal is = ap (λ b. cond b (refuses (private_procedure (proc_of goal))) (reads (listed (clauses_for s g goal)))) is

  pub inspected : (goal : Tree) → is_static s.database (proc_of goal) ≡ false → serve e (inspected_clauses goal) s g ≡ answers (listed (clauses_for s g goal)) None
  unfolding serve
  inspected goal is = ap (λ b. cond b (refuses (private_procedure (proc_of goal))) (reads (listed (clauses_for s g goal)))) is

  pub retract_refused : (goal : Tree) → is_static s.database (proc_of goal) ≡ true → serve e (retracted_clauses goal) s g ≡ answers (refused (static_procedure (proc_of goal))) None
  unfolding serve
  retract_refused goal is = ap (λ b. cond b (refuses (static_procedure (proc_of goal))) (reads (listed (clauses_for s g goal)))) is

  pub retracted : (goal : Tree) → is_static s.database (proc_of goal) ≡ false → serve e (retracted_clauses goal) s g ≡ answers (listed (clauses_for s g goal)) None
  unfolding serve
  retracted goal is = ap (λ b. cond b (refuses (static_procedure (proc_of goal))) (reads (listed (clauses_for s g goal)))) is

  pub clear_refused : (goal : Tree) → is_static s.database (proc_of goal) ≡ true → serve e (cleared_clauses goal) s g ≡ answers (refused (static_procedure (proc_of goal))) None
  unfolding serve
  clear_refused goal is = ap (λ b. cond b (refuses (static_procedure (proc_of goal))) (cleared g (is_known s.database (proc_of goal)) (proc_of goal) (clauses_for s g goal))) is

  clear_open : (goal : Tree) (known : Bool) → is_static s.database (proc_of goal) ≡ false → is_known s.database (proc_of goal) ≡ known → serve e (cleared_clauses goal) s g ≡ cleared g known (proc_of goal) (clauses_for s g goal)
  unfolding serve
  clear_open goal known open_ is =
      ap (λ b. cond b (refuses (static_procedure (proc_of goal))) (cleared g (is_known s.database (proc_of goal)) (proc_of goal) (clauses_for s g goal))) open_
      ∙ ap (λ b. cleared g b (proc_of goal) (clauses_for s g goal)) is

  pub clear_known : (goal : Tree) → is_static s.database (proc_of goal) ≡ false → is_known s.database (proc_of goal) ≡ true → serve e (cleared_clauses goal) s g ≡ answers (listed (clauses_for s g goal)) None
  clear_known goal open_ is = clear_open goal true open_ is

  pub clear_opened : (goal : Tree) → is_static s.database (proc_of goal) ≡ false → is_known s.database (proc_of goal) ≡ false → g < 2 ^ 47 → serve e (cleared_clauses goal) s g ≡ answers (listed []) (Some (set_dynamic (proc_of goal ∷ [])))
  clear_opened goal open_ is few = clear_open goal false open_ is ∙ made g (listed []) (set_dynamic (proc_of goal ∷ [])) few

  pub clear_worn : (goal : Tree) → is_static s.database (proc_of goal) ≡ false → is_known s.database (proc_of goal) ≡ false → 2 ^ 47 ≤ g → serve e (cleared_clauses goal) s g ≡ answers (refused (resource_error (codes "generations"))) None
  clear_worn goal open_ is many = clear_open goal false open_ is ∙ worn g (listed []) (set_dynamic (proc_of goal ∷ [])) many

  -- PROCEDURES THAT ARE MADE DYNAMIC: the first static one is refused
  modified_open : (ps : List Proc) (k : Kind) → list_any (is_static s.database) ps ≡ false → modified s g ps k ≡ updates g done k
  modified_open [] k none = refl
  modified_open (p ∷ ps) k none =
      let both = neither (is_static s.database p) (list_any (is_static s.database) ps) none in
      ap (λ b. cond b (refuses (static_procedure p)) (modified s g ps k)) both.0 ∙ modified_open ps k both.1

  modified_static : (ps : List Proc) (i : ℕ) (k : Kind) (p : Proc) → slice_get ps i ≡ Some p → list_any (is_static s.database) (take i ps) ≡ false → is_static s.database p ≡ true → modified s g ps k ≡ refuses (static_procedure p)
  modified_static [] i k p at none is = absurd (cc)
  modified_static (q ∷ ps) zero k p at none is =
      let same : q ≡ p = same_Some q p at in
      ap (λ b. cond b (refuses (static_procedure q)) (modified s g ps k)) (ap (is_static s.database) same ∙ is) ∙ ap (λ r. refuses (static_procedure r)) same
  modified_static (q ∷ ps) (suc i) k p at none is =
      let both = neither (is_static s.database q) (list_any (is_static s.database) (take i ps)) none in
      ap (λ b. cond b (refuses (static_procedure q)) (modified s g ps k)) both.0 ∙ modified_static ps i k p at both.1 is

  pub dynamic_made : (ps : List Proc) → list_any (is_static s.database) ps ≡ false → g < 2 ^ 47 → serve e (make_dynamic ps) s g ≡ answers done (Some (set_dynamic ps))
  unfolding serve
  dynamic_made ps none few = modified_open ps (set_dynamic ps) none ∙ made g done (set_dynamic ps) few

  pub dynamic_worn : (ps : List Proc) → list_any (is_static s.database) ps ≡ false → 2 ^ 47 ≤ g → serve e (make_dynamic ps) s g ≡ answers (refused (resource_error (codes "generations"))) None
  unfolding serve
  dynamic_worn ps none many = modified_open ps (set_dynamic ps) none ∙ worn g done (set_dynamic ps) many

  pub dynamic_refused : (ps : List Proc) (i : ℕ) (p : Proc) → slice_get ps i ≡ Some p → list_any (is_static s.database) (take i ps) ≡ false → is_static s.database p ≡ true
      → serve e (make_dynamic ps) s g ≡ answers (refused (static_procedure p)) None
  unfolding serve
  dynamic_refused ps i p at none is = modified_static ps i (set_dynamic ps) p at none is

  -- FLAGS
  pub flag_put : (f v : Chars) → g < 2 ^ 47 → serve e (put_flag f v) s g ≡ answers done (Some (set_flag f v))
  unfolding serve
  flag_put f v few = made g done (set_flag f v) few

  pub flag_worn : (f v : Chars) → 2 ^ 47 ≤ g → serve e (put_flag f v) s g ≡ answers (refused (resource_error (codes "generations"))) None
  unfolding serve
  flag_worn f v many = worn g done (set_flag f v) many

  pub flags_listed : serve e all_flags s g ≡ answers (flags (listed_flags s.flags)) None
  unfolding serve
  flags_listed = refl

  -- OPERATORS
  abbrev operators_of : ℕ → OperatorKind → List Chars → Kind
  operators_of p k fs = set_op (map (λ (f : Chars). record { name = f; priority = p; specifier = specifier_of k }) fs)

  pub operators_set : (p : ℕ) (k : OperatorKind) (fs : List Chars) → operators_error s.operators p k fs ≡ None → g < 2 ^ 47 → serve e (put_operators p k fs) s g ≡ answers done (Some (operators_of p k fs))
  unfolding serve
  operators_set p k fs none few = ap (operators_put g p k fs) none ∙ made g done (operators_of p k fs) few

  pub operators_worn : (p : ℕ) (k : OperatorKind) (fs : List Chars) → operators_error s.operators p k fs ≡ None → 2 ^ 47 ≤ g
      → serve e (put_operators p k fs) s g ≡ answers (refused (resource_error (codes "generations"))) None
  unfolding serve
  operators_worn p k fs none many = ap (operators_put g p k fs) none ∙ worn g done (operators_of p k fs) many

  pub operators_refused : (p : ℕ) (k : OperatorKind) (fs : List Chars) (t : Tree) → operators_error s.operators p k fs ≡ Some t → serve e (put_operators p k fs) s g ≡ answers (refused t) None
  unfolding serve
  operators_refused p k fs t is = ap (operators_put g p k fs) is

  -- ALL PROCEDURES, and what asks for a cycle
  pub all_listed : serve e all_procedures s g ≡ answers (procedures (current_procedures g s.database)) None
  unfolding serve
  all_listed = refl

  pub atoms_asked : serve e collect_atoms s g ≡ answers done None
  unfolding serve
  atoms_asked = refl

  pub clauses_asked : serve e collect_clauses s g ≡ answers done None
  unfolding serve
  clauses_asked = refl

  -- LOOKS
  pub looked : serve e look s g ≡ answers (standing s.operators s.flags.double_quotes) None
  unfolding serve
  looked = refl

  pub operators_read : serve e read_operators s g ≡ answers (standing s.operators s.flags.double_quotes) None
  unfolding serve
  operators_read = refl

-- CLAUSES THAT ARE ADDED: refused for their procedure, then for want of cells, and last for want of generations
abbrev served_by : Bool → Bool → ℕ → Proc → Kind → Served
served_by closed room g p k =
    if closed then refuses (static_procedure p) else (if room then updates g done k else refuses (resource_error (codes "database")))

abbrev fault_by : Bool → Bool → ℕ → ℕ → Option DbFault
fault_by closed room used need = if closed then Some Static else (if room then None else Some (CellsFull used need))

made_by : (closed room : Bool) (used need g : ℕ) (p : Proc) (k : Kind) → fault_by closed room used need ≡ None → g < 2 ^ 47 → served_by closed room g p k ≡ answers done (Some k)
made_by true room used need g p k e few = absurd (cc)
made_by false true used need g p k e few = made g done k few
made_by false false used need g p k e few = absurd (cc)

worn_by : (closed room : Bool) (used need g : ℕ) (p : Proc) (k : Kind) → fault_by closed room used need ≡ None → 2 ^ 47 ≤ g → served_by closed room g p k ≡ answers (refused (resource_error (codes "generations"))) None
worn_by true room used need g p k e many = absurd (cc)
worn_by false true used need g p k e many = worn g done k many
worn_by false false used need g p k e many = absurd (cc)

static_by : (closed room : Bool) (used need g : ℕ) (p : Proc) (k : Kind) → fault_by closed room used need ≡ Some Static → served_by closed room g p k ≡ answers (refused (static_procedure p)) None
static_by true room used need g p k e = refl
static_by false true used need g p k e = absurd (cc)
static_by false false used need g p k e = absurd (cc)

cells_by : (closed room : Bool) (used need g u n : ℕ) (p : Proc) (k : Kind) → fault_by closed room used need ≡ Some (CellsFull u n) → served_by closed room g p k ≡ answers (refused (resource_error (codes "database"))) None
cells_by true room used need g u n p k e = absurd (cc)
cells_by false true used need g u n p k e = absurd (cc)
cells_by false false used need g u n p k e = refl

module _ (e : ℕ) (by : Adding) (s : SharedState) (g : ℕ) (c : Clause) (p : Proc) (own : p ≡ proc_of c.head) where
  abbrev closed : Bool
  closed = is_closed s.database p (origin_by by)

  abbrev room : Bool
  room = has_room clause_cells c s.database

  abbrev used : ℕ
  used = used_cells clause_cells s.database

  addition_served : (a : Adding) → serve e (adding_request a c) s g ≡ served_by (is_closed s.database p (origin_by a)) room g p (adding_kind a p c)
  unfolding serve
  addition_served Text = ap (λ q. served_by (is_system q) room g q (adding_kind Text q c)) (sym own)
  addition_served First = ap (λ q. served_by (is_static s.database q) room g q (adding_kind First q c)) (sym own)
  addition_served Last = ap (λ q. served_by (is_static s.database q) room g q (adding_kind Last q c)) (sym own)

  pub addition_made : addition_fault clause_cells s.database p (origin_by by) c ≡ None → g < 2 ^ 47 → serve e (adding_request by c) s g ≡ answers done (Some (adding_kind by p c))
  addition_made none few = addition_served by ∙ made_by closed room used (clause_cells c) g p (adding_kind by p c) none few

  pub addition_worn : addition_fault clause_cells s.database p (origin_by by) c ≡ None → 2 ^ 47 ≤ g → serve e (adding_request by c) s g ≡ answers (refused (resource_error (codes "generations"))) None
  addition_worn none many = addition_served by ∙ worn_by closed room used (clause_cells c) g p (adding_kind by p c) none many

  pub addition_static : addition_fault clause_cells s.database p (origin_by by) c ≡ Some Static → serve e (adding_request by c) s g ≡ answers (refused (static_procedure p)) None
  addition_static is = addition_served by ∙ static_by closed room used (clause_cells c) g p (adding_kind by p c) is

  pub addition_cells : (u n : ℕ) → addition_fault clause_cells s.database p (origin_by by) c ≡ Some (CellsFull u n) → serve e (adding_request by c) s g ≡ answers (refused (resource_error (codes "database"))) None
  addition_cells u n is = addition_served by ∙ cells_by closed room used (clause_cells c) g u n p (adding_kind by p c) is
