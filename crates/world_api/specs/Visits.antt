-- What a visit asks for.
use Rattle.std.specs.Prelude.{◌≡◌, ℕ, List, [], ◌∷◌, ◌++◌, map, Option, Some, None}
use Rattle.std.specs.Option.{option_map}
use Rattle.pl_term.specs.Tree.{Chars, Tree}
use Rattle.pl_model.specs.History.{Proc, Clause, head_part, body_part}
use Rattle.pl_model.specs.Predicates.{proc_of}
use Rattle.pl_model.specs.Terms.{variable_count}
use Rattle.pl_model.specs.Requests.{Request, look, read_operators, call_clauses, inspected_clauses, retracted_clauses, cleared_clauses, erase_clause, assert_first, assert_last, consult_clause, abolish_procedure, make_dynamic, all_procedures, put_operators, put_flag, all_flags, own_name, create_thread, start_goal, join_thread, send_message, get_message, peek_message, create_queue, destroy_queue, collect_atoms, collect_clauses}
use Rattle.world_api.specs.declared.asking.After.{After}
use Rattle.world_api.specs.declared.asking.Asked.{Asked}
use Rattle.world_api.specs.declared.visit.Procedure.{Procedure}
use Rattle.world_api.specs.declared.visit.Visit.{Visit}
use Rattle.world_api.specs.declared.visit.Visit.TheVariants.{Look, ReadOperators, Call, Inspect, Retract, Clear, Next, Erase, AssertFirst, AssertLast, Consult, Abolish, MakeDynamic, AllProcedures, PutOperators, AllOperators, PutFlag, AllFlags, OwnName, CreateThread, StartGoal, JoinThread, SendMessage, GetMessage, PeekMessage, CreateQueue, DestroyQueue, CollectAtoms, CollectClauses}

abbrev pub proc_named : (ℕ → Chars) → Procedure → Proc
proc_named text p = record { name = text p.name; arity = p.arity }

-- The visit that asks for this.
abbrev pub visit_by : {T K : Type 0} → Procedure → K → Option After → Visit T K
visit_by p k None = Call p k
visit_by p k (Some x) = Next p k x.generation x.place

abbrev pub visit_for : {T K : Type 0} → Asked K → Visit T K
visit_for a = visit_by a.procedure a.first a.after

-- A clause that is kept as one term: a rule, or a head alone.
abbrev pub clause_in : Tree → Clause
clause_in t = record { head = head_part t; body = body_part t; variables = variable_count t }

module _ {T K : Type 0} (term : (ℕ → Chars) → T → Tree) (key : T → K) (text : ℕ → Chars) where
  -- The goal has this predicate, and its first argument has this key.
  pub record IsGoal (p : Procedure) (k : K) (goal : Tree) : Type 0 where
    pub predicate : proc_of goal ≡ proc_named text p
    pub kept : T
    pub stands : term text kept ≡ goal
    pub key_is : key kept ≡ k

  -- The visit asks for this.
  abbrev pub Asks : Visit T K → Request → Type 0
  Asks Look q = q ≡ look
  Asks ReadOperators q = q ≡ read_operators
  Asks (Call p k) q = (goal : Tree) × (IsGoal p k goal) × (q ≡ call_clauses goal)
  Asks (Inspect p k) q = (goal : Tree) × (IsGoal p k goal) × (q ≡ inspected_clauses goal)
  Asks (Retract p k) q = (goal : Tree) × (IsGoal p k goal) × (q ≡ retracted_clauses goal)
  Asks (Clear p k) q = (goal : Tree) × (IsGoal p k goal) × (q ≡ cleared_clauses goal)
  Asks (Next p k g place) q = ⊥
  Asks (Erase place) q = q ≡ erase_clause place
  Asks (AssertFirst c) q = q ≡ assert_first (clause_in (term text c))
  Asks (AssertLast c) q = q ≡ assert_last (clause_in (term text c))
  Asks (Consult c) q = q ≡ consult_clause (clause_in (term text c))
  Asks (Abolish p) q = q ≡ abolish_procedure (proc_named text p)
  Asks (MakeDynamic ps) q = q ≡ make_dynamic (map (proc_named text) ps.items)
  Asks AllProcedures q = q ≡ all_procedures
  Asks (PutOperators p k fs) q = q ≡ put_operators p k (map text fs.items)
  Asks AllOperators q = q ≡ read_operators
  Asks (PutFlag f v) q = q ≡ put_flag (text f) (text v)
  Asks AllFlags q = q ≡ all_flags
  Asks OwnName q = q ≡ own_name
  Asks (CreateThread t aliases e) q = q ≡ create_thread (term text t) (map text aliases.items) (option_map (term text) e)
  Asks (StartGoal n t) q = q ≡ start_goal n (term text t)
  Asks (JoinThread t) q = q ≡ join_thread (term text t)
  Asks (SendMessage x t) q = q ≡ send_message (term text x) (term text t)
  Asks (GetMessage x t) q = q ≡ get_message (option_map (term text) x) (term text t)
  Asks (PeekMessage x t) q = q ≡ peek_message (option_map (term text) x) (term text t)
  Asks (CreateQueue a) q = q ≡ create_queue (option_map text a)
  Asks (DestroyQueue x) q = q ≡ destroy_queue (term text x)
  Asks CollectAtoms q = q ≡ collect_atoms
  Asks CollectClauses q = q ≡ collect_clauses

abbrev pub optional_names : {T : Type 0} → (T → List ℕ) → Option T → List ℕ
optional_names names None = []
optional_names names (Some t) = names t

module _ {T K : Type 0} (names : T → List ℕ) (key_names : K → List ℕ) where
  -- The atoms that a visit names.
  abbrev pub visit_names : Visit T K → List ℕ
  visit_names (Call p k) = p.name ∷ key_names k
  visit_names (Inspect p k) = p.name ∷ key_names k
  visit_names (Retract p k) = p.name ∷ key_names k
  visit_names (Clear p k) = p.name ∷ key_names k
  visit_names (Next p k g place) = p.name ∷ key_names k
  visit_names (AssertFirst c) = names c
  visit_names (AssertLast c) = names c
  visit_names (Consult c) = names c
  visit_names (Abolish p) = p.name ∷ []
  visit_names (MakeDynamic ps) = map (λ (p : Procedure). p.name) ps.items
  visit_names (PutOperators p k fs) = fs.items
  visit_names (PutFlag f v) = f ∷ v ∷ []
  visit_names (CreateThread t aliases e) = names t ++ (aliases.items ++ optional_names names e)
  visit_names (StartGoal n t) = names t
  visit_names (JoinThread t) = names t
  visit_names (SendMessage x t) = names x ++ names t
  visit_names (GetMessage x t) = optional_names names x ++ names t
  visit_names (PeekMessage x t) = optional_names names x ++ names t
  visit_names (CreateQueue (Some a)) = a ∷ []
  visit_names (DestroyQueue x) = names x
  visit_names _ = []
