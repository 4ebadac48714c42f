-- Built-in predicates of the shared state (ISO 8.8, 8.9, 8.14, 8.17; SWI-Prolog manual, section 'Multithreaded
-- applications'): what they check of their arguments, what they then ask, and the row that follows from the reply and the
-- next number of a variable. That clause/2, retract/1 and retractall/1 try clauses, and that output writes, is control.
use Rattle.std.specs.Prelude.{ℕ, zero, ◌&&◌, ◌||◌, not, List, [], ◌∷◌, ◌++◌, map, Bool, true, false, Option, Some, None, is_some, Result, Ok, Err, bytes_eq, codes, if◌then◌else◌, pos, nat_lt}
use Rattle.pl_term.specs.Tree.{Chars, Tree, Trees, var, int, atom, comp, none, more}
use Rattle.pl_term.specs.Cells.{cells}
use Rattle.pl_term.specs.Variables.{rename}
use Rattle.pl_model.specs.declared.operators.Kind.{Kind as OperatorKind}
use Rattle.pl_model.specs.declared.operators.Kind.TheVariants.{Xfx, Xfy, Yfx, Fy, Fx, Xf, Yf}
use Rattle.pl_model.specs.OperatorTable.{Key, Entry, operators, highest_priority}
use Rattle.pl_model.specs.History.{Proc, Clause}
use Rattle.pl_model.specs.Flags.{is_fixed_flag, flag_values, is_flag_value}
use Rattle.pl_model.specs.Terms.{is_variable, is_atom, variable_count}
use Rattle.pl_model.specs.ErrorTerms.{domain_error, permission_error}
use Rattle.pl_model.specs.Balls.{instantiation_error, uninstantiation_error, type_error, indicator}
use Rattle.pl_model.specs.Checks.{first_error, error_if, bound_error, atom_error, integer_error, callable_error, text_of_atom, natural_of, elements, atoms_error, proc_indicated, all_indicated}
use Rattle.pl_model.specs.BodyChecks.{clause_of_term}
use Rattle.pl_model.specs.BuiltinRows.{Answer, Row, gives, table, error, plain_answer, one_answer}
use Rattle.pl_model.specs.Requests.{Request, assert_first, assert_last, abolish_procedure, make_dynamic, all_procedures, put_operators, read_operators, put_flag, all_flags, own_name, create_thread, join_thread, send_message, get_message, peek_message, create_queue, destroy_queue, collect_atoms, collect_clauses, Reply, standing, procedures, flags, named, message, status, done, refused}

pub data Shared : Type 0 where
  -- the arguments are refused, or nothing has to be asked
  gives_row : Row → Shared
  asks_for : Request → (Reply → ℕ → Row) → Shared

abbrev pub wrong : Tree → Shared
wrong e = gives_row (error e)

-- The request, unless there is an error of the arguments.
abbrev pub unless : Option Tree → Shared → Shared
unless (Some e) next = wrong e
unless None next = next

abbrev pub on_ok : {A : Type 0} → Result A Tree → (A → Shared) → Shared
on_ok (Ok a) next = next a
on_ok (Err e) next = wrong e

-- Rows of replies. A reply that the request cannot have gives no answer.

abbrev pub succeeds_with : Trees → Reply → ℕ → Row
succeeds_with ts done next = one_answer ts
succeeds_with ts (refused e) next = error e
succeeds_with ts _ next = gives []

-- A term of the shared state is copied: its variables are new ones.
abbrev pub copied_row : (Tree → Trees) → Tree → ℕ → Row
copied_row terms t next =
    gives (record { terms = terms (rename next t); fresh = variable_count t; made = cells t } ∷ [])

abbrev pub message_row : (Tree → Trees) → Reply → ℕ → Row
message_row terms (message t) next = copied_row terms t next
message_row terms (refused e) next = error e
message_row terms _ next = gives []

abbrev pub status_row : (Tree → Trees) → Reply → ℕ → Row
status_row terms (status t) next = copied_row terms t next
status_row terms (refused e) next = error e
status_row terms _ next = gives []

abbrev pub named_row : (Tree → Trees) → Reply → ℕ → Row
named_row terms (named t) next = one_answer (terms t)
named_row terms (refused e) next = error e
named_row terms _ next = gives []

-- Clauses (ISO 8.9.1, 8.9.2, 8.9.4, 7.4.2.1)

abbrev pub asserts : (Clause → Request) → Tree → Shared
asserts request t = on_ok (clause_of_term t) (λ c. asks_for (request c) (succeeds_with (more t none)))

abbrev pub abolishes : Tree → Shared
abolishes t = on_ok (proc_indicated t) (λ p. asks_for (abolish_procedure p) (succeeds_with (more t none)))

-- One predicate indicator, a conjunction of them, or a list of them.
abbrev pub conjuncts : Tree → List Tree
conjuncts (comp f t (more u none)) =
    if bytes_eq f (codes ",") then conjuncts t ++ conjuncts u else comp f t (more u none) ∷ []
conjuncts t = t ∷ []

abbrev pub listed_or_conjuncts : Tree → Result (List Tree) Tree → List Tree
listed_or_conjuncts t (Ok ts) = ts
listed_or_conjuncts t (Err e) = conjuncts t

abbrev pub indicated : Tree → Result (List Proc) Tree
indicated t = all_indicated (listed_or_conjuncts t (elements t))

abbrev pub makes_dynamic : Tree → Shared
makes_dynamic t = on_ok (indicated t) (λ ps. asks_for (make_dynamic ps) (succeeds_with (more t none)))

-- discontiguous/1 and multifile/1 change nothing.
abbrev pub checks_indicators : Tree → Shared
checks_indicators t = on_ok (indicated t) (λ ps. gives_row (one_answer (more t none)))

-- current_predicate/1 (ISO 8.8.2): a term Name/Arity for each procedure.
abbrev pub procedure_rows : List Proc → List Answer
procedure_rows ps = map (λ (p : Proc). record { terms = more (indicator p) none; fresh = zero; made = 3 }) ps

abbrev pub procedures_row : Reply → ℕ → Row
procedures_row (procedures ps) next = table (procedure_rows ps)
procedures_row _ next = gives []

abbrev pub lists_procedures : Tree → Shared
lists_procedures (var x) = asks_for all_procedures procedures_row
lists_procedures (comp f t (more u none)) =
    if bytes_eq f (codes "/") then asks_for all_procedures procedures_row
    else wrong (type_error (codes "predicate_indicator") (comp f t (more u none)))
lists_procedures t = wrong (type_error (codes "predicate_indicator") t)

-- Operators (ISO 8.14.3, 8.14.4)

abbrev pub specifier_named : Chars → Option OperatorKind
specifier_named f =
    if bytes_eq f (codes "xfx") then Some Xfx else
    if bytes_eq f (codes "xfy") then Some Xfy else
    if bytes_eq f (codes "yfx") then Some Yfx else
    if bytes_eq f (codes "fy") then Some Fy else
    if bytes_eq f (codes "fx") then Some Fx else
    if bytes_eq f (codes "xf") then Some Xf else
    if bytes_eq f (codes "yf") then Some Yf else None

abbrev pub specifier_name : OperatorKind → Chars
specifier_name Xfx = codes "xfx"
specifier_name Xfy = codes "xfy"
specifier_name Yfx = codes "yfx"
specifier_name Fy = codes "fy"
specifier_name Fx = codes "fx"
specifier_name Xf = codes "xf"
specifier_name Yf = codes "yf"

abbrev pub is_priority : Tree → Bool
is_priority (int (pos n)) = not (nat_lt highest_priority n)
is_priority _ = false

abbrev pub priority_error : Tree → Option Tree
priority_error t = if is_variable t || is_priority t then None else Some (domain_error (codes "operator_priority") t)

abbrev pub is_specifier : Tree → Bool
is_specifier t = is_atom t && is_some (specifier_named (text_of_atom t))

abbrev pub specifier_error : Tree → Option Tree
specifier_error t = if is_variable t || is_specifier t then None else Some (domain_error (codes "operator_specifier") t)

-- An atom is one name, `[]` too; else the names are the elements of a list.
abbrev pub names_in : Tree → Result (List Tree) Tree
names_in (atom a) = Ok (atom a ∷ [])
names_in t = elements t

abbrev pub puts_names : Trees → Tree → Option OperatorKind → List Tree → Shared
puts_names args p None fs = gives_row (gives [])
puts_names args p (Some k) fs =
    unless (atoms_error fs) (asks_for (put_operators (natural_of p) k (map text_of_atom fs)) (succeeds_with args))

abbrev pub puts_operators : Tree → Tree → Tree → Shared
puts_operators p k f =
    unless
    (first_error
    (bound_error p ∷ bound_error k ∷ bound_error f ∷ integer_error p ∷ priority_error p ∷ atom_error k ∷ specifier_error k ∷ []))
    (on_ok (names_in f) (puts_names (more p (more k (more f none))) p (specifier_named (text_of_atom k))))

abbrev pub operator_row : Key × Entry → Answer
operator_row e = plain_answer (more (int (pos e.1.0)) (more (atom (specifier_name e.1.1)) (more (atom e.0.0) none)))

abbrev pub operators_row : Reply → ℕ → Row
operators_row (standing ops quotes) next = table (map operator_row (operators ops))
operators_row _ next = gives []

abbrev pub lists_operators : Tree → Tree → Tree → Shared
lists_operators p k f =
    unless (first_error (priority_error p ∷ specifier_error k ∷ atom_error f ∷ [])) (asks_for read_operators operators_row)

-- Flags (ISO 8.17.1, 8.17.2)

abbrev pub is_changeable : Chars → Bool
is_changeable f = elim (flag_values f) [ [] ↦ false | v ∷ vs ↦ true ]

abbrev pub flag_error : Tree → Option Tree
flag_error (atom a) = error_if (not (is_fixed_flag a || is_changeable a)) (domain_error (codes "prolog_flag") (atom a))
flag_error _ = None

abbrev pub fixed_error : Tree → Option Tree
fixed_error f = error_if (is_fixed_flag (text_of_atom f)) (permission_error (codes "modify") (codes "flag") f)

abbrev pub value_error : Tree → Tree → Option Tree
value_error f v =
    error_if (not (is_atom v && is_flag_value (text_of_atom f) (text_of_atom v)))
    (domain_error (codes "flag_value") (comp (codes "+") f (more v none)))

abbrev pub puts_flag : Tree → Tree → Shared
puts_flag f v =
    unless
    (first_error (bound_error f ∷ bound_error v ∷ atom_error f ∷ flag_error f ∷ fixed_error f ∷ value_error f v ∷ []))
    (asks_for (put_flag (text_of_atom f) (text_of_atom v)) (succeeds_with (more f (more v none))))

abbrev pub flag_row : Chars × Tree → Answer
flag_row f = plain_answer (more (atom f.0) (more f.1 none))

abbrev pub flags_row : Reply → ℕ → Row
flags_row (flags fs) next = table (map flag_row fs)
flags_row _ next = gives []

abbrev pub lists_flags : Tree → Tree → Shared
lists_flags f v = unless (first_error (atom_error f ∷ flag_error f ∷ [])) (asks_for all_flags flags_row)

-- Threads and queues

-- The aliases of the options up to the first one that is wrong, and the error of that one.
pub record Options : Type 0 where
  pub aliases : List Chars
  pub error : Option Tree

abbrev pub no_options : Options
no_options = record { aliases = []; error = None }

abbrev pub wrong_option : Tree → Options
wrong_option e = record { aliases = []; error = Some e }

abbrev pub with_alias : Tree → Options → Options
with_alias (atom a) o = record o { aliases = a ∷ o.aliases }
with_alias (var x) o = wrong_option instantiation_error
with_alias t o = wrong_option (type_error (codes "atom") t)

abbrev pub is_false : Tree → Bool
is_false t = is_atom t && bytes_eq (text_of_atom t) (codes "false")

abbrev pub with_option : Tree → Options → Options
with_option (var x) o = wrong_option instantiation_error
with_option (comp f t none) o =
    if bytes_eq f (codes "alias") then with_alias t o else
    if bytes_eq f (codes "detached") && is_false t then o else wrong_option (domain_error (codes "thread_option") (comp f t none))
with_option t o = wrong_option (domain_error (codes "thread_option") t)

abbrev pub options_of : List Tree → Options
options_of [] = no_options
options_of (t ∷ ts) = with_option t (options_of ts)

-- Where the first wrong option has no alias before it, nothing is asked.
abbrev pub creates_with : Tree → (Tree → Trees) → Options → Shared
creates_with goal terms o =
    elim o.aliases [
      | [] ↦ unless o.error (asks_for (create_thread goal [] None) (named_row terms))
      | a ∷ as₁ ↦ asks_for (create_thread goal (a ∷ as₁) o.error) (named_row terms)
    ]

abbrev pub thread_errors : Tree → Tree → Option Tree
thread_errors goal name =
    first_error (bound_error goal ∷ callable_error goal ∷ error_if (not (is_variable name)) (uninstantiation_error name) ∷ [])

abbrev pub creates_thread : Tree → Tree → Shared
creates_thread goal name = unless (thread_errors goal name) (creates_with goal (λ t. more goal (more t none)) no_options)

abbrev pub creates_with_options : Tree → Tree → Tree → Shared
creates_with_options goal name options =
    unless
    (thread_errors goal name)
    (on_ok (elements options) (λ os. creates_with goal (λ t. more goal (more t (more options none))) (options_of os)))

abbrev pub joins : Tree → Tree → Shared
joins name s = unless (bound_error name) (asks_for (join_thread name) (status_row (λ t. more name (more t none))))

abbrev pub sends : Tree → Tree → Shared
sends name t = unless (bound_error name) (asks_for (send_message name t) (succeeds_with (more name (more t none))))

abbrev pub gets_from : Tree → Tree → Shared
gets_from name t = unless (bound_error name) (asks_for (get_message (Some name) t) (message_row (λ m. more name (more m none))))

abbrev pub peeks_at : Tree → Tree → Shared
peeks_at name t = unless (bound_error name) (asks_for (peek_message (Some name) t) (message_row (λ m. more name (more m none))))

abbrev pub queue_alias : Tree → Option Chars
queue_alias (atom a) = Some a
queue_alias _ = None

abbrev pub creates_queue : Tree → Shared
creates_queue q = unless (atom_error q) (asks_for (create_queue (queue_alias q)) (named_row (λ t. more t none)))

abbrev pub destroys : Tree → Shared
destroys q = unless (bound_error q) (asks_for (destroy_queue q) (succeeds_with (more q none)))

-- By name and number of arguments

abbrev pub shared_of_none : Chars → Option Shared
shared_of_none f =
    if bytes_eq f (codes "garbage_collect_atoms") then Some (asks_for collect_atoms (succeeds_with none)) else
    if bytes_eq f (codes "garbage_collect_clauses") then Some (asks_for collect_clauses (succeeds_with none)) else None

abbrev pub shared_of_one : Chars → Tree → Option Shared
shared_of_one f t =
    if bytes_eq f (codes "asserta") then Some (asserts assert_first t) else
    if bytes_eq f (codes "assertz") || bytes_eq f (codes "assert") then Some (asserts assert_last t) else
    if bytes_eq f (codes "abolish") then Some (abolishes t) else
    if bytes_eq f (codes "dynamic") then Some (makes_dynamic t) else
    if bytes_eq f (codes "discontiguous") || bytes_eq f (codes "multifile") then Some (checks_indicators t) else
    if bytes_eq f (codes "current_predicate") then Some (lists_procedures t) else
    if bytes_eq f (codes "thread_self") then Some (asks_for own_name (named_row (λ u. more u none))) else
    if bytes_eq f (codes "thread_get_message") then Some (asks_for (get_message None t) (message_row (λ m. more m none))) else
    if bytes_eq f (codes "thread_peek_message") then Some (asks_for (peek_message None t) (message_row (λ m. more m none))) else
    if bytes_eq f (codes "message_queue_create") then Some (creates_queue t) else
    if bytes_eq f (codes "message_queue_destroy") then Some (destroys t) else None

abbrev pub shared_of_two : Chars → Tree → Tree → Option Shared
shared_of_two f t u =
    if bytes_eq f (codes "set_prolog_flag") then Some (puts_flag t u) else
    if bytes_eq f (codes "current_prolog_flag") then Some (lists_flags t u) else
    if bytes_eq f (codes "thread_create") then Some (creates_thread t u) else
    if bytes_eq f (codes "thread_join") then Some (joins t u) else
    if bytes_eq f (codes "thread_send_message") then Some (sends t u) else
    if bytes_eq f (codes "thread_get_message") then Some (gets_from t u) else
    if bytes_eq f (codes "thread_peek_message") then Some (peeks_at t u) else None

abbrev pub shared_of_three : Chars → Tree → Tree → Tree → Option Shared
shared_of_three f t u v =
    if bytes_eq f (codes "op") then Some (puts_operators t u v) else
    if bytes_eq f (codes "current_op") then Some (lists_operators t u v) else
    if bytes_eq f (codes "thread_create") then Some (creates_with_options t u v) else None

-- The predicate of the shared state with this name and these arguments, or none.
unfoldable pub shared : Chars → Trees → Option Shared
shared f none = shared_of_none f
shared f (more t none) = shared_of_one f t
shared f (more t (more u none)) = shared_of_two f t u
shared f (more t (more u (more v none))) = shared_of_three f t u v
shared f _ = None
