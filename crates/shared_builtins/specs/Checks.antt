-- Checks of arguments.
use Rattle.std.specs.Prelude.{ℕ, Bool, true, false, not, ◌||◌, [], ◌∷◌, Option, Some, None, is_some, pos, negsuc, nat_lt}
use Rattle.pl_term.specs.Tree.{Tree, var, int, atom}
use Rattle.pl_model.specs.OperatorTable.{highest_priority}
use Rattle.pl_model.specs.Balls.{uninstantiation_error}
use Rattle.pl_model.specs.Checks.{atom_error, bound_error, callable_error, error_if, integer_error, negative_error}
use Rattle.pl_model.specs.SharedBuiltins.{fixed_error, flag_error, priority_error, specifier_error, value_error}
use Rattle.pl_model.specs.Terms.{is_variable}
use Rattle.atom_api.specs.FixedNames.{atom_name as atom_kind_name, callable_name, domain_error_name, flag_name, integer_name, modify_name, not_less_than_zero_name, operator_priority_name, operator_specifier_name, prolog_flag_name, type_error_name, uninstantiation_error_name}
use Rattle.atom_api.specs.Names.{Names}
use Rattle.builtin_rows.specs.Kinds.{passes}
use Rattle.term_store.specs.declared.words.Place.{Place}
use Rattle.term_store.specs.Contents.{Contents, Holds, term_at}
use Rattle.world_builtins.specs.Naming.{IsHeldAt}
use Rattle.shared_builtins.specs.declared.faults.Fault.{Fault}
use Rattle.shared_builtins.specs.declared.faults.Fault.TheVariants as faults
use Rattle.shared_builtins.specs.declared.kinds.TheConstants.{ATOM, BOUND, CALLABLE, INTEGER, VARIABLE}
use Rattle.shared_builtins.specs.Flags.{is_fixed, is_set, is_value}
use Rattle.shared_builtins.specs.Operators.{kind_named}
use Rattle.shared_builtins.specs.declared.checks.Check.{Check}
use Rattle.shared_builtins.specs.declared.checks.Check.TheVariants.{Bound, Unbound, Atom, Integer, Callable, Natural, Priority, Specifier, Flag, Changeable, Value}

-- The error of the definition, by the terms at the places.
abbrev pub check_error : (Place → Tree) → Check → Option Tree
check_error r (Bound p) = bound_error (r p)
check_error r (Unbound p) = error_if (not (is_variable (r p))) (uninstantiation_error (r p))
check_error r (Atom p) = atom_error (r p)
check_error r (Integer p) = integer_error (r p)
check_error r (Callable p) = callable_error (r p)
check_error r (Natural p) = negative_error (r p)
check_error r (Priority p) = priority_error (r p)
check_error r (Specifier p) = specifier_error (r p)
check_error r (Flag p) = flag_error (r p)
check_error r (Changeable p) = fixed_error (r p)
check_error r (Value f v) = value_error (r f) (r v)

-- The tests, over numbers of atoms.
abbrev pub atom_in : Tree → Option ℕ
atom_in (atom (a ∷ [])) = Some a
atom_in _ = None

abbrev pub natural_in : Tree → Bool
natural_in (int (negsuc n)) = false
natural_in _ = true

abbrev pub priority_in : Tree → Bool
priority_in (var x) = true
priority_in (int (pos n)) = not (nat_lt highest_priority n)
priority_in _ = false

abbrev pub specifier_in : Tree → Bool
specifier_in (var x) = true
specifier_in (atom (a ∷ [])) = is_some (kind_named a)
specifier_in _ = false

abbrev pub flag_in : Tree → Bool
flag_in (atom (a ∷ [])) = is_fixed a || is_set a
flag_in (atom f) = false
flag_in _ = true

abbrev pub unfixed_in : Tree → Bool
unfixed_in (atom (a ∷ [])) = not (is_fixed a)
unfixed_in _ = true

abbrev pub value_among : Option ℕ → Option ℕ → Bool
value_among (Some f) (Some v) = is_value f v
value_among _ _ = false

abbrev pub value_in : Tree → Tree → Bool
value_in f v = value_among (atom_in f) (atom_in v)

abbrev pub check_passes : Contents → Check → Bool
check_passes s (Bound p) = passes BOUND (term_at s p)
check_passes s (Unbound p) = passes VARIABLE (term_at s p)
check_passes s (Atom p) = passes ATOM (term_at s p)
check_passes s (Integer p) = passes INTEGER (term_at s p)
check_passes s (Callable p) = passes CALLABLE (term_at s p)
check_passes s (Natural p) = natural_in (term_at s p)
check_passes s (Priority p) = priority_in (term_at s p)
check_passes s (Specifier p) = specifier_in (term_at s p)
check_passes s (Flag p) = flag_in (term_at s p)
check_passes s (Changeable p) = unfixed_in (term_at s p)
check_passes s (Value f v) = value_in (term_at s f) (term_at s v)

-- The error where it fails.
abbrev pub check_fault : Check → Fault
check_fault (Bound p) = faults.Unbound
check_fault (Unbound p) = faults.Of uninstantiation_error_name p
check_fault (Atom p) = faults.For type_error_name atom_kind_name p
check_fault (Integer p) = faults.For type_error_name integer_name p
check_fault (Callable p) = faults.For type_error_name callable_name p
check_fault (Natural p) = faults.For domain_error_name not_less_than_zero_name p
check_fault (Priority p) = faults.For domain_error_name operator_priority_name p
check_fault (Specifier p) = faults.For domain_error_name operator_specifier_name p
check_fault (Flag p) = faults.For domain_error_name prolog_flag_name p
check_fault (Changeable p) = faults.NotPermitted modify_name flag_name p
check_fault (Value f v) = faults.NoValue f v

-- What is checked stands in the store.
abbrev pub IsCheckIn : Contents → Check → Type 0
IsCheckIn s (Bound p) = Holds s p
IsCheckIn s (Unbound p) = Holds s p
IsCheckIn s (Atom p) = Holds s p
IsCheckIn s (Integer p) = Holds s p
IsCheckIn s (Callable p) = Holds s p
IsCheckIn s (Natural p) = Holds s p
IsCheckIn s (Priority p) = Holds s p
IsCheckIn s (Specifier p) = Holds s p
IsCheckIn s (Flag p) = Holds s p
IsCheckIn s (Changeable p) = Holds s p
IsCheckIn s (Value f v) = Holds s f × Holds s v

-- Its atoms are held.
abbrev pub IsCheckHeld : Names → Contents → Check → Type 0
IsCheckHeld m s (Bound p) = IsHeldAt m s p
IsCheckHeld m s (Unbound p) = IsHeldAt m s p
IsCheckHeld m s (Atom p) = IsHeldAt m s p
IsCheckHeld m s (Integer p) = IsHeldAt m s p
IsCheckHeld m s (Callable p) = IsHeldAt m s p
IsCheckHeld m s (Natural p) = IsHeldAt m s p
IsCheckHeld m s (Priority p) = IsHeldAt m s p
IsCheckHeld m s (Specifier p) = IsHeldAt m s p
IsCheckHeld m s (Flag p) = IsHeldAt m s p
IsCheckHeld m s (Changeable p) = IsHeldAt m s p
IsCheckHeld m s (Value f v) = IsHeldAt m s f × IsHeldAt m s v
