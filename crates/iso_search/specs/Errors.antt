-- Error terms over atoms.
use Rattle.std.specs.Prelude.{ℕ, pos}
use Rattle.pl_term.specs.Tree.{Tree, int, atom, comp, none, more}
use Rattle.atom_api.specs.FixedNames.{callable_name, cells_name, choices_name, domain_error_name, error_name, exit_status_name, inferences_name, instantiation_error_name, integer_name, list_name, resource_error_name, slash_name, type_error_name}
use Rattle.term_store.specs.Heap.{atom_name}
use Rattle.term_store.specs.Contents.{Contents, Holds, term_at}
use Rattle.iso_search.specs.declared.outcome.Fault.{Fault}
use Rattle.iso_search.specs.declared.outcome.Fault.TheVariants.{Inferences, Cells, Choices, Instantiation, NotCallable, NotInteger, NotList, NotStatus}

-- What the error is about is in the store.
abbrev pub IsFaultIn : Contents → Fault → Type 0
IsFaultIn s (NotCallable p) = Holds s p
IsFaultIn s (NotInteger p) = Holds s p
IsFaultIn s (NotList p) = Holds s p
IsFaultIn s (NotStatus p) = Holds s p
IsFaultIn s _ = Unit {0}

-- The error term by the numbers of the fixed atoms.
abbrev pub fault_tree : Contents → Fault → Tree
fault_tree s Inferences = comp (atom_name resource_error_name) (atom (atom_name inferences_name)) none
fault_tree s Cells = comp (atom_name resource_error_name) (atom (atom_name cells_name)) none
fault_tree s Choices = comp (atom_name resource_error_name) (atom (atom_name choices_name)) none
fault_tree s Instantiation = atom (atom_name instantiation_error_name)
fault_tree s (NotCallable p) = comp (atom_name type_error_name) (atom (atom_name callable_name)) (more (term_at s p) none)
fault_tree s (NotInteger p) = comp (atom_name type_error_name) (atom (atom_name integer_name)) (more (term_at s p) none)
fault_tree s (NotList p) = comp (atom_name type_error_name) (atom (atom_name list_name)) (more (term_at s p) none)
fault_tree s (NotStatus p) = comp (atom_name domain_error_name) (atom (atom_name exit_status_name)) (more (term_at s p) none)

-- The ball of the error in the predicate with this name and this number of arguments.
abbrev pub error_tree : Contents → Fault → ℕ → ℕ → Tree
error_tree s f name arity =
    comp (atom_name error_name) (fault_tree s f) (more (comp (atom_name slash_name) (atom (atom_name name)) (more (int (pos arity)) none)) none)

-- It is about a budget.
abbrev pub IsOfBudget : Fault → Type 0
IsOfBudget Inferences = Unit {0}
IsOfBudget Cells = Unit {0}
IsOfBudget _ = ⊥
