-- What the value of a term over atoms says of the term over their texts.
use Rattle.std.specs.Prelude.{zero, suc, ℤ, IsSome, Result, Ok, Err}
use Rattle.pl_term.specs.declared.node.Node.TheVariants as nodes
use Rattle.pl_model.specs.declared.evaluables.EvalFault.{EvalFault}
use Rattle.pl_model.specs.declared.evaluables.EvalFault.TheVariants as faults
use Rattle.pl_model.specs.Evaluables.{Evaluated}
use Rattle.atom_api.specs.Names.{Names}
use Rattle.term_store.specs.Heap.{atom_name}
use Rattle.world_builtins.specs.Spelling.{text_of}
use Rattle.builtin_arithmetic.specs.declared.values.ValueFault.{ValueFault}
use Rattle.builtin_arithmetic.specs.declared.values.ValueFault.TheVariants.{Unbound, NoEvaluable, Operation}

-- The fault, the atom by its text.
abbrev pub fault_of : Names → ValueFault → EvalFault
fault_of m Unbound = faults.Inst
fault_of m (NoEvaluable a zero) = faults.NotEvaluable (nodes.Atom (text_of m (atom_name a)))
fault_of m (NoEvaluable a (suc k)) = faults.NotEvaluable (nodes.Comp (text_of m (atom_name a)) (suc k))
fault_of m (Operation f) = faults.Operation f

abbrev pub value_of : Names → Result ℤ ValueFault → Evaluated
value_of m (Ok x) = Ok x
value_of m (Err f) = Err (fault_of m f)

-- The atom of a fault is held.
abbrev pub IsFaultHeld : Names → ValueFault → Type 0
IsFaultHeld m Unbound = Unit {0}
IsFaultHeld m (NoEvaluable a k) = IsSome (m a)
IsFaultHeld m (Operation f) = Unit {0}

abbrev pub IsValueHeld : Names → Result ℤ ValueFault → Type 0
IsValueHeld m (Ok x) = Unit {0}
IsValueHeld m (Err f) = IsFaultHeld m f
