-- Why arguments are refused (ISO 7.12.2).
use Rattle.std.specs.Prelude.{codes}
use Rattle.pl_term.specs.Tree.{Chars, Tree, atom}
use Rattle.pl_model.specs.ErrorTerms.{domain_error}
use Rattle.pl_model.specs.Balls.{instantiation_error, type_error}
use Rattle.atom_api.specs.Names.{Names}
use Rattle.term_store.specs.Contents.{Contents, Holds}
use Rattle.world_builtins.specs.Naming.{IsHeldAt}
use Rattle.world_builtins.specs.Spelling.{reads}
use Rattle.builtin_term.specs.declared.faults.Kind.{Kind}
use Rattle.builtin_term.specs.declared.faults.Kind.TheVariants as kinds
use Rattle.builtin_term.specs.declared.faults.Fault.{Fault}
use Rattle.builtin_term.specs.declared.faults.Fault.TheVariants.{Unbound, Mistyped, Negative, EmptyList}

abbrev pub kind_text : Kind → Chars
kind_text kinds.Atom = codes "atom"
kind_text kinds.Atomic = codes "atomic"
kind_text kinds.Compound = codes "compound"
kind_text kinds.Integer = codes "integer"
kind_text kinds.List = codes "list"

-- The error term.
abbrev pub fault_term : Names → Contents → Fault → Tree
fault_term m s Unbound = instantiation_error
fault_term m s (Mistyped k p) = type_error (kind_text k) (reads m s p)
fault_term m s (Negative p) = domain_error (codes "not_less_than_zero") (reads m s p)
fault_term m s EmptyList = domain_error (codes "non_empty_list") (atom (codes "[]"))

-- The culprit stands in the store.
abbrev pub IsFaultIn : Contents → Fault → Type 0
IsFaultIn s Unbound = Unit {0}
IsFaultIn s (Mistyped k p) = Holds s p
IsFaultIn s (Negative p) = Holds s p
IsFaultIn s EmptyList = Unit {0}

-- The atoms of the culprit are held.
abbrev pub IsFaultHeld : Names → Contents → Fault → Type 0
IsFaultHeld m s Unbound = Unit {0}
IsFaultHeld m s (Mistyped k p) = IsHeldAt m s p
IsFaultHeld m s (Negative p) = IsHeldAt m s p
IsFaultHeld m s EmptyList = Unit {0}
