-- Why arguments are refused (ISO 7.12.2).
use Rattle.std.specs.Prelude.{ℕ, IsSome, [], Option, Some, None, codes}
use Rattle.pl_term.specs.Tree.{Chars, Tree, atom, comp, none, more}
use Rattle.pl_model.specs.ErrorTerms.{domain_error, permission_error}
use Rattle.pl_model.specs.Balls.{instantiation_error}
use Rattle.atom_api.specs.Fixed.{fixed}
use Rattle.atom_api.specs.Names.{Names}
use Rattle.term_store.specs.Contents.{Contents, Holds}
use Rattle.world_builtins.specs.Naming.{IsHeldAt}
use Rattle.world_builtins.specs.Spelling.{reads}
use Rattle.shared_builtins.specs.declared.faults.Fault.{Fault}
use Rattle.shared_builtins.specs.declared.faults.Fault.TheVariants.{Unbound, For, Of, NotPermitted, NoValue}

-- The text of a fixed atom.
abbrev pub or_empty : Option Chars → Chars
or_empty None = []
or_empty (Some t) = t

abbrev pub fixed_text : ℕ → Chars
fixed_text a = or_empty (fixed a)

-- The error term.
abbrev pub fault_term : Names → Contents → Fault → Tree
fault_term m s Unbound = instantiation_error
fault_term m s (For e k p) = comp (fixed_text e) (atom (fixed_text k)) (more (reads m s p) none)
fault_term m s (Of e p) = comp (fixed_text e) (reads m s p) none
fault_term m s (NotPermitted a k p) = permission_error (fixed_text a) (fixed_text k) (reads m s p)
fault_term m s (NoValue f v) = domain_error (codes "flag_value") (comp (codes "+") (reads m s f) (more (reads m s v) none))

-- The culprits stand in the store, and the names are fixed.
abbrev pub IsFaultIn : Contents → Fault → Type 0
IsFaultIn s Unbound = Unit {0}
IsFaultIn s (For e k p) = IsSome (fixed e) × (IsSome (fixed k) × Holds s p)
IsFaultIn s (Of e p) = IsSome (fixed e) × Holds s p
IsFaultIn s (NotPermitted a k p) = IsSome (fixed a) × (IsSome (fixed k) × Holds s p)
IsFaultIn s (NoValue f v) = Holds s f × Holds s v

-- The atoms of the culprits are held.
abbrev pub IsFaultHeld : Names → Contents → Fault → Type 0
IsFaultHeld m s Unbound = Unit {0}
IsFaultHeld m s (For e k p) = IsHeldAt m s p
IsFaultHeld m s (Of e p) = IsHeldAt m s p
IsFaultHeld m s (NotPermitted a k p) = IsHeldAt m s p
IsFaultHeld m s (NoValue f v) = IsHeldAt m s f × IsHeldAt m s v
