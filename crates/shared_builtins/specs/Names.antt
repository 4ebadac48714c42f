-- Names of operators, and the elements of lists.
use Rattle.std.specs.Prelude.{◌≡◌, ℕ, List, map, Some, None, Result, Ok, Err, IsSome, ◌∷◌, []}
use Rattle.std.specs.List.{All}
use Rattle.pl_term.specs.Tree.{Tree, atom}
use Rattle.pl_model.specs.Checks.{atom_error, atoms_error, bound_error, first_error, text_of_atom}
use Rattle.pl_model.specs.SharedBuiltins.{names_in}
use Rattle.atom_api.specs.Names.{Names}
use Rattle.term_store.specs.declared.words.Place.{Place}
use Rattle.term_store.specs.Contents.{Contents, Holds}
use Rattle.world_api.specs.Texts.{text_of}
use Rattle.world_builtins.specs.Naming.{IsHeldAt}
use Rattle.world_builtins.specs.Spelling.{reads}
use Rattle.shared_builtins.specs.declared.faults.Fault.{Fault}
use Rattle.shared_builtins.specs.declared.names.Listed.{Listed}
use Rattle.shared_builtins.specs.declared.names.Listed.TheVariants as lists
use Rattle.shared_builtins.specs.declared.names.Named.{Named}
use Rattle.shared_builtins.specs.declared.names.Named.TheVariants.{Atoms, Refused}
use Rattle.shared_builtins.specs.Faults.{IsFaultHeld, IsFaultIn, fault_term}

-- The terms at these places, or the error of what is no list.
abbrev pub AreListed : Names → Contents → Result (List Tree) Tree → Listed → Type 0
AreListed m s r (lists.Terms ps) = (r ≡ Ok (map (reads m s) ps.items)) × All (IsHeldAt m s) ps.items
AreListed m s r (lists.Refused f) = (r ≡ Err (fault_term m s f)) × (IsFaultIn s f × IsFaultHeld m s f)

abbrev pub AreListedIn : Contents → Listed → Type 0
AreListedIn s (lists.Terms ps) = All (Holds s) ps.items
AreListedIn s (lists.Refused f) = Unit {0}

-- An atom, or the error of what is none.
abbrev pub IsName : Names → Contents → Tree → Result ℕ Fault → Type 0
IsName m s t (Ok a) = (t ≡ atom (text_of m a)) × IsSome (m a)
IsName m s t (Err f) = (first_error (bound_error t ∷ atom_error t ∷ []) ≡ Some (fault_term m s f)) × (IsFaultIn s f × IsFaultHeld m s f)

-- The texts of these terms, which are atoms, or the error of the first that is none.
abbrev pub AreAtoms : Names → Contents → List Tree → Named → Type 0
AreAtoms m s ts (Atoms as₁) =
    (atoms_error ts ≡ None) × ((map text_of_atom ts ≡ map (text_of m) as₁.items) × All (λ a. IsSome (m a)) as₁.items)
AreAtoms m s ts (Refused f) = (atoms_error ts ≡ Some (fault_term m s f)) × (IsFaultIn s f × IsFaultHeld m s f)

abbrev pub AreNamedBy : Names → Contents → Result (List Tree) Tree → Named → Type 0
AreNamedBy m s (Ok ts) n = AreAtoms m s ts n
AreNamedBy m s (Err e) (Atoms as₁) = ⊥
AreNamedBy m s (Err e) (Refused f) = (e ≡ fault_term m s f) × (IsFaultIn s f × IsFaultHeld m s f)

abbrev pub AreNamed : Names → Contents → Place → Named → Type 0
AreNamed m s p n = AreNamedBy m s (names_in (reads m s p)) n
