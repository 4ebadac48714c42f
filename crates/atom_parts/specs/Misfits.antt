-- What is wrong with arguments that are to be atoms or numbers of characters.
use Rattle.std.specs.Prelude.{Option, Some, None, [], ◌∷◌, codes, if◌then◌else◌}
use Rattle.pl_term.specs.Tree.{Tree}
use Rattle.pl_model.specs.AtomBuiltins.{counted_error}
use Rattle.pl_model.specs.Balls.{instantiation_error, type_error}
use Rattle.pl_model.specs.Checks.{atom_error, bound_error, first_error}
use Rattle.pl_model.specs.ErrorTerms.{domain_error}
use Rattle.pl_model.specs.Terms.{is_variable}
use Rattle.atom_api.specs.Names.{Names}
use Rattle.term_store.specs.declared.words.Place.{Place}
use Rattle.term_store.specs.Contents.{Contents, Holds}
use Rattle.world_builtins.specs.Naming.{IsHeldAt}
use Rattle.world_builtins.specs.Spelling.{reads}
use Rattle.atom_parts.specs.declared.misfits.Check.{Check}
use Rattle.atom_parts.specs.declared.misfits.Check.TheVariants.{Bound, Atom, Count}
use Rattle.atom_parts.specs.declared.misfits.Misfit.{Misfit}
use Rattle.atom_parts.specs.declared.misfits.Misfit.TheVariants.{Unbound, NoAtom, NoInteger, BelowZero}

abbrev pub place_of : Check → Place
place_of (Bound p) = p
place_of (Atom p) = p
place_of (Count p) = p

-- The error of a check by the definition.
abbrev pub error_by : Names → Contents → Check → Option Tree
error_by m s (Bound p) = bound_error (reads m s p)
error_by m s (Atom p) = atom_error (reads m s p)
error_by m s (Count p) = counted_error (reads m s p)

-- The error term of what is wrong.
abbrev pub error_with : Names → Contents → Misfit → Tree
error_with m s Unbound = instantiation_error
error_with m s (NoAtom p) = type_error (codes "atom") (reads m s p)
error_with m s (NoInteger p) = type_error (codes "integer") (reads m s p)
error_with m s (BelowZero p) = domain_error (codes "not_less_than_zero") (reads m s p)

abbrev pub misfit_error : Names → Contents → Option Misfit → Option Tree
misfit_error m s None = None
misfit_error m s (Some f) = Some (error_with m s f)

abbrev pub IsMisfitIn : Contents → Misfit → Type 0
IsMisfitIn s Unbound = Unit {0}
IsMisfitIn s (NoAtom p) = Holds s p
IsMisfitIn s (NoInteger p) = Holds s p
IsMisfitIn s (BelowZero p) = Holds s p

abbrev pub IsMisfitHeld : Names → Contents → Misfit → Type 0
IsMisfitHeld m s Unbound = Unit {0}
IsMisfitHeld m s (NoAtom p) = IsHeldAt m s p
IsMisfitHeld m s (NoInteger p) = IsHeldAt m s p
IsMisfitHeld m s (BelowZero p) = IsHeldAt m s p

-- The errors of atom_concat/3 and of sub_atom/5 for their arguments.
abbrev pub concatenation_error : Tree → Tree → Tree → Option Tree
concatenation_error a b c =
    first_error
    ((if is_variable c then first_error (bound_error a ∷ bound_error b ∷ []) else None)
    ∷ atom_error a ∷ atom_error b ∷ atom_error c ∷ [])

abbrev pub sub_atoms_error : Tree → Tree → Tree → Tree → Tree → Option Tree
sub_atoms_error a b l f s =
    first_error
    (bound_error a ∷ atom_error a ∷ counted_error b ∷ counted_error l ∷ counted_error f ∷ atom_error s ∷ [])
