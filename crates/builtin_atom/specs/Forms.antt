-- Characters of lists: as atoms of one character, or as their codes.
use Rattle.std.specs.Prelude.{◌≡◌, ℕ, false, Option, Some, None, codes}
use Rattle.pl_term.specs.Tree.{Chars, Tree, var}
use Rattle.pl_model.specs.AtomBuiltins.{as_character, character_error, character_in, code_error, number}
use Rattle.pl_model.specs.Balls.{instantiation_error, representation_error, type_error}
use Rattle.pl_model.specs.Checks.{natural_of}
use Rattle.pl_model.specs.Terms.{is_variable}
use Rattle.atom_api.specs.Names.{Names}
use Rattle.term_store.specs.Contents.{Contents, Holds}
use Rattle.world_builtins.specs.Naming.{IsHeldAt}
use Rattle.world_builtins.specs.Spelling.{reads}
use Rattle.builtin_atom.specs.declared.forms.Form.{Form}
use Rattle.builtin_atom.specs.declared.forms.Form.TheVariants.{Characters, Codes}
use Rattle.builtin_atom.specs.declared.forms.Fault.{Fault}
use Rattle.builtin_atom.specs.declared.forms.Fault.TheVariants.{Unbound, NoCharacter, NoInteger, NoCode}
use Rattle.builtin_atom.specs.declared.forms.Read.{Read}
use Rattle.builtin_atom.specs.declared.forms.Read.TheVariants.{Character, Bad}

-- The check of an element, the character that it stands for, and the element for a character.
abbrev pub check_by : Form → Tree → Option Tree
check_by Characters = character_error
check_by Codes = code_error

abbrev pub from_by : Form → Tree → ℕ
from_by Characters = character_in
from_by Codes = natural_of

abbrev pub to_by : Form → ℕ → Tree
to_by Characters = as_character
to_by Codes = number

-- The predicates between atoms and lists (ISO 8.16.4, 8.16.5).
abbrev pub atom_predicate : Form → Chars
atom_predicate Characters = codes "atom_chars"
atom_predicate Codes = codes "atom_codes"

-- The predicates between integers and lists (ISO 8.16.7, 8.16.8).
abbrev pub number_predicate : Form → Chars
number_predicate Characters = codes "number_chars"
number_predicate Codes = codes "number_codes"

-- The error term of what is wrong with an element.
abbrev pub error_of : Names → Contents → Fault → Tree
error_of m s Unbound = instantiation_error
error_of m s (NoCharacter p) = type_error (codes "character") (reads m s p)
error_of m s (NoInteger p) = type_error (codes "integer") (reads m s p)
error_of m s NoCode = representation_error (codes "character_code")

-- The place of the term at fault is one of the store.
abbrev pub IsFaultIn : Contents → Fault → Type 0
IsFaultIn s Unbound = Unit {0}
IsFaultIn s (NoCharacter p) = Holds s p
IsFaultIn s (NoInteger p) = Holds s p
IsFaultIn s NoCode = Unit {0}

-- The atoms of that term are held.
abbrev pub IsFaultHeld : Names → Contents → Fault → Type 0
IsFaultHeld m s Unbound = Unit {0}
IsFaultHeld m s (NoCharacter p) = IsHeldAt m s p
IsFaultHeld m s (NoInteger p) = IsHeldAt m s p
IsFaultHeld m s NoCode = Unit {0}

-- Only a variable is unbound.
abbrev pub IsFaultOf : Tree → Fault → Type 0
IsFaultOf t Unbound = (x : ℕ) × (t ≡ var x)
IsFaultOf t f = is_variable t ≡ false

-- What is wrong is something else than that it is a variable.
abbrev pub IsBound : Fault → Type 0
IsBound Unbound = ⊥
IsBound f = Unit {0}

-- What an element is read as.
abbrev pub IsRead : Form → Names → Contents → Tree → Read → Type 0
IsRead form m s t (Character c) = (check_by form t ≡ None) × (t ≡ to_by form c)
IsRead form m s t (Bad f) = (check_by form t ≡ Some (error_of m s f)) × (IsFaultOf t f × (IsFaultIn s f × IsFaultHeld m s f))
