-- Terms of two arguments with a name.
use Rattle.std.specs.Prelude.{◌≡◌, Bool, false, Option, Some, None, bytes_eq}
use Rattle.pl_term.specs.Tree.{Chars, Tree, comp, more, none}
use Rattle.atom_api.specs.Names.{Names}
use Rattle.term_store.specs.declared.words.Place.{Place}
use Rattle.term_store.specs.Contents.{Contents, Holds}
use Rattle.world_builtins.specs.Naming.{IsHeldAt}
use Rattle.world_builtins.specs.Spelling.{reads}

abbrev pub is_pair : Chars → Tree → Bool
is_pair name (comp f t (more u none)) = bytes_eq f name
is_pair name _ = false

-- The term has this name and these two arguments, or it is no such term.
abbrev pub AreBoth : Names → Contents → Place → Chars → Option (Place × Place) → Type 0
AreBoth m s p t None = is_pair t (reads m s p) ≡ false
AreBoth m s p t (Some both) =
    (reads m s p ≡ comp t (reads m s both.0) (more (reads m s both.1) none)) × (IsHeldAt m s both.0 × IsHeldAt m s both.1)

abbrev pub AreBothIn : Contents → Option (Place × Place) → Type 0
AreBothIn s None = Unit {0}
AreBothIn s (Some both) = Holds s both.0 × Holds s both.1
