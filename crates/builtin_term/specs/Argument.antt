-- The argument of a compound term that has a number (ISO 8.5.2).
use Rattle.std.specs.Prelude.{◌≡◌, ℕ, List, [], Option, Some, None, Result, Ok, Err, map}
use Rattle.std.specs.List.{Contains}
use Rattle.pl_term.specs.Tree.{Chars, Tree, trees}
use Rattle.pl_model.specs.BuiltinRows.{gives, error, one_answer}
use Rattle.pl_model.specs.TermBuiltins.{argument_at, argument_of, three}
use Rattle.atom_api.specs.Names.{Names}
use Rattle.term_store.specs.declared.words.Place.{Place}
use Rattle.term_store.specs.Contents.{Contents, Holds, term_at}
use Rattle.world_builtins.specs.Naming.{IsHeldAt}
use Rattle.world_builtins.specs.Spelling.{reads, spelled}
use Rattle.builtin_term.specs.declared.faults.Fault.{Fault}
use Rattle.builtin_term.specs.Faults.{IsFaultHeld, IsFaultIn, fault_term}

-- The argument with this number, counted from 1, or none where there is no such argument.
abbrev pub IsArgument : Contents → List Tree → ℕ → Option Place → Type 0
IsArgument s ts n None = (g : Chars → Chars) → argument_at n (trees (map (spelled g) ts)) ≡ None
IsArgument s ts n (Some p) =
    (Holds s p × Contains ts (term_at s p))
    × ((g : Chars → Chars) → argument_at n (trees (map (spelled g) ts)) ≡ Some (spelled g (term_at s p)))

-- What arg/3 comes to for the number and the term at these places: an error, no answer, or the argument at a place.
abbrev pub Selects : Contents → Place → Place → Result (Option Place) Fault → Type 0
Selects s number term (Err f) =
    (IsFaultIn s f × ((m : Names) → IsHeldAt m s number → IsHeldAt m s term → IsFaultHeld m s f))
    × ((m : Names) (a : Tree) → argument_of (reads m s number) (reads m s term) a ≡ error (fault_term m s f))
Selects s number term (Ok None) = (m : Names) (a : Tree) → argument_of (reads m s number) (reads m s term) a ≡ gives []
Selects s number term (Ok (Some p)) =
    (Holds s p × ((m : Names) → IsHeldAt m s term → IsHeldAt m s p))
    × ((m : Names) (a : Tree) → argument_of (reads m s number) (reads m s term) a ≡ one_answer (three (reads m s number) (reads m s term) (reads m s p)))
