-- Terms that are made of the elements of a list (ISO 8.5.3).
use Rattle.std.specs.Prelude.{◌≡◌, ℕ, ◌+◌, List, [], ◌∷◌, length, map, Option, Some, None, Result, Ok, Err}
use Rattle.pl_term.specs.Tree.{Tree, atom, trees}
use Rattle.pl_model.specs.BuiltinRows.{Row as Defined, error, one_answer}
use Rattle.pl_model.specs.Terms.{named_term}
use Rattle.pl_model.specs.TermBuiltins.{composes, makes, two}
use Rattle.atom_api.specs.Names.{Names}
use Rattle.term_store.specs.declared.words.Place.{Place}
use Rattle.term_store.specs.Heap.{atom_name}
use Rattle.term_store.specs.Contents.{Contents, term_at}
use Rattle.world_builtins.specs.Naming.{IsHeldAt}
use Rattle.world_builtins.specs.Spelling.{reads, text_of}
use Rattle.builtin_term.specs.declared.faults.Fault.{Fault}
use Rattle.builtin_term.specs.Faults.{IsFaultHeld, IsFaultIn, fault_term}

-- The culprit stands in the store, and its atoms are held where those of the term at the place are.
pub record IsFaultOf (s : Contents) (p : Place) (f : Fault) : Type 0 where
  pub inside : IsFaultIn s f
  pub held : (m : Names) → IsHeldAt m s p → IsFaultHeld m s f

-- What (=..)/2 of a variable comes to for a list of the one element at this place.
abbrev pub IsAlone : Contents → Place → Option Fault → Type 0
IsAlone s p None = (m : Names) (l : Tree) → composes l (reads m s p ∷ []) ≡ one_answer (two (reads m s p) l)
IsAlone s p (Some f) = IsFaultOf s p f × ((m : Names) (l : Tree) → composes l (reads m s p ∷ []) ≡ error (fault_term m s f))

-- The name that stands at a place, or why a list of more elements that begins with this one is refused.
abbrev pub IsName : Contents → Place → Result ℕ Fault → Type 0
IsName s p (Ok a) = term_at s p ≡ atom (atom_name a)
IsName s p (Err f) =
    IsFaultOf s p f × ((m : Names) (l t : Tree) (ts : List Tree) → composes l (reads m s p ∷ (t ∷ ts)) ≡ error (fault_term m s f))

-- The row in which the compound term of this name and the terms at these places is made.
abbrev pub composed_row : Names → Contents → ℕ → Place → List Place → Defined
composed_row m s name list arguments =
    makes (two (named_term (text_of m (atom_name name)) (trees (map (reads m s) arguments))) (reads m s list)) (1 + length arguments)
