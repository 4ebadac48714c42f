-- The term of a name and a number of arguments (ISO 8.5.1).
use Rattle.std.specs.Prelude.{◌≡◌, ℕ, ◌+◌, ◌*◌, ◌<◌, ◌^◌, ℤ, pos, [], ◌∷◌, Option, Some, None, Result, Ok, Err}
use Rattle.pl_term.specs.Tree.{var, int, atom}
use Rattle.pl_model.specs.BuiltinRows.{Row as Defined, gives, error, one_answer}
use Rattle.pl_model.specs.Checks.{first_error, bound_error, integer_error, negative_error}
use Rattle.pl_model.specs.Terms.{named_term}
use Rattle.pl_model.specs.TermBuiltins.{functor_of, new_variables, three}
use Rattle.atom_api.specs.Names.{Names}
use Rattle.term_store.specs.declared.words.Place.{Place}
use Rattle.term_store.specs.Heap.{atom_name}
use Rattle.term_store.specs.Contents.{Contents, term_at}
use Rattle.world_builtins.specs.Naming.{IsHeldAt}
use Rattle.world_builtins.specs.Spelling.{reads, text_of}
use Rattle.builtin_term.specs.declared.faults.Fault.{Fault}
use Rattle.builtin_term.specs.declared.functors.Wanted.{Wanted}
use Rattle.builtin_term.specs.declared.functors.Wanted.TheVariants.{Itself, Compound}
use Rattle.builtin_term.specs.Faults.{IsFaultHeld, IsFaultIn, fault_term}

-- The row in which the compound term of the name `f` and `count` new variables is made.
abbrev pub functor_row : Names → Contents → ℕ → ℕ → ℕ → Place → Place → Defined
functor_row m s next f count name arity =
    gives
    (record {
      terms = three (named_term (text_of m (atom_name f)) (new_variables next count)) (reads m s name) (reads m s arity);
      fresh = count;
      made = 2 * count + 1;
    } ∷ [])

-- The number of arguments, or the first error of the place at which it should stand.
abbrev pub IsCount : Contents → Place → Result ℕ Fault → Type 0
IsCount s p (Ok n) = (term_at s p ≡ int (pos n)) × (n < 2 ^ 63)
IsCount s p (Err f) =
    (IsFaultIn s f × ((m : Names) → IsHeldAt m s p → IsFaultHeld m s f))
    × ((m : Names) → first_error (bound_error (reads m s p) ∷ (integer_error (reads m s p) ∷ (negative_error (reads m s p) ∷ []))) ≡ Some (fault_term m s f))

-- The name is this atom, or an integer.
abbrev pub IsNameOf : Contents → Place → Option ℕ → Type 0
IsNameOf s p (Some f) = term_at s p ≡ atom (atom_name f)
IsNameOf s p None = (i : ℤ) × (term_at s p ≡ int i)

-- What functor/3 of a variable comes to for the name and the number of arguments at these places.
abbrev pub IsWanted : Contents → Place → Place → Result Wanted Fault → Type 0
IsWanted s name arity (Err f) =
    (IsFaultIn s f × ((m : Names) → IsHeldAt m s name → IsHeldAt m s arity → IsFaultHeld m s f))
    × ((m : Names) (next x : ℕ) → functor_of next (var x) (reads m s name) (reads m s arity) ≡ error (fault_term m s f))
IsWanted s name arity (Ok Itself) =
    (m : Names) (next x : ℕ) → functor_of next (var x) (reads m s name) (reads m s arity) ≡ one_answer (three (reads m s name) (reads m s name) (reads m s arity))
IsWanted s name arity (Ok (Compound f k)) =
    ((0 < k) × ((k < 2 ^ 63) × (term_at s name ≡ atom (atom_name f))))
    × ((m : Names) (next x : ℕ) → functor_of next (var x) (reads m s name) (reads m s arity) ≡ functor_row m s next f k name arity)
