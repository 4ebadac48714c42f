-- The atoms of a goal that reads alike by all views are held.
use Rattle.std.proofs.Common.{ℕ, [], ◌∷◌, ◌++◌, IsSome, is_some, codes, ap}
use Rattle.std.specs.List.{All}
use Rattle.std.proofs.lemmas.List.Elements.{All-append, All-cons, All-nil}
use Rattle.pl_term.specs.Tree.{Chars, Tree, Trees, var, int, atom, comp, none, more}
use Rattle.atom_api.specs.Names.{FixedStand, Names}
use Rattle.term_store.specs.declared.words.Place.{Place}
use Rattle.term_store.specs.Contents.{Contents, term_at}
use Rattle.term_store.specs.NumberedNames.{atoms_in, atoms_in_all, number_of}
use Rattle.iso_engine.proofs.Answered.{zero_text}
use Rattle.iso_engine.proofs.Heldness.{IsHeldName}
use Rattle.iso_engine.proofs.Naming.{AllNames, AllNamesIn, IsShort, names_short}

module _ (m : Names) (first : IsSome (m 0)) where
  abbrev IsHeld : ℕ → Type 0
  IsHeld a = IsSome (m a)

  name_held : (f : Chars) → IsShort f → IsHeldName m f → IsHeld (number_of f)
  name_held [] s h = first
  name_held (a ∷ []) s h = h
  name_held (a ∷ (b ∷ bs)) s h = absurd s

  mutual
    all_held : (t : Tree) → AllNames IsShort t → AllNames (IsHeldName m) t → All IsHeld (atoms_in t)
    all_held (var x) s h = All-nil IsHeld
    all_held (int i) s h = All-nil IsHeld
    all_held (atom f) s h = All-cons IsHeld (number_of f) [] (name_held f s h) (All-nil IsHeld)
    all_held (comp f t ts) s h =
        All-cons IsHeld (number_of f) (atoms_in t ++ atoms_in_all ts) (name_held f s.0 h.0)
        (All-append IsHeld (atoms_in t) (atoms_in_all ts) (all_held t s.1.0 h.1.0) (all_held_in ts s.1.1 h.1.1))

    all_held_in : (ts : Trees) → AllNamesIn IsShort ts → AllNamesIn (IsHeldName m) ts → All IsHeld (atoms_in_all ts)
    all_held_in none s h = All-nil IsHeld
    all_held_in (more t ts) s h = All-append IsHeld (atoms_in t) (atoms_in_all ts) (all_held t s.0 h.0) (all_held_in ts s.1 h.1)

pub names_held : (m : Names) → FixedStand m → (s : Contents) (p : Place) → AllNames (IsHeldName m) (term_at s p) → All (λ a. IsSome (m a)) (atoms_in (term_at s p))
names_held m stands s p h = all_held m (ap is_some (stands 0 (codes "!") zero_text)) (term_at s p) (names_short s p) h
