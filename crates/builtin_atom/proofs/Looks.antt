-- What stands at a place, as it is read.
use Rattle.std.proofs.Common.{◌≡◌, ℕ, ℤ, pos, ◌<◌, List, [], ◌∷◌, length, drop, Some, sym, ap, subst, ◌∙◌, arith, length-take, length-drop}
use Rattle.std.specs.Prelude.{IsSome}
use Rattle.std.specs.List.{All}
use Rattle.std.proofs.lemmas.List.{length-map}
use Rattle.std.proofs.lemmas.List.Elements.{All-nil}
use Rattle.pl_term.specs.Tree.{Chars, Tree, Trees, var, int, atom, comp, trees, compound}
use Rattle.atom_api.specs.Names.{Names}
use Rattle.term_store.specs.declared.words.Place.{Place}
use Rattle.term_store.specs.declared.views.Arguments.{Arguments}
use Rattle.term_store.specs.Heap.{atom_name, meaning}
use Rattle.term_store.specs.Contents.{Contents, Holds, IsArguments, arguments_at, words_at, term_at}
use Rattle.world_builtins.specs.Naming.{IsHeldAt, atoms_in}
use Rattle.world_builtins.specs.Spelling.{or_no_text, reads, spelled, spelled_all, text_of}

pub how_many : (s : Contents) (a : Arguments) → IsArguments s a → length (arguments_at s a) ≡ a.count
how_many s a is =
    omega (arith, length-map (words_at s a) (meaning s.heap), length-take a.count (drop a.start s.heap.args), length-drop a.start s.heap.args, is.within)

-- A compound term, read.
pub record IsCompound (t : Tree) : Type 0 where
  pub name : Chars
  pub first : Tree
  pub others : Trees
  pub is : t ≡ comp name first others

spelled_compound : (g : Chars → Chars) (f : Chars) (t : Tree) (ts : List Tree) → t ≡ compound f ts → 0 < length ts → IsCompound (spelled g t)
spelled_compound g f t [] e some = absurd (omega (arith, some))
spelled_compound g f t (u ∷ us) e some =
    record { name = g f; first = spelled g u; others = spelled_all g (trees us); is = ap (spelled g) e }

pub read_compound : (m : Names) (s : Contents) (p : Place) (f : ℕ) (a : Arguments) → term_at s p ≡ compound (atom_name f) (arguments_at s a) → IsArguments s a → 0 < a.count
    → IsCompound (reads m s p)
read_compound m s p f a e is some =
    spelled_compound (text_of m) (atom_name f) (term_at s p) (arguments_at s a) e (omega (arith, how_many s a is, some))

pub read_variable : (m : Names) (s : Contents) (p : Place) (x : ℕ) → term_at s p ≡ var x → reads m s p ≡ var x
read_variable m s p x e = ap (spelled (text_of m)) e

pub read_integer : (m : Names) (s : Contents) (p : Place) (i : ℤ) → term_at s p ≡ int i → reads m s p ≡ int i
read_integer m s p i e = ap (spelled (text_of m)) e

pub read_atom : (m : Names) (s : Contents) (p : Place) (a : ℕ) → term_at s p ≡ atom (atom_name a) → reads m s p ≡ atom (text_of m (atom_name a))
read_atom m s p a e = ap (spelled (text_of m)) e

-- An integer that stands everywhere.
pub number_reads : (m : Names) (s : Contents) (p : Place) (z : ℤ) (n : ℕ) → ((u : Contents) → Holds u p × (term_at u p ≡ int z)) → z ≡ pos n → reads m s p ≡ int (pos n)
number_reads m s p z n place e = ap (spelled (text_of m)) ((place s).1) ∙ ap int e

pub integer_held : (m : Names) (s : Contents) (p : Place) (z : ℤ) → ((u : Contents) → Holds u p × (term_at u p ≡ int z)) → IsHeldAt m s p
integer_held m s p z place = subst (λ u. All (λ a. IsSome (m a)) (atoms_in u)) (sym ((place s).1)) (All-nil (λ a. IsSome (m a)))

pub standing_number : (m : Names) (s : Contents) (p : Place) (n : ℕ) → ((u : Contents) → Holds u p × (term_at u p ≡ int (pos n))) → reads m s p ≡ int (pos n)
standing_number m s p n place = ap (spelled (text_of m)) ((place s).1)

-- The text of an atom that is held.
pub text_is : (m : Names) (a : ℕ) (t : Chars) → m a ≡ Some t → text_of m (atom_name a) ≡ t
text_is m a t e = ap (or_no_text (atom_name a)) e
