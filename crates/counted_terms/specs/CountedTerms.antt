-- Which atoms a stored term counts, and what it says by the texts of its atoms.
use Rattle.std.specs.Prelude.{◌≡◌, ◌<◌, ℕ, ◌==◌, Bool, true, false, ◌&&◌, not, List, [], ◌∷◌}
use Rattle.std.specs.List.{Contains, list_any, sum_by}
use Rattle.std.specs.Option.{is_some}
use Rattle.std.specs.Ordering.{nat_cmp}
use Rattle.std.specs.BTreeSet as set
use Rattle.std.specs.BTreeSet.{BTreeSet}
use Rattle.pl_term.specs.Tree.{Tree}
use Rattle.term_store.specs.declared.nodes.AtomNode.{AtomNode}
use Rattle.term_store.specs.declared.nodes.AtomNode.TheVariants.{Var, Int, Atom, Comp}
use Rattle.term_store.specs.NumberedNames.{names_of, term_by}
use Rattle.atom_api.specs.Fixed.{fixed}
use Rattle.atom_api.specs.Names.{Names}
use Rattle.world_api.specs.Texts.{text_of}
use Rattle.atom_words.specs.declared.view.View.{View}
use Rattle.counted_terms.specs.Keeping.{kept, tally, times}

-- the list has the atom, which is not fixed
abbrev pub has_counted : ℕ → List ℕ → Bool
has_counted k atoms = list_any (λ a. a == k) atoms && not (is_some (fixed k))

abbrev pub bit : Bool → ℕ
bit true = 1
bit false = 0

-- HOW OFTEN A TERM COUNTS AN ATOM: once where it names it, and never where the atom is fixed
abbrev pub naming : ℕ → Tree → ℕ
naming k t = bit (has_counted k (names_of t))

-- WHAT A TERM SAYS by the texts that a map has of its atoms
abbrev pub said : Names → Tree → Tree
said m t = term_by (text_of m) t

-- the keeper counts each atom that the term counts
abbrev pub IsCounted : Tree → View → Type 0
IsCounted t k = (a : ℕ) → 0 < naming a t → 0 < tally k a

-- THE KEEPER COUNTS EACH ATOM EXACTLY AS OFTEN as terms of the list count it
abbrev pub IsExact : List Tree → View → Type 0
IsExact ts k = (a : ℕ) → tally k a ≡ sum_by (naming a) ts

-- each term of the list says by the texts of the one keeper what it says by those of the other
abbrev pub SaysOn : List Tree → View → View → Type 0
SaysOn ts k l = (t : Tree) → Contains ts t → said (kept l) t ≡ said (kept k) t

-- the atoms that nodes name
abbrev pub slots_of : List AtomNode → List ℕ
slots_of [] = []
slots_of (Var x ∷ ns) = slots_of ns
slots_of (Int i ∷ ns) = slots_of ns
slots_of (Atom a ∷ ns) = a ∷ slots_of ns
slots_of (Comp a n ∷ ns) = a ∷ slots_of ns

-- the list has each number of the set once, and no other
abbrev pub IsListed : BTreeSet ℕ → List ℕ → Type 0
IsListed met atoms = (k : ℕ) → times k atoms ≡ bit (set.contains nat_cmp met k)
