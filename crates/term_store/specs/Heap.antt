-- A heap of terms, and what its words stand for. The names of its terms are the numbers of atoms: a text of that one
-- number stands in the place of the atom's text, so that all that is said of terms is said of these.
use Rattle.std.specs.Prelude.{ℕ, zero, Bool, true, not, ◌&&◌, ◌==◌, List, [], ◌∷◌, ◌++◌, map, take, drop, slice_index_or, Option, Some, None, if◌then◌else◌}
use Rattle.pl_term.specs.Tree.{Chars, Tree, var, int, atom, compound}
use Rattle.pl_term.specs.Variables.{has}
use Rattle.pl_model.specs.Unify.{Bindings, bound}
use Rattle.term_store.specs.declared.words.Word.{Word}
use Rattle.term_store.specs.declared.words.Word.TheVariants.{Var, Int, Atom, Comp}
use Rattle.term_store.specs.declared.words.Head.{Head}
use Rattle.term_store.specs.declared.words.Bond.{Bond}

-- The name that stands for an atom.
abbrev pub atom_name : ℕ → Chars
atom_name a = a ∷ []

-- The heads of the compound terms in the order in which these were made, the arguments of all of them, the numbers of
-- the variables by slot, and the bindings in the order in which they were made.
pub record Heap : Type 0 where
  pub heads : List Head
  pub args : List Word
  pub numbers : List ℕ
  pub trail : List Bond

-- A heap without terms.
abbrev pub blank_heap : Heap
blank_heap = record { heads = []; args = []; numbers = []; trail = [] }

-- What a word says by itself, over the compound terms made before.
abbrev pub word_tree : List ℕ → List Tree → Word → Tree
word_tree numbers done (Var i) = var (slice_index_or numbers i zero)
word_tree numbers done (Int i) = int i
word_tree numbers done (Atom a) = atom (atom_name a)
word_tree numbers done (Comp k) = slice_index_or done k (atom [])

-- The words that are a head's arguments.
abbrev pub words_of : List Word → Head → List Word
words_of args h = take h.count (drop h.start args)

abbrev pub head_tree : List ℕ → List Word → List Tree → Head → Tree
head_tree numbers args done h = compound (atom_name h.name) (map (word_tree numbers done) (words_of args h))

-- The compound terms: each is made of earlier ones.
abbrev pub built : List ℕ → List Word → List Head → List Tree → List Tree
built numbers args [] done = done
built numbers args (h ∷ hs) done = built numbers args hs (done ++ head_tree numbers args done h ∷ [])

unfoldable pub compounds : List ℕ → List Word → List Head → List Tree
compounds numbers args heads = built numbers args heads []

abbrev pub raw : Heap → Word → Tree
raw h w = word_tree h.numbers (compounds h.numbers h.args h.heads) w

-- The number of the variable of a slot.
abbrev pub numbered : Heap → ℕ → ℕ
numbered h i = slice_index_or h.numbers i zero

-- The bindings as equations between a variable and what its word says by itself.
abbrev pub equations_of : List ℕ → List Tree → List Bond → Bindings
equations_of numbers done [] = []
equations_of numbers done (b ∷ bs) = (slice_index_or numbers b.slot zero, word_tree numbers done b.word) ∷ equations_of numbers done bs

abbrev pub equations : Heap → Bindings
equations h = equations_of h.numbers (compounds h.numbers h.args h.heads) h.trail

-- Each equation under those before it.
abbrev pub solved : Bindings → Bindings → Bindings
solved bs [] = []
solved bs (e ∷ es) = (e.0, bound bs e.1) ∷ solved (bs ++ (e.0, bound bs e.1) ∷ []) es

unfoldable pub bindings : Heap → Bindings
bindings h = solved [] (equations h)

-- The term that a word stands for.
abbrev pub meaning : Heap → Word → Tree
meaning h w = bound (bindings h) (raw h w)

-- The word that a slot is bound to.
abbrev pub find : ℕ → List Bond → Option Word
find i [] = None
find i (b ∷ bs) = if i == b.slot then Some b.word else find i bs

-- The heap with these bindings in the place of its own.
abbrev pub with_trail : Heap → List Bond → Heap
with_trail h bs = record h { trail = bs }

-- The heap with one more binding.
abbrev pub pushed : Heap → ℕ → Word → Heap
pushed h i w = with_trail h (h.trail ++ record { slot = i; word = w } ∷ [])

-- Whether each variable of the equations is new, and not in the term that it is bound to.
abbrev pub named : ℕ → Bindings → Bool
named x [] = not true
named x (b ∷ bs) = if x == b.0 then true else named x bs

abbrev pub fair : Bindings → Bindings → Bool
fair bs [] = true
fair bs (e ∷ es) =
    not (named e.0 bs) && (not (has e.0 (bound bs e.1)) && fair (bs ++ (e.0, bound bs e.1) ∷ []) es)
