-- A walk that gathers the atoms of a term, and comes to each compound term once.
use Rattle.std.specs.Prelude.{◌≡◌, ℕ, ◌<◌, ◌⊎◌, List, length, slice_index_or}
use Rattle.std.specs.List.{All, Contains}
use Rattle.pl_term.specs.Tree.{Tree}
use Rattle.term_store.specs.declared.words.Word.{Word}
use Rattle.term_store.specs.declared.words.Word.TheVariants.{Var, Int, Atom, Comp}
use Rattle.term_store.specs.Cells.{IsFree}
use Rattle.term_store.specs.Heap.{Heap, meaning, words_of}
use Rattle.term_store.specs.Fit.{IsIn, no_head}
use Rattle.term_store.specs.NumberedNames.{atoms_in}

-- What the word itself is was gathered, or is a compound term that the walk has come to.
abbrev pub IsDone : List ℕ → List ℕ → Word → Type 0
IsDone seen live (Var i) = Unit {0}
IsDone seen live (Int i) = Unit {0}
IsDone seen live (Atom a) = Contains live a
IsDone seen live (Comp k) = Contains seen k

-- The word was come to.
pub record IsSettled (h : Heap) (seen live : List ℕ) (w : Word) : Type 0 where
  pub at : Word
  pub means : meaning h at ≡ meaning h w
  pub free : IsFree h at
  pub inside : IsIn h at
  pub done : IsDone seen live at

-- It was, or it is still to be looked at.
abbrev pub IsReached : Heap → List Word → List ℕ → List ℕ → Word → Type 0
IsReached h walk seen live w = Contains walk w ⊎ IsSettled h seen live w

-- Of a compound term that the walk has come to, the name was gathered, and the arguments are reached.
pub record IsOpened (h : Heap) (walk : List Word) (seen live : List ℕ) (k : ℕ) : Type 0 where
  pub inside : k < length h.heads
  pub name : Contains live (slice_index_or h.heads k no_head).name
  pub parts : All (IsReached h walk seen live) (words_of h.args (slice_index_or h.heads k no_head))

-- The term names no atom but those of another.
abbrev pub NamesWithin : Tree → Tree → Type 0
NamesWithin t u = (a : ℕ) → Contains (atoms_in u) a → Contains (atoms_in t) a

-- The walk through the term that the word stands for, from the atoms that were there before.
pub record IsGathering (h : Heap) (root : Word) (before : List ℕ) (walk : List Word) (seen live : List ℕ) : Type 0 where
  pub words : All (IsIn h) walk
  pub begun : IsReached h walk seen live root
  pub opened : All (IsOpened h walk seen live) seen
  pub within : All (λ w. NamesWithin (meaning h root) (meaning h w)) walk
  pub kept : (a : ℕ) → Contains before a → Contains live a
  pub only : (a : ℕ) → Contains live a → Contains before a ⊎ Contains (atoms_in (meaning h root)) a
