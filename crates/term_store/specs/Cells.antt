-- What contracts see of the vectors of a store.
use Rattle.std.specs.Prelude.{◌≡◌, None}
use Rattle.term_store.specs.declared.words.Word.{Word}
use Rattle.term_store.specs.declared.words.Word.TheVariants.{Var, Int, Atom, Comp}
use Rattle.term_store.specs.declared.cells.Cells.{Cells}
use Rattle.term_store.specs.declared.shorts.Short.{Short}
use Rattle.term_store.specs.Heap.{Heap, find, meaning}
use Rattle.term_store.specs.Fit.{Fit, IsCache, IsIn}
use Rattle.term_store.specs.Frontiers.{IsClosed}
use Rattle.term_store.specs.GroundMarks.{AreMarks}
use Rattle.term_store.specs.GroundTerms.{AreGroundTerms}
use Rattle.term_store.specs.Shorts.{IsShort}

abbrev pub heap_of : Cells → Heap
heap_of c = record { heads = c.heads.items; args = c.args.items; numbers = c.numbers.items; trail = c.bonds.items }

pub record IsFit (c : Cells) : Type 0 where
  pub fit : Fit (heap_of c)
  pub cache : IsCache c.bonds.values (heap_of c)
  pub marks : AreMarks c.grounds.items (heap_of c)
  pub settled : AreGroundTerms c.settled.list.items (heap_of c)
  pub closed : IsClosed c.frontier (heap_of c)

-- A word that is not a bound variable.
abbrev pub IsFree : Heap → Word → Type 0
IsFree h (Var i) = find i h.trail ≡ None
IsFree h (Int i) = Unit {0}
IsFree h (Atom a) = Unit {0}
IsFree h (Comp k) = Unit {0}

-- The short word stands for a word that is not a bound variable, and means what another does.
pub record Followed (h : Heap) (s : Short) (v : Word) : Type 0 where
  pub word : Word
  pub short : IsShort s word
  pub means : meaning h word ≡ meaning h v
  pub inside : IsIn h word
  pub free : IsFree h word
