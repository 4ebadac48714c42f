-- Terms by themselves, as they would stand in a store without others.
use Rattle.std.specs.Prelude.{◌≡◌, ℕ, zero, suc, pos, ◌+◌, ◌-◌, ◌<◌, ◌≤◌, List, [], ◌∷◌, length, slice_index_or}
use Rattle.std.specs.List.{All}
use Rattle.pl_term.specs.Tree.{Tree}
use Rattle.term_store.specs.declared.words.Word.{Word}
use Rattle.term_store.specs.declared.words.Word.TheVariants.{Var, Int, Atom, Comp}
use Rattle.term_store.specs.declared.words.Head.{Head}
use Rattle.term_store.specs.declared.block.Range.{Range}
use Rattle.term_store.specs.declared.block.Block.{Block}
use Rattle.term_store.specs.Contents.{upwards}
use Rattle.term_store.specs.Heap.{Heap, meaning, words_of}
use Rattle.term_store.specs.Fit.{Fit, IsIn, no_head}

-- The store in which the block would stand alone, with its variables, numbered from 0 on.
abbrev pub block_heap : Block → Heap
block_heap b = record { heads = b.heads.items; args = b.args.items; numbers = upwards zero b.variables; trail = [] }

-- The term that a word of the block stands for.
abbrev pub part_of : Block → Word → Tree
part_of b w = meaning (block_heap b) w

-- The words that are the arguments of a compound term of the block.
abbrev pub arguments_of : Block → ℕ → List Word
arguments_of b k = words_of b.args.items (slice_index_or b.heads.items k no_head)

-- A variable before a number of them, or a compound term that stands no earlier than a place.
abbrev pub IsPart : Range → Word → Type 0
IsPart r (Var x) = x < r.variables
IsPart r (Int i) = Unit {0}
IsPart r (Atom a) = Unit {0}
IsPart r (Comp k) = r.low ≤ k

-- The arguments of the compound terms between two places are such parts.
abbrev pub IsClosed : List Head → List Word → Range → ℕ → ℕ → Type 0
IsClosed heads args r from end = (j : ℕ) → from ≤ j → j < end → All (IsPart r) (words_of args (slice_index_or heads j no_head))

abbrev pub no_range : Range
no_range = record { low = zero; variables = zero }

-- All that stands below a compound term is between the range's place and the term's own.
pub record IsRange (n : ℕ) (heads : List Head) (args : List Word) (k : ℕ) (r : Range) : Type 0 where
  pub low : r.low ≤ k
  pub few : r.variables ≤ n
  pub closed : IsClosed heads args r r.low (suc k)

-- Each of the first compound terms has its range.
abbrev pub AreRanges : ℕ → List Head → List Word → ℕ → List Range → Type 0
AreRanges n heads args end rs = (k : ℕ) → k < end → IsRange n heads args k (slice_index_or rs k no_range)

-- Ranges that stand one after the other from one place to another.
abbrev pub Tiles : ℕ → List Head → List Word → ℕ → List Range → ℕ → Type 0
Tiles n heads args from [] end = from ≡ end
Tiles n heads args from (r ∷ rs) end =
    ((r.low ≡ from) × (r.variables ≤ n)) × ((mid : ℕ) × (((from ≤ mid) × IsClosed heads args r from mid) × Tiles n heads args mid rs end))

pub record IsBlock (b : Block) : Type 0 where
  pub fit : Fit (block_heap b)
  pub root : IsIn (block_heap b) b.root
  pub long : length b.ranges.items ≡ length b.heads.items
  pub ranges : AreRanges b.variables b.heads.items b.args.items (length b.heads.items) b.ranges.items

-- The block keeps the head of the compound term that is the head of its clause.
abbrev pub IsFirst : Block → Type 0
IsFirst b = (k : ℕ) → b.head ≡ Comp k → b.first ≡ slice_index_or b.heads.items k no_head

-- A word of a block as it stands in a store, where words of the store stand for the block's variables, and the block's compound
-- terms from `low` on stand from `above` on.
abbrev pub copied : List Word → ℕ → ℕ → Word → Word
copied known low above (Var x) = slice_index_or known x (Int (pos 0))
copied known low above (Int i) = Int i
copied known low above (Atom a) = Atom a
copied known low above (Comp k) = Comp (above + (k - low))
