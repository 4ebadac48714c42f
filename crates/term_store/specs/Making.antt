-- A heap that gains variables and compound terms.
use Rattle.std.specs.Prelude.{◌≡◌, ℕ, List, [], ◌∷◌, ◌++◌, map}
use Rattle.pl_term.specs.Tree.{compound}
use Rattle.term_store.specs.declared.words.Word.{Word}
use Rattle.term_store.specs.declared.words.Head.{Head}
use Rattle.term_store.specs.Heap.{Heap, atom_name, meaning}
use Rattle.term_store.specs.Fit.{IsIn}

abbrev pub with_args : Heap → List Word → Heap
with_args h ws = record h { args = ws }

abbrev pub with_number : Heap → ℕ → Heap
with_number h n = record h { numbers = h.numbers ++ n ∷ [] }

abbrev pub with_numbers : Heap → List ℕ → Heap
with_numbers h ns = record h { numbers = h.numbers ++ ns }

abbrev pub with_more : Heap → List Head → List Word → List ℕ → Heap
with_more h gs ws ns = record { heads = h.heads ++ gs; args = h.args ++ ws; numbers = h.numbers ++ ns; trail = h.trail }

-- The heap has gained compound terms and variables alone.
pub record Longer (c d : Heap) : Type 0 where
  pub heads : List Head
  pub args : List Word
  pub numbers : List ℕ
  pub longer : d ≡ with_more c heads args numbers

-- What the heap had stands for what it stood for.
pub record Keeps (c d : Heap) : Type 0 where
  pub inside : (w : Word) → IsIn c w → IsIn d w
  pub means : (w : Word) → IsIn c w → meaning d w ≡ meaning c w

-- The heap has gained this compound term.
pub record Made (c : Heap) (name : ℕ) (ws : List Word) (d : Heap) (w : Word) : Type 0 where
  pub longer : Longer c d
  pub numbers : d.numbers ≡ c.numbers
  pub keeps : Keeps c d
  pub inside : IsIn d w
  pub means : meaning d w ≡ compound (atom_name name) (map (meaning c) ws)
