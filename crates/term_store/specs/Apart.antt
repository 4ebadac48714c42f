-- Variables that do not occur in what was made before.
use Rattle.std.specs.Prelude.{◌≡◌, ℕ, ◌<◌, ◌≤◌, Bool, true, false, ◌&&◌, ◌||◌, nat_le, nat_lt, List, length}
use Rattle.pl_term.specs.Tree.{Tree}
use Rattle.pl_term.specs.Variables.{has}
use Rattle.term_store.specs.declared.words.StoreMark.{StoreMark}
use Rattle.term_store.specs.declared.words.Word.{Word}
use Rattle.term_store.specs.declared.words.Word.TheVariants.{Var, Int, Atom, Comp}
use Rattle.term_store.specs.declared.older.Older.{Older}
use Rattle.term_store.specs.Heap.{Heap, meaning, numbered}
use Rattle.term_store.specs.Fit.{IsWord}
use Rattle.term_store.specs.Unifying.{any_has}

-- No variable of a slot from `top` on occurs in the term.
abbrev pub NoneFrom : ℕ → Heap → Tree → Type 0
NoneFrom top h t = (i : ℕ) → top ≤ i → i < length h.numbers → has (numbered h i) t ≡ false

-- None of these variables occurs in what an older word stands for.
abbrev pub IsApart : Heap → Older → Type 0
IsApart h o = (w : Word) → IsWord o.slots o.heads w → NoneFrom o.top h (meaning h w)

abbrev pub nothing_older : Older
nothing_older = record { slots = 0; heads = 0; top = 0 }

-- All that there was at a mark.
abbrev pub older_at : StoreMark → Older
older_at m = record { slots = m.numbers; heads = m.heads; top = m.numbers }

-- Whether it is known by the bounds alone that the variable of a slot does not occur in what a word stands for.
abbrev pub is_apart : Older → ℕ → Word → Bool
is_apart o i (Var j) = nat_le o.top i && nat_lt j o.slots
is_apart o i (Int n) = true
is_apart o i (Atom a) = true
is_apart o i (Comp k) = nat_le o.top i && nat_lt k o.heads

-- The variables of slots from `top` on that occur in what the first words stand for are those that occur in what the second
-- ones do, or in what one more does.
abbrev pub SameFrom : ℕ → Heap → List Word → List Word → Word → Type 0
SameFrom top h vs ws w =
    (i : ℕ) → top ≤ i → i < length h.numbers → any_has (numbered h i) h vs ≡ (any_has (numbered h i) h ws || has (numbered h i) (meaning h w))
