-- What is known of the pairs of compound terms that a unification has come by.
use Rattle.std.specs.Prelude.{◌≡◌, ◌⊎◌, ℕ, ◌<◌, List, ◌++◌, drop}
use Rattle.std.specs.List.{All}
use Rattle.pl_term.specs.Cells.{compound_cells}
use Rattle.pl_model.specs.Unify.{Bindings, bound}
use Rattle.term_store.specs.declared.words.Word.TheVariants.{Comp}
use Rattle.term_store.specs.declared.words.Meeting.{Meeting}
use Rattle.term_store.specs.declared.words.Pair.{Pair}
use Rattle.term_store.specs.Heap.{Heap, meaning}

-- Under these bindings the pair's first word stands for a smaller term than the compound term.
abbrev pub IsSmaller : Heap → Bindings → ℕ → Pair → Type 0
IsSmaller h bs k p = compound_cells (bound bs (meaning h p.left)) < compound_cells (bound bs (meaning h (Comp k)))

-- Under these bindings the pair's words stand for the same term.
abbrev pub IsJoined : Heap → Bindings → Pair → Type 0
IsJoined h bs p = bound bs (meaning h p.left) ≡ bound bs (meaning h p.right)

-- Whatever is bound from now on, the pairs are parts of the two compound terms, which are the same once the pairs are joined.
pub record Close (h : Heap) (k l : ℕ) (ps : List Pair) : Type 0 where
  pub smaller : (bs : Bindings) → All (IsSmaller h bs k) ps
  pub closes : (bs : Bindings) → All (IsJoined h bs) ps → bound bs (meaning h (Comp k)) ≡ bound bs (meaning h (Comp l))

-- The compound terms are the same, or will be once all pairs from a place of the stack on are joined.
abbrev pub IsMet : Heap → List Pair → Meeting → Type 0
IsMet h ps m = (meaning h (Comp m.left) ≡ meaning h (Comp m.right)) ⊎ ((from : ℕ) × Close h m.left m.right (drop from ps))

-- The stack has gained the pairs of the arguments of two compound terms.
pub record Parts (h : Heap) (k l : ℕ) (before after : List Pair) : Type 0 where
  pub gained : List Pair
  pub pushed : after ≡ before ++ gained
  pub close : Close h k l gained
