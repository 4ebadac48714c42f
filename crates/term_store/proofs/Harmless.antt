-- A part of a block that holds nothing of the heap in which a variable occurs.
use Rattle.std.proofs.Common.{◌≡◌, ◌⊎◌, inl, inr, ℕ, zero, suc, ◌<◌, ◌≤◌, false, List, [], ◌∷◌, length, get_or, map, pos, refl, sym, ap, subst, ◌∙◌, arith}
use Rattle.std.specs.List.{All}
use Rattle.std.proofs.lemmas.Bool.{cases_lt}
use Rattle.std.proofs.lemmas.List.Elements.{All-head, All-tail}
use Rattle.pl_term.specs.Tree.{Chars, Tree, trees, compound}
use Rattle.pl_term.specs.Variables.{has, has_all, occurrences, occurrences_all}
use Rattle.pl_model.specs.Unify.{instance}
use Rattle.pl_model.proofs.UnifyReplace.{absent_both}
use Rattle.term_store.specs.declared.words.Word.{Word}
use Rattle.term_store.specs.declared.words.Word.TheVariants.{Var, Int, Atom, Comp}
use Rattle.term_store.specs.declared.block.Block.{Block}
use Rattle.term_store.specs.Blocks.{IsBlock, IsPart, arguments_of, block_heap, no_range, part_of}
use Rattle.term_store.specs.Entering.{IsHarmless, entered, value}
use Rattle.term_store.specs.Heap.{Heap, atom_name, meaning, numbered}
use Rattle.term_store.specs.Fit.{IsIn, IsWord, no_head}
use Rattle.term_store.proofs.Copying.{head_fits, part_known, range_fits}
use Rattle.term_store.proofs.Entering.{constant_absent, constant_entered}
use Rattle.term_store.proofs.Instances.{instance-compound}
use Rattle.term_store.proofs.Loading.{length-upwards}
use Rattle.term_store.proofs.Opening.{opened}
use Rattle.term_store.proofs.Ranging.{parts_wider}

-- What is said of a heap is said of one that is the same.
pub harmless_kept : (g h : Heap) (slot : ℕ) (known : List Word) (before : ℕ) (w : Word) → g ≡ h → IsHarmless g slot known before w
    → IsHarmless h slot known before w
harmless_kept g h slot known before w e = subst (λ (f : Heap). IsHarmless f slot known before w) e

compound_absent : (x : ℕ) (f : Chars) (ts : List Tree) → has_all x (trees ts) ≡ false → has x (compound f ts) ≡ false
compound_absent x f [] a = refl
compound_absent x f (t ∷ ts) a = a

module _ (b : Block) (block : IsBlock b) (e : Heap) (from : ℕ) (known : List Word) (words : All (IsIn e) known) (before slot k : ℕ) (inside : k < length b.heads.items)
    (ready : (get_or b.ranges.items k no_range).variables ≤ length known)
    (new : (i : ℕ) → before ≤ i → i < length known → has (numbered e slot) (meaning e (get_or known i (Int (pos 0)))) ≡ false)
    (harmless : (j : ℕ) → (get_or b.ranges.items k no_range).low ≤ j → j ≤ k → All (IsHarmless e slot known before) (arguments_of b j)) where
  abbrev x : ℕ
  x = numbered e slot

  abbrev low : ℕ
  low = (get_or b.ranges.items k no_range).low

  abbrev Absent : ℕ → Type 0
  Absent end = (j : ℕ) → low ≤ j → j < end → has x (entered b e from known (Comp j)) ≡ false

  variable_absent : (v : ℕ) → v < length known → (v < before → has x (meaning e (get_or known v (Int (pos 0)))) ≡ false) → has x (meaning e (get_or known v (Int (pos 0)))) ≡ false
  variable_absent v lt harm = go (cases_lt v before)
    where
      go : (v < before) ⊎ (before ≤ v) → has x (meaning e (get_or known v (Int (pos 0)))) ≡ false
      go (inl met) = harm met
      go (inr after) = new v after lt

  word_absent : (end : ℕ) → Absent end → (w : Word) → IsWord b.variables end w → IsPart (record { low = low; variables = length known }) w
      → IsHarmless e slot known before w → has x (entered b e from known w) ≡ false
  word_absent end done (Var v) is part harm =
      ap (has x) (sym (part_known b block e from known words v part (subst (λ n. v < n) (sym (length-upwards zero b.variables)) is)))
      ∙ variable_absent v part harm
  word_absent end done (Int i) is part harm = ap (has x) (sym (constant_entered b e e from known (Int i) tt)) ∙ constant_absent e x (Int i) tt
  word_absent end done (Atom a) is part harm = ap (has x) (sym (constant_entered b e e from known (Atom a) tt)) ∙ constant_absent e x (Atom a) tt
  word_absent end done (Comp j) is part harm = done j part is

  words_absent : (end : ℕ) → Absent end → (ws : List Word) → All (IsWord b.variables end) ws → All (IsPart (record { low = low; variables = length known })) ws
      → All (IsHarmless e slot known before) ws → has_all x (trees (map (instance (value e from known)) (map (part_of b) ws))) ≡ false
  words_absent end done [] is parts harm = refl
  words_absent end done (w ∷ ws) is parts harm =
      absent_both x (occurrences (entered b e from known w)) (occurrences_all (trees (map (instance (value e from known)) (map (part_of b) ws))))
      (word_absent end done w (All-head (IsWord b.variables end) w ws is) (All-head (IsPart (record { low = low; variables = length known })) w ws parts)
      (All-head (IsHarmless e slot known before) w ws harm))
      (words_absent end done ws (All-tail (IsWord b.variables end) w ws is) (All-tail (IsPart (record { low = low; variables = length known })) w ws parts)
      (All-tail (IsHarmless e slot known before) w ws harm))

  -- One compound term of the part.
  one_absent : (j : ℕ) → low ≤ j → j ≤ k → Absent j → has x (entered b e from known (Comp j)) ≡ false
  one_absent j lo hi done =
      let lt : j < length b.heads.items = omega (arith, inside) in
      let g = get_or b.heads.items j no_head in
      let r = get_or b.ranges.items k no_range in
      ap (has x)
      (ap (instance (value e from known)) (opened (block_heap b) j block.fit lt)
      ∙ instance-compound (value e from known) (atom_name g.name) (map (part_of b) (arguments_of b j)))
      ∙ compound_absent x (atom_name g.name) (map (instance (value e from known)) (map (part_of b) (arguments_of b j)))
      (words_absent j done (arguments_of b j) (head_fits b block j lt).earlier
      (parts_wider r (record { low = r.low; variables = length known }) (arguments_of b j) (omega arith) ready ((range_fits b block k inside).closed j lo (omega arith)))
      (harmless j lo hi))

  all_absent : (end : ℕ) → end ≤ suc k → Absent end
  all_absent zero le j lo lt = absurd (omega arith)
  all_absent (suc end) le j lo lt = go (all_absent end (omega arith)) (cases_lt j end)
    where
      go : Absent end → (j < end) ⊎ (end ≤ j) → has x (entered b e from known (Comp j)) ≡ false
      go done (inl below) = done j lo below
      go done (inr here) =
          one_absent j lo (omega (arith, lt, le)) (λ i up down. done i up (omega (arith, down, lt)))

  pub part_absent : has x (entered b e from known (Comp k)) ≡ false
  part_absent = all_absent (suc k) (omega arith) k (range_fits b block k inside).low (omega arith)
