-- Counting the cells of a term, word by word.
use Rattle.std.proofs.Common.{◌≡◌, ℕ, suc, ◌+◌, ◌<◌, List, [], ◌∷◌, ◌++◌, length, get_or, map, Option, None, refl, sym, ap, subst, ◌∙◌, arith}
use Rattle.std.proofs.lemmas.List.{length-map}
use Rattle.pl_term.specs.Tree.{Chars, compound, trees, count}
use Rattle.pl_term.specs.Cells.{compound_cells, compound_cells_all}
use Rattle.pl_term.proofs.Spelled.{count-trees}
use Rattle.term_store.specs.declared.words.Word.{Word}
use Rattle.term_store.specs.declared.words.Word.TheVariants.{Var, Int, Atom, Comp}
use Rattle.term_store.specs.Counting.{total, cost}
use Rattle.term_store.specs.Heap.{Heap, atom_name, words_of, bindings, meaning, find}
use Rattle.term_store.specs.Fit.{IsIn, Fit, no_head}
use Rattle.term_store.proofs.Equations.{bound-int, bound-atom}
use Rattle.term_store.proofs.Following.{stands}
use Rattle.term_store.proofs.Opening.{opened}
use Rattle.term_store.proofs.Turning.{length-words}

pub total-append : (h : Heap) (vs ws : List Word) → total h (vs ++ ws) ≡ total h vs + total h ws
total-append h [] ws = omega arith
total-append h (v ∷ vs) ws = omega (arith, total-append h vs ws)

total-all : (h : Heap) (ws : List Word) → compound_cells_all (trees (map (meaning h) ws)) ≡ total h ws
total-all h [] = refl
total-all h (w ∷ ws) = ap (λ n. compound_cells (meaning h w) + n) (total-all h ws)

cells-compound : (h : Heap) (f : Chars) (ws : List Word) → 0 < length ws → compound_cells (compound f (map (meaning h) ws)) ≡ suc (length ws) + total h ws
cells-compound h f [] some = absurd (omega arith)
cells-compound h f (w ∷ ws) some =
    let long : count (trees (map (meaning h) ws)) ≡ length ws = count-trees (map (meaning h) ws) ∙ length-map ws (meaning h) in
    omega (arith, long, total-all h ws)

-- A word that is no compound term has no cells.
pub var_counted : (h : Heap) (i : ℕ) (at : Word) (ws : List Word) → Fit h → IsIn h at → at ≡ Var i → find i h.trail ≡ None
    → total h ws + 0 ≡ total h ws + compound_cells (meaning h at)
var_counted h i at ws fit inside is free =
    ap (λ t. total h ws + compound_cells t) (sym (ap (meaning h) is ∙ stands h i fit (subst (IsIn h) is inside) free))

pub int_counted : (h : Heap) → (n : _) → (at : Word) (ws : List Word) → at ≡ Int n → total h ws + 0 ≡ total h ws + compound_cells (meaning h at)
int_counted h n at ws is = ap (λ t. total h ws + compound_cells t) (sym (ap (meaning h) is ∙ bound-int (bindings h) n))

pub atom_counted : (h : Heap) (a : ℕ) (at : Word) (ws : List Word) → at ≡ Atom a → total h ws + 0 ≡ total h ws + compound_cells (meaning h at)
atom_counted h a at ws is = ap (λ t. total h ws + compound_cells t) (sym (ap (meaning h) is ∙ bound-atom (bindings h) (atom_name a)))

pub comp_counted : (h : Heap) (k n : ℕ) (at : Word) (ws vs : List Word) → Fit h → IsIn h at → at ≡ Comp k → n ≡ (get_or h.heads k no_head).count
    → vs ≡ ws ++ words_of h.args (get_or h.heads k no_head)
    → total h vs + suc n ≡ total h ws + compound_cells (meaning h at)
comp_counted h k n at ws vs fit inside is count e =
    let lt = subst (IsIn h) is inside in
    let g = get_or h.heads k no_head in
    let args = words_of h.args g in
    let long : length args ≡ g.count = length-words h k fit lt in
    let some : 0 < g.count = (fit.heads k lt).some in
    let split : total h vs ≡ total h ws + total h args = ap (total h) e ∙ total-append h ws args in
    let whole : compound_cells (meaning h at) ≡ suc (length args) + total h args =
    ap (λ w. compound_cells (meaning h w)) is ∙ ap compound_cells (opened h k fit lt) ∙ cells-compound h (atom_name g.name) args (omega (arith, long, some)) in
    omega (arith, split, whole, long, count)

-- The count at its start, and as the last word is taken off the stack and looked at.
pub counts_one : (h : Heap) (ws : List Word) (w : Word) → ws ≡ w ∷ [] → total h ws ≡ compound_cells (meaning h w)
counts_one h ws w e = let one : total h ws ≡ total h (w ∷ []) = ap (total h) e in omega (arith, one)

counts_popped : (h : Heap) (ws vs : List Word) (w at : Word) → ws ≡ vs ++ w ∷ [] → meaning h at ≡ meaning h w
    → total h ws ≡ total h vs + compound_cells (meaning h at)
counts_popped h ws vs w at e same =
    let split : total h ws ≡ total h vs + total h (w ∷ []) = ap (total h) e ∙ total-append h vs (w ∷ []) in
    let one : compound_cells (meaning h at) ≡ compound_cells (meaning h w) = ap compound_cells same in
    omega (arith, split, one)

module _ (h : Heap) (limit left : ℕ) where
  pub goes_over : (whole : ℕ) (o : Option ℕ) (ws vs us : List Word) (w at : Word) → ws ≡ vs ++ w ∷ [] → meaning h at ≡ meaning h w
      → limit + total h ws ≡ whole + left → total h us + cost o ≡ total h vs + compound_cells (meaning h at) → left < cost o → limit < whole
  goes_over whole o ws vs us w at e same before opened over = omega (arith, counts_popped h ws vs w at e same, before, opened, over)

  pub goes_within : (rest whole : ℕ) (o : Option ℕ) (ws vs us : List Word) (w at : Word) → ws ≡ vs ++ w ∷ [] → meaning h at ≡ meaning h w
      → limit + total h ws ≡ whole + left → total h us + cost o ≡ total h vs + compound_cells (meaning h at) → rest + cost o ≡ left
      → limit + total h us ≡ whole + rest
  goes_within rest whole o ws vs us w at e same before opened taken = omega (arith, counts_popped h ws vs w at e same, before, opened, taken)
