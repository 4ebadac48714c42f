-- The cells of compound terms, counted from those of their arguments.
use Rattle.std.proofs.Common.{◌≡◌, ℕ, suc, ◌+◌, ◌<◌, ◌≤◌, ◌^◌, List, [], ◌∷◌, ◌++◌, length, get_or, map, take, drop, None, pos, refl, sym, ap, subst, ◌∙◌, arith}
use Rattle.std.specs.List.{All}
use Rattle.std.proofs.lemmas.List.{get_or-drop, get_or-map, get_or-take, map-append, take_all, take_more}
use Rattle.std.proofs.lemmas.List.Elements.{All-append, All-cons, All-get_or, All-nil, All-push, All-same, All-weaker}
use Rattle.pl_term.specs.Tree.{compound}
use Rattle.pl_term.specs.Cells.{compound_cells}
use Rattle.term_store.specs.declared.size.Size.{Size}
use Rattle.term_store.specs.declared.size.Size.TheVariants.{Cells, Over}
use Rattle.term_store.specs.declared.words.Word.{Word}
use Rattle.term_store.specs.declared.words.Word.TheVariants.{Var, Int, Atom, Comp}
use Rattle.term_store.specs.declared.words.Head.{Head}
use Rattle.term_store.specs.Counting.{total}
use Rattle.term_store.specs.Heap.{Heap, atom_name, words_of, bindings, meaning, find}
use Rattle.term_store.specs.Fit.{IsIn, Fit, no_head}
use Rattle.term_store.specs.Sizes.{AreWithin, IsCount, IsWithin, sizes_of}
use Rattle.term_store.proofs.Equations.{bound-int, bound-atom}
use Rattle.term_store.proofs.Following.{stands}
use Rattle.term_store.proofs.Occurring.{popped, words_inside}
use Rattle.term_store.proofs.Opening.{opened}
use Rattle.term_store.proofs.Totals.{comp_counted, total-append}
use Rattle.term_store.proofs.Turning.{length-words}
use Rattle.term_store.proofs.Visiting.{parts_less}

pub same_count : (size : Size) (m n : ℕ) → m ≡ n → IsCount size m → IsCount size n
same_count size m n e h = subst (IsCount size) e h

-- A word that is no compound term has no cells.
pub var_size : (h : Heap) (i : ℕ) (at : Word) → Fit h → IsIn h at → at ≡ Var i → find i h.trail ≡ None → 0 ≡ compound_cells (meaning h at)
var_size h i at fit inside is free = sym (ap compound_cells (ap (meaning h) is ∙ stands h i fit (subst (IsIn h) is inside) free))

pub int_size : (h : Heap) → (n : _) → (at : Word) → at ≡ Int n → 0 ≡ compound_cells (meaning h at)
int_size h n at is = sym (ap compound_cells (ap (meaning h) is ∙ bound-int (bindings h) n))

pub atom_size : (h : Heap) (a : ℕ) (at : Word) → at ≡ Atom a → 0 ≡ compound_cells (meaning h at)
atom_size h a at is = sym (ap compound_cells (ap (meaning h) is ∙ bound-atom (bindings h) (atom_name a)))

-- A compound term that was counted.
pub known_size : (h : Heap) (ks ns : List ℕ) (i k : ℕ) (at : Word) → at ≡ Comp k → ns ≡ sizes_of h ks → i < length ks → get_or ks i 0 ≡ k
    → get_or ns i 0 ≡ compound_cells (meaning h at)
known_size h ks ns i k at is e lt at_i =
    ap (λ xs. get_or xs i 0) e ∙ get_or-map (λ j. compound_cells (meaning h (Comp j))) ks i 0 0 lt
    ∙ ap (λ j. compound_cells (meaning h (Comp j))) at_i ∙ ap (λ w. compound_cells (meaning h w)) (sym is)

pub more_sizes : (h : Heap) (ks more ns : List ℕ) (k n : ℕ) → ns ≡ sizes_of h ks → more ≡ ks ++ k ∷ [] → n ≡ compound_cells (meaning h (Comp k))
    → ns ++ n ∷ [] ≡ sizes_of h more
more_sizes h ks more ns k n e f g =
    ap (λ xs. xs ++ n ∷ []) e ∙ ap (λ m. sizes_of h ks ++ m ∷ []) g
    ∙ sym (map-append (λ j. compound_cells (meaning h (Comp j))) ks (k ∷ [])) ∙ ap (sizes_of h) (sym f)

-- The sum of the arguments up to one.
module _ (h : Heap) (k : ℕ) (fit : Fit h) (lt : k < length h.heads) where
  abbrev g : Head
  g = get_or h.heads k no_head

  abbrev ws : List Word
  ws = words_of h.args g

  word_here : (i : ℕ) → i < g.count → get_or ws i (Int (pos 0)) ≡ get_or h.args (g.start + i) (Int (pos 0))
  word_here i less = get_or-take g.count (drop g.start h.args) i (Int (pos 0)) less ∙ get_or-drop g.start h.args i (Int (pos 0))

  pub word_inside : (i : ℕ) → i < g.count → IsIn h (get_or h.args (g.start + i) (Int (pos 0)))
  word_inside i less =
      subst (IsIn h) (word_here i less)
      (All-get_or (IsIn h) ws i (Int (pos 0)) (omega (arith, length-words h k fit lt, less)) (words_inside h k fit lt))

  pub sum_begins : (size : Size) (n : ℕ) → n ≡ g.count → IsCount size (1 + n) → IsCount size (suc g.count + total h (take 0 ws))
  sum_begins size n e s = same_count size (1 + n) (suc g.count + total h (take 0 ws)) (omega (arith, e)) s

  pub sum_goes_on : (size : Size) (i : ℕ) (at : Word) → i < g.count → meaning h at ≡ meaning h (get_or h.args (g.start + i) (Int (pos 0)))
      → IsCount size ((suc g.count + total h (take i ws)) + compound_cells (meaning h at)) → IsCount size (suc g.count + total h (take (i + 1) ws))
  sum_goes_on size i at less same s =
      let d = get_or ws i (Int (pos 0)) in
      let one : total h (d ∷ []) ≡ compound_cells (meaning h at) =
      omega (arith, ap (λ w. compound_cells (meaning h w)) (word_here i less) ∙ sym (ap compound_cells same)) in
      let split : total h (take (i + 1) ws) ≡ total h (take i ws) + total h (d ∷ []) =
      ap (total h) (take_more ws i (Int (pos 0)) (omega (arith, length-words h k fit lt, less))) ∙ total-append h (take i ws) (d ∷ []) in
      same_count size ((suc g.count + total h (take i ws)) + compound_cells (meaning h at)) (suc g.count + total h (take (i + 1) ws))
      (omega (arith, split, one)) s

  pub sum_ends : (size : Size) (i : ℕ) → g.count ≤ i → IsCount size (suc g.count + total h (take i ws)) → IsCount size (compound_cells (meaning h (Comp k)))
  sum_ends size i le s =
      let all : take i ws ≡ ws = take_all i ws (omega (arith, length-words h k fit lt, le)) in
      let whole : total h ws + suc g.count ≡ total h [] + compound_cells (meaning h (Comp k)) = comp_counted h k g.count (Comp k) [] ws fit lt refl refl refl in
      same_count size (suc g.count + total h (take i ws)) (compound_cells (meaning h (Comp k))) (omega (arith, whole, ap (total h) all)) s

  -- The arguments stand for terms of no more cells.
  args_within : (m : ℕ) → compound_cells (meaning h (Comp k)) ≤ m → All (IsWithin h m) ws
  args_within m le =
      let name = atom_name g.name in
      let is : compound_cells (compound name (map (meaning h) ws)) ≤ m = subst (λ t. compound_cells t ≤ m) (opened h k fit lt) le in
      All-weaker (λ w. compound_cells (meaning h w) < compound_cells (compound name (map (meaning h) ws))) (IsWithin h m) (λ w less. omega arith) ws
      (parts_less (meaning h) name ws)

  pub opened_within : (n : ℕ) (at : Word) (old one new : List Word) → at ≡ Comp k → n ≡ compound_cells (meaning h at) → one ≡ old ++ Comp k ∷ [] → new ≡ one ++ ws
      → AreWithin h n old new
  opened_within n at old one new is e f d m le all =
      let whole : compound_cells (meaning h (Comp k)) ≤ m = subst (λ w. compound_cells (meaning h w) ≤ m) is (subst (λ j. j ≤ m) e le) in
      All-same (IsWithin h m) new (one ++ ws) d
      (All-append (IsWithin h m) one ws
      (All-same (IsWithin h m) one (old ++ Comp k ∷ []) f (All-push (IsWithin h m) old (Comp k) all whole)) (args_within m whole))

-- The last word is taken off the stack.
pub popped_within : (h : Heap) (n : ℕ) (ws vs : List Word) (w at : Word) → ws ≡ vs ++ w ∷ [] → meaning h at ≡ meaning h w → All (IsWithin h n) ws
    → All (IsWithin h n) vs × (compound_cells (meaning h at) ≤ n)
popped_within h n ws vs w at e same all =
    let parts = popped (IsWithin h n) ws vs w e all in (parts.0, subst (λ t. compound_cells t ≤ n) (sym same) parts.1)

pub known_cells : (h : Heap) (n : ℕ) (size : Size) (w at : Word) → meaning h at ≡ meaning h w → IsCount size (compound_cells (meaning h at)) → size ≡ Cells n
    → n ≡ compound_cells (meaning h w)
known_cells h n size w at same count e = subst (λ s. IsCount s (compound_cells (meaning h at))) e count ∙ ap compound_cells same

pub over_cells : (h : Heap) (size : Size) (w at : Word) → meaning h at ≡ meaning h w → IsCount size (compound_cells (meaning h at)) → size ≡ Over
    → 2 ^ 64 ≤ compound_cells (meaning h w)
over_cells h size w at same count e =
    subst (λ t. 2 ^ 64 ≤ compound_cells t) same (subst (λ s. IsCount s (compound_cells (meaning h at))) e count)

pub started_within : (h : Heap) (ws vs : List Word) (w : Word) → ws ≡ vs ++ w ∷ [] → vs ≡ [] → All (IsWithin h (compound_cells (meaning h w))) ws
started_within h ws vs w e none_yet =
    let n = compound_cells (meaning h w) in
    let le : n ≤ n = omega arith in
    All-same (IsWithin h n) ws (w ∷ []) (e ∙ ap (λ us. us ++ w ∷ []) none_yet) (All-cons (IsWithin h n) w [] le (All-nil (IsWithin h n)))
