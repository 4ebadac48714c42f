-- What was made before has no variable that was made since.
use Rattle.std.proofs.Common.{◌≡◌, ◌≢◌, inl, inr, ℕ, zero, suc, ◌<◌, ◌≤◌, Bool, true, false, ◌||◌, nat_le, nat_lt, List, [], ◌∷◌, ◌++◌, length, get_or, map, take, drop, None, refl, sym, ap, ap₂, subst, ◌∙◌, arith, length-take}
use Rattle.std.specs.List.{All}
use Rattle.std.proofs.Math.Seq.{take-length}
use Rattle.std.proofs.lemmas.Bool.{false≢true, leb-true}
use Rattle.std.proofs.lemmas.Bool.Decides.{Decides-ltb}
use Rattle.std.proofs.lemmas.List.{take-append-drop, get_or-take}
use Rattle.std.proofs.lemmas.List.Elements.{All-nil, All-cons, All-push, All-head, All-tail}
use Rattle.pl_term.specs.Tree.{Chars, Tree, compound, trees}
use Rattle.pl_term.specs.Variables.{has, has_all, occurrences, occurrences_all, replace}
use Rattle.pl_model.specs.Unify.{Bindings, bound}
use Rattle.pl_model.proofs.UnifyReplace.{absent_both, eqb_other, has-replaced}
use Rattle.pl_model.proofs.UnifyDifference.{and-true}
use Rattle.term_store.specs.declared.words.Word.{Word}
use Rattle.term_store.specs.declared.words.Word.TheVariants.{Var, Int, Atom, Comp}
use Rattle.term_store.specs.declared.words.Bond.{Bond}
use Rattle.term_store.specs.declared.words.StoreMark.{StoreMark}
use Rattle.term_store.specs.declared.older.Older.{Older}
use Rattle.term_store.specs.Apart.{NoneFrom, IsApart, SameFrom, is_apart, nothing_older, older_at}
use Rattle.term_store.specs.Heap.{Heap, atom_name, words_of, compounds, raw, equations_of, equations, solved, bindings, meaning, numbered, find, pushed}
use Rattle.term_store.specs.Fit.{IsWord, IsIn, IsBond, Fit, no_head}
use Rattle.term_store.specs.Marks.{IsWithin, cut}
use Rattle.term_store.specs.Making.{with_more}
use Rattle.term_store.specs.Unifying.{any_has}
use Rattle.term_store.proofs.Binding.{meaning-pushed}
use Rattle.term_store.proofs.Equations.{bound-int, bound-atom}
use Rattle.term_store.proofs.Growing.{meaning-longer}
use Rattle.term_store.proofs.Occurring.{var_found, int_found, atom_found, comp_found}
use Rattle.term_store.proofs.Opening.{raw-opened, weaker_word}

-- A variable is absent where it is neither in the term nor in what is put in.
pub absent_replaced : (y x : ℕ) (s t : Tree) → has y s ≡ false → has y t ≡ false → has y (replace x s t) ≡ false
absent_replaced y x s t a b = go (has y (replace x s t)) refl
  where
    go : (q : Bool) → has y (replace x s t) ≡ q → q ≡ false
    go false e = refl
    go true e = elim (has-replaced t x s y e) [
      | inl k ↦ absurd (false≢true (sym a ∙ k))
      | inr k ↦ absurd (false≢true (sym b ∙ k))
    ]

abbrev IsAbsent : ℕ → ℕ × Tree → Type 0
IsAbsent x e = has x e.1 ≡ false

absent_bound : (x : ℕ) (bs : Bindings) (t : Tree) → All (IsAbsent x) bs → has x t ≡ false → has x (bound bs t) ≡ false
absent_bound x [] t all a = a
absent_bound x (b ∷ bs) t all a =
    absent_bound x bs (replace b.0 b.1 t) (All-tail (IsAbsent x) b bs all) (absent_replaced x b.0 b.1 t (All-head (IsAbsent x) b bs all) a)

absent_solved : (x : ℕ) (bs es : Bindings) → All (IsAbsent x) bs → All (IsAbsent x) es → All (IsAbsent x) (solved bs es)
absent_solved x bs [] all new = All-nil (IsAbsent x)
absent_solved x bs (e ∷ es) all new =
    let here = absent_bound x bs e.1 all (All-head (IsAbsent x) e es new) in
    All-cons (IsAbsent x) (e.0, bound bs e.1) (solved (bs ++ (e.0, bound bs e.1) ∷ []) es) here
    (absent_solved x (bs ++ (e.0, bound bs e.1) ∷ []) es (All-push (IsAbsent x) bs (e.0, bound bs e.1) all here) (All-tail (IsAbsent x) e es new))

pub absent_words : (x : ℕ) (h : Heap) (n k : ℕ) → ((w : Word) → IsWord n k w → has x (raw h w) ≡ false) → (ws : List Word) → All (IsWord n k) ws
    → has_all x (trees (map (raw h) ws)) ≡ false
absent_words x h n k none [] all = refl
absent_words x h n k none (w ∷ ws) all =
    absent_both x (occurrences (raw h w)) (occurrences_all (trees (map (raw h) ws))) (none w (All-head (IsWord n k) w ws all))
    (absent_words x h n k none ws (All-tail (IsWord n k) w ws all))

pub absent_compound : (x : ℕ) (f : Chars) (h : Heap) (ws : List Word) → has_all x (trees (map (raw h) ws)) ≡ false → has x (compound f (map (raw h) ws)) ≡ false
absent_compound x f h [] a = refl
absent_compound x f h (w ∷ ws) a = a

-- A number that no variable of the heap has is in no term.
module _ (h : Heap) (x : ℕ) (fit : Fit h) (other : (j : ℕ) → j < length h.numbers → x ≢ numbered h j) where
  absent_raw : (k : ℕ) (w : Word) → k ≤ length h.heads → IsWord (length h.numbers) k w → has x (raw h w) ≡ false
  absent_raw k (Var j) le inside = ap (λ b. b || false) (eqb_other x (numbered h j) (other j inside))
  absent_raw k (Int n) le inside = refl
  absent_raw k (Atom a) le inside = refl
  absent_raw zero (Comp j) le inside = absurd (omega arith)
  absent_raw (suc k) (Comp j) le inside =
      let g = get_or h.heads j no_head in
      let lt : j < length h.heads = omega arith in
      let below : j ≤ k = omega arith in
      let less : k ≤ length h.heads = omega arith in
      ap (has x) (raw-opened h j fit lt)
      ∙ absent_compound x (atom_name g.name) h (words_of h.args g)
      (absent_words x h (length h.numbers) j (λ w is. absent_raw k w less (weaker_word (length h.numbers) j k w below is)) (words_of h.args g)
      (fit.heads j lt).earlier)

  absent_equations : (bs : List Bond) → All (IsBond (length h.numbers) (length h.heads)) bs
      → All (IsAbsent x) (equations_of h.numbers (compounds h.numbers h.args h.heads) bs)
  absent_equations [] all = All-nil (IsAbsent x)
  absent_equations (b ∷ bs) all =
      let one = All-head (IsBond (length h.numbers) (length h.heads)) b bs all in
      All-cons (IsAbsent x) (numbered h b.slot, raw h b.word) (equations_of h.numbers (compounds h.numbers h.args h.heads) bs)
      (absent_raw (length h.heads) b.word (omega arith) one.word)
      (absent_equations bs (All-tail (IsBond (length h.numbers) (length h.heads)) b bs all))

  absent_bindings : All (IsAbsent x) (bindings h)
  unfolding bindings
  absent_bindings = absent_solved x [] (equations h) (All-nil (IsAbsent x)) (absent_equations h.trail fit.bonds)

  pub absent_meaning : (w : Word) → IsIn h w → has x (meaning h w) ≡ false
  absent_meaning w inside = absent_bound x (bindings h) (raw h w) absent_bindings (absent_raw (length h.heads) w (omega arith) inside)

-- Where nothing is older.
pub apart_none : (h : Heap) → IsApart h nothing_older
apart_none h (Var j) inside i le lt = absurd (omega arith)
apart_none h (Int n) inside i le lt = ap (has (numbered h i)) (bound-int (bindings h) n)
apart_none h (Atom a) inside i le lt = ap (has (numbered h i)) (bound-atom (bindings h) (atom_name a))
apart_none h (Comp k) inside i le lt = absurd (omega arith)

-- What was there at a mark has none of the variables made since, if none was bound since.
module _ (m : StoreMark) (h : Heap) (within : IsWithin m h) (fit : Fit h) (before : Fit (cut m h)) (trail : m.trail ≡ length h.trail) where
  grown_since : h ≡ with_more (cut m h) (drop m.heads h.heads) (drop m.args h.args) (drop m.numbers h.numbers)
  grown_since =
      ap₂ (λ hs ws. record { heads = hs; args = ws; numbers = h.numbers; trail = h.trail })
      (sym (take-append-drop m.heads h.heads)) (sym (take-append-drop m.args h.args))
      ∙ ap₂ (λ ns bs. record {
        heads = take m.heads h.heads ++ drop m.heads h.heads;
        args = take m.args h.args ++ drop m.args h.args;
        numbers = ns;
        trail = bs;
      }) (sym (take-append-drop m.numbers h.numbers)) (sym (ap (λ n. take n h.trail) trail ∙ take-length h.trail))

  length_heads : length (take m.heads h.heads) ≡ m.heads
  length_heads = omega (arith, length-take m.heads h.heads, within.heads)

  length_numbers : length (take m.numbers h.numbers) ≡ m.numbers
  length_numbers = omega (arith, length-take m.numbers h.numbers, within.numbers)

  pub apart_cut : IsApart h (older_at m)
  apart_cut w inside i le lt =
      let c : Heap = cut m h in
      let inside' : IsIn c w = subst (λ k. IsWord (length c.numbers) k w) (sym length_heads) (subst (λ n. IsWord n m.heads w) (sym length_numbers) inside) in
      ap (λ d. has (numbered h i) (meaning d w)) grown_since
      ∙ ap (has (numbered h i)) (meaning-longer c (drop m.heads h.heads) (drop m.args h.args) (drop m.numbers h.numbers) w before inside')
      ∙ absent_meaning c (numbered h i) before
      (λ j below e.
      let earlier : j < m.numbers = omega (arith, length_numbers) in
      let rises : numbered h j < numbered h i = fit.rises j i (omega arith) lt in
      let same : numbered c j ≡ numbered h j = get_or-take m.numbers h.numbers j 0 earlier in
      absurd (omega (arith, rises, same, e)))
      w inside'

-- A binding keeps the bounds, if they are above what is in its term.
pub apart_pushed : (h : Heap) (i : ℕ) (w : Word) (o p : Older) → IsApart h o → p.slots ≡ o.slots → p.heads ≡ o.heads → o.top ≤ p.top
    → NoneFrom p.top h (meaning h w) → IsApart (pushed h i w) p
apart_pushed h i w o p apart slots heads le none u inside j above lt =
    let inside' : IsWord o.slots o.heads u = subst (λ k. IsWord o.slots k u) heads (subst (λ n. IsWord n p.heads u) slots inside) in
    ap (has (numbered h j)) (meaning-pushed h i w u)
    ∙ absent_replaced (numbered h j) (numbered h i) (meaning h w) (meaning h u) (none j above lt) (apart u inside' j (omega arith) lt)

-- What the bounds tell of a variable and a word.
pub bounds_tell : (h : Heap) (o : Older) (i : ℕ) (w : Word) → IsApart h o → i < length h.numbers → is_apart o i w ≡ true
    → (has (numbered h i) (meaning h w) ≡ false) × NoneFrom o.top h (meaning h w)
bounds_tell h o i (Var j) apart lt e =
    let p = and-true (nat_le o.top i) (nat_lt j o.slots) e in
    let inside : j < o.slots = (Decides-ltb j o.slots).0 p.1 in
    (apart (Var j) inside i (leb-true o.top i p.0) lt, apart (Var j) inside)
bounds_tell h o i (Int n) apart lt e = (ap (has (numbered h i)) (bound-int (bindings h) n), apart (Int n) tt)
bounds_tell h o i (Atom a) apart lt e = (ap (has (numbered h i)) (bound-atom (bindings h) (atom_name a)), apart (Atom a) tt)
bounds_tell h o i (Comp k) apart lt e =
    let p = and-true (nat_le o.top i) (nat_lt k o.heads) e in
    let inside : k < o.heads = (Decides-ltb k o.heads).0 p.1 in
    (apart (Comp k) inside i (leb-true o.top i p.0) lt, apart (Comp k) inside)

-- What is still to be looked at has the variables above the bound that it had with the word.
pub var_same : (h : Heap) (top i : ℕ) (at : Word) (walk : List Word) → Fit h → IsIn h at → at ≡ Var i → find i h.trail ≡ None → i < top
    → SameFrom top h walk walk at
var_same h top i at walk fit inside is free lt j above below =
    let ne : i ≢ j = λ e. absurd (omega arith) in
    sym (ap (λ q. q || any_has (numbered h j) h walk) (eqb_other i j ne)) ∙ var_found h i j at walk fit inside is below free

pub int_same : (h : Heap) (top : ℕ) (at : Word) (walk : List Word) → (n : _) → at ≡ Int n → SameFrom top h walk walk at
int_same h top at walk n is j above below = int_found h (numbered h j) at walk n is

pub atom_same : (h : Heap) (top : ℕ) (at : Word) (walk : List Word) (a : ℕ) → at ≡ Atom a → SameFrom top h walk walk at
atom_same h top at walk a is j above below = atom_found h (numbered h j) at walk a is

pub comp_same : (h : Heap) (top k : ℕ) (at : Word) (walk after : List Word) → Fit h → IsIn h at → at ≡ Comp k
    → after ≡ walk ++ words_of h.args (get_or h.heads k no_head) → SameFrom top h after walk at
comp_same h top k at walk after fit inside is e j above below = comp_found h (numbered h j) k at walk after fit inside is e
