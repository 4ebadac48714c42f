-- Variables and compound terms that stay among themselves hold no newer variable.
use Rattle.std.proofs.Common.{◌≡◌, ◌⊎◌, inl, inr, ℕ, zero, suc, ◌<◌, ◌≤◌, false, ◌||◌, List, [], ◌∷◌, ◌++◌, length, get_or, pos, take, refl, sym, ap, ap₂, subst, ◌∙◌, arith, length-take, length-append}
use Rattle.std.specs.List.{All}
use Rattle.std.proofs.lemmas.Bool.{cases_lt}
use Rattle.std.proofs.lemmas.List.{get_or-take, get_or_append_left}
use Rattle.std.proofs.lemmas.List.Elements.{All-nil, All-cons, All-push, All-head, All-tail, All-take, All-weaker}
use Rattle.pl_term.specs.Tree.{Tree}
use Rattle.pl_term.specs.Variables.{has, replace}
use Rattle.pl_model.specs.Unify.{Bindings, bound}
use Rattle.pl_model.proofs.UnifyReplace.{eqb_other, replace-absent}
use Rattle.term_store.specs.declared.frontier.Frontier.{Frontier}
use Rattle.term_store.specs.declared.shorts.Short.{Short}
use Rattle.term_store.specs.declared.words.Bond.{Bond}
use Rattle.term_store.specs.declared.words.StoreMark.{StoreMark}
use Rattle.term_store.specs.declared.words.Word.{Word}
use Rattle.term_store.specs.declared.words.Word.TheVariants.{Var, Int, Atom, Comp}
use Rattle.term_store.specs.Apart.{NoneFrom}
use Rattle.term_store.specs.Entering.{IsHarmless}
use Rattle.term_store.specs.Fit.{Fit, IsBond, IsWord, no_head}
use Rattle.term_store.specs.Frontiers.{IsClosed, IsCutAt, IsNewer, IsPassed, StaysBehind, before_all}
use Rattle.term_store.specs.Heap.{Heap, atom_name, bindings, compounds, equations, equations_of, meaning, numbered, pushed, raw, solved, words_of}
use Rattle.term_store.specs.Making.{Longer}
use Rattle.term_store.specs.Marks.{IsWithin, cut}
use Rattle.term_store.specs.Shorts.{IsShort, long_word}
use Rattle.term_store.proofs.Apartness.{absent_compound, absent_replaced, absent_words}
use Rattle.term_store.proofs.Building.{words_of-longer}
use Rattle.term_store.proofs.Marked.{words_within}
use Rattle.term_store.proofs.Opening.{raw-opened, weaker_word}
use Rattle.term_store.proofs.Shorting.{word_is}

pub closed_blank : (f : Frontier) (h : Heap) → f ≡ before_all → h.trail ≡ [] → IsClosed f h
closed_blank f h e trail =
    subst (λ (g : Frontier). IsClosed g h) (sym e)
    (record {
      slots = omega arith;
      heads = omega arith;
      parts = λ k lt. absurd (omega (arith, lt));
      bonds = subst (λ bs. All (StaysBehind before_all) bs) (sym trail) (All-nil (StaysBehind before_all));
    })

-- All that there is.
pub closed_now : (h : Heap) (f : Frontier) → Fit h → f ≡ record { slots = length h.numbers; heads = length h.heads } → IsClosed f h
closed_now h f fit e =
    let all : Frontier = record { slots = length h.numbers; heads = length h.heads } in
    subst (λ (g : Frontier). IsClosed g h) (sym e)
    (record {
      slots = omega arith;
      heads = omega arith;
      parts = λ k lt. (fit.heads k lt).earlier;
      bonds = All-weaker (IsBond (length h.numbers) (length h.heads)) (StaysBehind all) (λ b fits _. fits.word) h.trail fit.bonds;
    })

-- More compound terms and variables.
pub closed_longer : (f : Frontier) (h d : Heap) → Fit h → Longer h d → IsClosed f h → IsClosed f d
closed_longer f h d fit longer c =
    subst (IsClosed f) (sym longer.longer)
    (record {
      slots = omega (arith, c.slots, length-append h.numbers longer.numbers);
      heads = omega (arith, c.heads, length-append h.heads longer.heads);
      parts = parts;
      bonds = c.bonds;
    })
  where
    parts : (k : ℕ) → k < f.heads → All (IsWord f.slots k) (words_of (h.args ++ longer.args) (get_or (h.heads ++ longer.heads) k no_head))
    parts k lt =
        let inside : k < length h.heads = omega (arith, lt, c.heads) in
        let g = get_or h.heads k no_head in
        subst (λ e. All (IsWord f.slots k) (words_of (h.args ++ longer.args) e)) (sym (get_or_append_left h.heads longer.heads no_head k inside))
        (subst (λ ws. All (IsWord f.slots k) ws) (sym (words_of-longer h.args longer.args g (fit.heads k inside).within)) (c.parts k lt))

-- One more binding.
pub closed_passed : (f g : Frontier) (h : Heap) (i : ℕ) (w : Word) (n m : ℕ) → n ≡ length h.numbers → m ≡ length h.heads → Fit (pushed h i w)
    → IsPassed f i w n m g → IsClosed f h → IsClosed g (pushed h i w)
closed_passed f g h i w n m numbers heads fit (inl (same, stays)) c =
    subst (λ (x : Frontier). IsClosed x (pushed h i w)) (sym same)
    (record {
      slots = c.slots;
      heads = c.heads;
      parts = c.parts;
      bonds = All-push (StaysBehind f) h.trail (record { slot = i; word = w }) c.bonds stays;
    })
closed_passed f g h i w n m numbers heads fit (inr moved) c =
    closed_now (pushed h i w) g fit (moved ∙ ap₂ (λ a b. record { slots = a; heads = b }) numbers heads)

-- What is left at a mark.
pub closed_cut : (m : StoreMark) (f g : Frontier) (h : Heap) → IsWithin m h → Fit (cut m h) → IsCutAt f m g → IsClosed f h → IsClosed g (cut m h)
closed_cut m f g h within fit (inl (same, (slots, heads))) c =
    subst (λ (x : Frontier). IsClosed x (cut m h)) (sym same)
    (record {
      slots = omega (arith, slots, length-take m.numbers h.numbers, within.numbers);
      heads = omega (arith, heads, length-take m.heads h.heads, within.heads);
      parts = parts;
      bonds = All-take (StaysBehind f) m.trail h.trail c.bonds;
    })
  where
    parts : (k : ℕ) → k < f.heads → All (IsWord f.slots k) (words_of (take m.args h.args) (get_or (take m.heads h.heads) k no_head))
    parts k lt =
        let below : k < m.heads = omega (arith, lt, heads) in
        let inside : k < length (take m.heads h.heads) = omega (arith, below, length-take m.heads h.heads, within.heads) in
        let e = get_or (take m.heads h.heads) k no_head in
        subst (λ ws. All (IsWord f.slots k) ws) (sym (words_within h.args m.args e (fit.heads k inside).within))
        (subst (λ x. All (IsWord f.slots k) (words_of h.args x)) (sym (get_or-take m.heads h.heads k no_head below)) (c.parts k lt))
closed_cut m f g h within fit (inr moved) c =
    let numbers : m.numbers ≡ length (take m.numbers h.numbers) = omega (arith, length-take m.numbers h.numbers, within.numbers) in
    let heads : m.heads ≡ length (take m.heads h.heads) = omega (arith, length-take m.heads h.heads, within.heads) in
    closed_now (cut m h) g fit (moved ∙ ap₂ (λ a b. record { slots = a; heads = b }) numbers heads)

-- No variable from the frontier on occurs in what a word below it stands for.
module _ (h : Heap) (f : Frontier) (fit : Fit h) (c : IsClosed f h) where
  raw_apart : (k : ℕ) (w : Word) → k ≤ f.heads → IsWord f.slots k w → NoneFrom f.slots h (raw h w)
  raw_apart k (Var j) le inside i above below =
      let rises : numbered h j < numbered h i = fit.rises j i (omega (arith, inside, above)) below in
      ap (λ b. b || false) (eqb_other (numbered h i) (numbered h j) (λ e. absurd (omega (arith, rises, e))))
  raw_apart k (Int n) le inside i above below = refl
  raw_apart k (Atom a) le inside i above below = refl
  raw_apart zero (Comp j) le inside i above below = absurd (omega (arith, inside))
  raw_apart (suc k) (Comp j) le inside i above below =
      let g = get_or h.heads j no_head in
      let lt : j < f.heads = omega (arith, inside, le) in
      let there : j < length h.heads = omega (arith, lt, c.heads) in
      let less : j ≤ k = omega (arith, inside) in
      let le' : k ≤ f.heads = omega (arith, le) in
      ap (has (numbered h i)) (raw-opened h j fit there)
      ∙ absent_compound (numbered h i) (atom_name g.name) h (words_of h.args g)
      (absent_words (numbered h i) h f.slots j (λ w is. raw_apart k w le' (weaker_word f.slots j k w less is) i above below) (words_of h.args g) (c.parts j lt))

  -- The variable is not below the frontier, or none from there on occurs in what it is bound to.
  abbrev IsBehind : ℕ × Tree → Type 0
  IsBehind e = ((j : ℕ) × ((f.slots ≤ j) × ((j < length h.numbers) × (e.0 ≡ numbered h j)))) ⊎ NoneFrom f.slots h e.1

  replaced : (b : ℕ × Tree) (t : Tree) → IsBehind b → NoneFrom f.slots h t → NoneFrom f.slots h (replace b.0 b.1 t)
  replaced b t (inl (j, (above, (inside, e)))) a =
      subst (NoneFrom f.slots h) (sym (replace-absent t b.0 b.1 (ap (λ x. has x t) e ∙ a j above inside))) a
  replaced b t (inr within) a = λ i above below. absent_replaced (numbered h i) b.0 b.1 t (within i above below) (a i above below)

  bound_apart : (bs : Bindings) (t : Tree) → All IsBehind bs → NoneFrom f.slots h t → NoneFrom f.slots h (bound bs t)
  bound_apart [] t all a = a
  bound_apart (b ∷ bs) t all a = bound_apart bs (replace b.0 b.1 t) (All-tail IsBehind b bs all) (replaced b t (All-head IsBehind b bs all) a)

  solved_one : (bs : Bindings) (e : ℕ × Tree) → All IsBehind bs → IsBehind e → IsBehind (e.0, bound bs e.1)
  solved_one bs e all (inl newer) = inl newer
  solved_one bs e all (inr within) = inr (bound_apart bs e.1 all within)

  solved_apart : (bs es : Bindings) → All IsBehind bs → All IsBehind es → All IsBehind (solved bs es)
  solved_apart bs [] all new = All-nil IsBehind
  solved_apart bs (e ∷ es) all new =
      let here = solved_one bs e all (All-head IsBehind e es new) in
      All-cons IsBehind (e.0, bound bs e.1) (solved (bs ++ (e.0, bound bs e.1) ∷ []) es) here
      (solved_apart (bs ++ (e.0, bound bs e.1) ∷ []) es (All-push IsBehind bs (e.0, bound bs e.1) all here) (All-tail IsBehind e es new))

  equation_apart : (b : Bond) → StaysBehind f b → IsBond (length h.numbers) (length h.heads) b → IsBehind (numbered h b.slot, raw h b.word)
  equation_apart b stays fits = elim (cases_lt b.slot f.slots) [
    | inl lt ↦ inr (raw_apart f.heads b.word (omega arith) (stays lt))
    | inr le ↦ inl (b.slot, (le, (fits.slot, refl)))
  ]

  equations_apart : (bs : List Bond) → All (StaysBehind f) bs → All (IsBond (length h.numbers) (length h.heads)) bs
      → All IsBehind (equations_of h.numbers (compounds h.numbers h.args h.heads) bs)
  equations_apart [] stay fit_all = All-nil IsBehind
  equations_apart (b ∷ bs) stay fit_all =
      All-cons IsBehind (numbered h b.slot, raw h b.word) (equations_of h.numbers (compounds h.numbers h.args h.heads) bs)
      (equation_apart b (All-head (StaysBehind f) b bs stay) (All-head (IsBond (length h.numbers) (length h.heads)) b bs fit_all))
      (equations_apart bs (All-tail (StaysBehind f) b bs stay) (All-tail (IsBond (length h.numbers) (length h.heads)) b bs fit_all))

  bindings_apart : All IsBehind (bindings h)
  unfolding bindings
  bindings_apart = solved_apart [] (equations h) (All-nil IsBehind) (equations_apart h.trail c.bonds fit.bonds)

  pub closed_apart : (w : Word) → IsWord f.slots f.heads w → NoneFrom f.slots h (meaning h w)
  closed_apart w inside = bound_apart (bindings h) (raw h w) bindings_apart (raw_apart f.heads w (omega arith) inside)

-- A variable of the block that stands for what is below the frontier is harmless.
pub harmless_newer : (h : Heap) (f : Frontier) (slot : ℕ) (known : List Word) (before x : ℕ) (p : Word) (s : Short) → Fit h → IsClosed f h
    → slot < length h.numbers → p ≡ Var x → IsNewer f slot s → IsShort s (get_or known x (Int (pos 0))) → IsHarmless h slot known before p
harmless_newer h f slot known before x p s fit c lt is newer short =
    let w = get_or known x (Int (pos 0)) in
    let same : w ≡ long_word [] s = word_is s s w newer.0 refl short in
    subst (IsHarmless h slot known before) (sym is)
    (λ _. closed_apart h f fit c w (subst (IsWord f.slots f.heads) (sym same) newer.1.1) slot newer.1.0 lt)
