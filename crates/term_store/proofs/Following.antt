-- What a bound variable and a free one stand for.
use Rattle.std.proofs.Common.{◌≡◌, ◌≢◌, ℕ, zero, suc, ◌<◌, ◌≤◌, Bool, true, false, cond, ◌==◌, List, [], ◌∷◌, length, get_or, Option, Some, None, refl, sym, ap, subst, ◌∙◌, ◌⊎◌, inl, inr, arith}
use Rattle.std.specs.List.{All}
use Rattle.std.proofs.lemmas.Bool.{false≢true, cases_lt}
use Rattle.std.proofs.lemmas.Bool.Decides.{Decides-eqb}
use Rattle.std.proofs.lemmas.List.Elements.{All-head, All-tail}
use Rattle.pl_term.specs.Tree.{Tree, var}
use Rattle.pl_model.proofs.UnifyReplace.{eqb_other}
use Rattle.term_store.specs.declared.words.Word.{Word}
use Rattle.term_store.specs.declared.words.Word.TheVariants.{Var, Int, Atom, Comp}
use Rattle.term_store.specs.declared.words.Bond.{Bond}
use Rattle.term_store.specs.declared.shorts.Short.{Short}
use Rattle.term_store.specs.declared.shorts.Short.TheVariants.{Free, Slot, Number, Name, Term, Wide}
use Rattle.term_store.specs.declared.shorts.Beyond.{Beyond}
use Rattle.term_store.specs.Cells.{IsFree}
use Rattle.term_store.specs.Heap.{Heap, word_tree, compounds, raw, numbered, equations_of, equations, bindings, meaning, find, named}
use Rattle.term_store.specs.Fit.{IsWord, IsIn, Below, IsBond, IsCache, Fit}
use Rattle.term_store.specs.Shorts.{long_word}
use Rattle.term_store.proofs.Equations.{lookup, follows, unnamed, named-solved}

-- A measure for following bound variables: their slots fall.
abbrev pub rank : Word → ℕ
rank (Var i) = suc i
rank (Int i) = zero
rank (Atom a) = zero
rank (Comp k) = zero

pub rank-below : (i : ℕ) (w : Word) → Below i w → rank w < suc i
rank-below i (Var j) h = omega arith
rank-below i (Int j) h = omega arith
rank-below i (Atom a) h = omega arith
rank-below i (Comp k) h = omega arith

-- The variables' numbers differ, since they rise.
abbrev pub Rises : List ℕ → Type 0
Rises numbers = (i j : ℕ) → i < j → j < length numbers → get_or numbers i 0 < get_or numbers j 0

pub same_slot : (numbers : List ℕ) (i j : ℕ) → Rises numbers → i < length numbers → j < length numbers
    → get_or numbers i 0 ≡ get_or numbers j 0 → i ≡ j
same_slot numbers i j rises a b e = go (cases_lt i j) (cases_lt j i)
  where
    go : (i < j) ⊎ (j ≤ i) → (j < i) ⊎ (i ≤ j) → i ≡ j
    go (inl h) k = absurd (omega (arith, rises i j h b))
    go (inr h) (inl k) = absurd (omega (arith, rises j i k a))
    go (inr h) (inr k) = omega arith

module _ (numbers : List ℕ) (done : List Tree) where
  -- A slot's binding is the first equation for its number.
  pub found : (m i : ℕ) (w : Word) (bs : List Bond) → Rises numbers → i < length numbers → All (IsBond (length numbers) m) bs
      → find i bs ≡ Some w → lookup (get_or numbers i 0) (equations_of numbers done bs) ≡ Some (word_tree numbers done w)
  found m i w [] rises h all f = cc
  found m i w (b ∷ bs) rises h all f = go (found m i w bs rises h (All-tail (IsBond (length numbers) m) b bs all)) (i == b.slot) refl f
    where
      bond : IsBond (length numbers) m b
      bond = All-head (IsBond (length numbers) m) b bs all

      go : (find i bs ≡ Some w → lookup (get_or numbers i 0) (equations_of numbers done bs) ≡ Some (word_tree numbers done w))
          → (q : Bool) → (i == b.slot) ≡ q → cond q (Some b.word) (find i bs) ≡ Some w
          → cond (get_or numbers i 0 == get_or numbers b.slot 0) (Some (word_tree numbers done b.word))
          (lookup (get_or numbers i 0) (equations_of numbers done bs)) ≡ Some (word_tree numbers done w)
      go ih true e k =
          let same : b.word ≡ w = cc in
          ap (λ q. cond q (Some (word_tree numbers done b.word)) (lookup (get_or numbers i 0) (equations_of numbers done bs)))
          ((Decides-eqb (get_or numbers i 0) (get_or numbers b.slot 0)).1 (ap (λ j. get_or numbers j 0) ((Decides-eqb i b.slot).0 e)))
          ∙ ap (λ v. Some (word_tree numbers done v)) same
      go ih false e k =
          ap (λ q. cond q (Some (word_tree numbers done b.word)) (lookup (get_or numbers i 0) (equations_of numbers done bs)))
          (eqb_other (get_or numbers i 0) (get_or numbers b.slot 0)
          (λ s. false≢true (sym e ∙ (Decides-eqb i b.slot).1 (same_slot numbers i b.slot rises h bond.slot s))))
          ∙ ih k

  pub missing : (m i : ℕ) (bs : List Bond) → Rises numbers → i < length numbers → All (IsBond (length numbers) m) bs
      → find i bs ≡ None → named (get_or numbers i 0) (equations_of numbers done bs) ≡ false
  missing m i [] rises h all f = refl
  missing m i (b ∷ bs) rises h all f = go (missing m i bs rises h (All-tail (IsBond (length numbers) m) b bs all)) (i == b.slot) refl f
    where
      bond : IsBond (length numbers) m b
      bond = All-head (IsBond (length numbers) m) b bs all

      go : (find i bs ≡ None → named (get_or numbers i 0) (equations_of numbers done bs) ≡ false)
          → (q : Bool) → (i == b.slot) ≡ q → cond q (Some b.word) (find i bs) ≡ None
          → cond (get_or numbers i 0 == get_or numbers b.slot 0) true (named (get_or numbers i 0) (equations_of numbers done bs)) ≡ false
      go ih true e k = cc
      go ih false e k =
          ap (λ q. cond q true (named (get_or numbers i 0) (equations_of numbers done bs)))
          (eqb_other (get_or numbers i 0) (get_or numbers b.slot 0)
          (λ s. false≢true (sym e ∙ (Decides-eqb i b.slot).1 (same_slot numbers i b.slot rises h bond.slot s))))
          ∙ ih k

-- A bound variable stands for what its word stands for.
pub through : (h : Heap) (i : ℕ) (w : Word) → Fit h → i < length h.numbers → find i h.trail ≡ Some w → meaning h w ≡ meaning h (Var i)
unfolding bindings
through h i w fit inside f =
    sym (follows [] (equations h) (numbered h i) (raw h w) fit.fairly
    (found h.numbers (compounds h.numbers h.args h.heads) (length h.heads) i w h.trail fit.rises inside fit.bonds f))

-- A free variable stands for itself.
pub stands : (h : Heap) (i : ℕ) → Fit h → i < length h.numbers → find i h.trail ≡ None → meaning h (Var i) ≡ var (numbered h i)
unfolding bindings
stands h i fit inside f =
    unnamed (numbered h i) (bindings h)
    (named-solved (numbered h i) [] (equations h)
    ∙ missing h.numbers (compounds h.numbers h.args h.heads) (length h.heads) i h.trail fit.rises inside fit.bonds f)

-- The binding that is found is one of those made.
pub find-All : (P : Bond → Type 0) (i : ℕ) (w : Word) (bs : List Bond) → All P bs → find i bs ≡ Some w → (b : Bond) × P b × (b.slot ≡ i) × (b.word ≡ w)
find-All P i w [] all f = cc
find-All P i w (b ∷ bs) all f = go (find-All P i w bs (All-tail P b bs all)) (i == b.slot) refl f
  where
    here : P b
    here = All-head P b bs all

    go : (find i bs ≡ Some w → (c : Bond) × P c × (c.slot ≡ i) × (c.word ≡ w))
        → (q : Bool) → (i == b.slot) ≡ q → cond q (Some b.word) (find i bs) ≡ Some w → (c : Bond) × P c × (c.slot ≡ i) × (c.word ≡ w)
    go ih true e k = (b, here, sym ((Decides-eqb i b.slot).0 e), cc)
    go ih false e k = ih k

pub found_bond : (h : Heap) (i : ℕ) (w : Word) → Fit h → find i h.trail ≡ Some w → IsIn h w × Below i w
found_bond h i w fit f = go (find-All (IsBond (length h.numbers) (length h.heads)) i w h.trail fit.bonds f)
  where
    go : (b : Bond) × IsBond (length h.numbers) (length h.heads) b × (b.slot ≡ i) × (b.word ≡ w) → IsIn h w × Below i w
    go (b, bond, s, e) = (subst (IsWord (length h.numbers) (length h.heads)) e bond.word, subst (λ v. Below i v) e (subst (λ j. Below j b.word) s bond.falls))

-- The measure of a word as it is kept.
pub rank_short : (bs cs : List Beyond) (s : Short) → rank (long_word bs s) ≡ rank (long_word cs s)
rank_short bs cs Free = refl
rank_short bs cs (Slot i) = refl
rank_short bs cs (Number i) = refl
rank_short bs cs (Name a) = refl
rank_short bs cs (Term k) = refl
rank_short bs cs (Wide k) = refl

-- A word that is kept as no variable.
pub free_word : (h : Heap) (bs : List Beyond) (s : Short) → ((i : ℕ) → s ≢ Slot i) → IsFree h (long_word bs s)
free_word h bs Free ne = tt
free_word h bs (Slot i) ne = absurd (ne i refl)
free_word h bs (Number i) ne = tt
free_word h bs (Name a) ne = tt
free_word h bs (Term k) ne = tt
free_word h bs (Wide k) ne = tt

-- A bound variable, the word that it is bound to, and the measure.
pub word_followed : (h : Heap) (values : List (Option Word)) (i : ℕ) (w : Word) → Fit h → IsCache values h → i < length h.numbers → Some w ≡ get_or values i None
    → (meaning h w ≡ meaning h (Var i)) × IsIn h w × (rank w < suc i)
word_followed h values i w fit cache inside e =
    let f : find i h.trail ≡ Some w = sym (e ∙ cache.found i (subst (λ n. i < n) (sym cache.long) inside)) in
    let b = found_bond h i w fit f in
    (through h i w fit inside f, b.0, rank-below i w b.1)
