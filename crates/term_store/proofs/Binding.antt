-- A heap with one more binding.
use Rattle.std.proofs.Common.{◌≡◌, ◌≢◌, ℕ, ◌<◌, Bool, true, false, cond, ◌==◌, List, [], ◌∷◌, ◌++◌, length, get_or, set, Option, Some, None, refl, sym, ap, subst, ◌∙◌, append_assoc, append-nil, get_or-set_same, get_or-set_other}
use Rattle.std.proofs.Math.ListN.{length-set}
use Rattle.std.proofs.lemmas.Bool.{false≢true}
use Rattle.std.proofs.lemmas.Bool.Decides.{Decides-eqb}
use Rattle.std.proofs.lemmas.List.Elements.{All-push}
use Rattle.pl_term.specs.Tree.{Tree}
use Rattle.pl_term.specs.Variables.{has, replace}
use Rattle.pl_model.specs.Unify.{bound}
use Rattle.pl_model.proofs.UnifyReplace.{eqb_same, eqb_other}
use Rattle.term_store.specs.declared.words.Word.{Word}
use Rattle.term_store.specs.declared.words.Bond.{Bond}
use Rattle.term_store.specs.Heap.{Heap, word_tree, compounds, raw, numbered, equations_of, equations, solved, bindings, meaning, find, pushed, fair}
use Rattle.term_store.specs.Fit.{IsIn, Below, IsBond, OnceFrom, Fit, IsCache}
use Rattle.term_store.proofs.Equations.{bound-append, solved-snoc, fair-snoc, named-solved}
use Rattle.term_store.proofs.Following.{missing}

pub equations_of-append : (numbers : List ℕ) (done : List Tree) (bs cs : List Bond)
    → equations_of numbers done (bs ++ cs) ≡ equations_of numbers done bs ++ equations_of numbers done cs
equations_of-append numbers done [] cs = refl
equations_of-append numbers done (b ∷ bs) cs = ap (λ es. (get_or numbers b.slot 0, word_tree numbers done b.word) ∷ es) (equations_of-append numbers done bs cs)

pub find_pushed : (i : ℕ) (w : Word) (bs : List Bond) → find i bs ≡ None → find i (bs ++ record { slot = i; word = w } ∷ []) ≡ Some w
find_pushed i w [] f = ap (λ q. cond q (Some w) None) (eqb_same i)
find_pushed i w (b ∷ bs) f = go (find_pushed i w bs) (i == b.slot) f
  where
    go : (find i bs ≡ None → find i (bs ++ record { slot = i; word = w } ∷ []) ≡ Some w)
        → (q : Bool) → cond q (Some b.word) (find i bs) ≡ None → cond q (Some b.word) (find i (bs ++ record { slot = i; word = w } ∷ [])) ≡ Some w
    go ih true k = cc
    go ih false k = ih k

pub find_other : (i j : ℕ) (w : Word) (bs : List Bond) → j ≢ i → find j (bs ++ record { slot = i; word = w } ∷ []) ≡ find j bs
find_other i j w [] ne = ap (λ q. cond q (Some w) None) (eqb_other j i ne)
find_other i j w (b ∷ bs) ne = ap (cond (j == b.slot) (Some b.word)) (find_other i j w bs ne)

pub OnceFrom-push : (seen bs : List Bond) (b : Bond) → OnceFrom seen bs → find b.slot (seen ++ bs) ≡ None → OnceFrom seen (bs ++ b ∷ [])
OnceFrom-push seen [] b o f = (ap (find b.slot) (sym (append-nil seen)) ∙ f, tt)
OnceFrom-push seen (c ∷ cs) b o f = (o.0, OnceFrom-push (seen ++ c ∷ []) cs b o.1 (ap (find b.slot) (append_assoc seen (c ∷ []) cs) ∙ f))

-- The bindings of the heap, and one more.
pub bindings-pushed : (h : Heap) (i : ℕ) (w : Word) → bindings (pushed h i w) ≡ bindings h ++ (numbered h i, meaning h w) ∷ []
unfolding bindings
bindings-pushed h i w =
    ap (solved []) (equations_of-append h.numbers (compounds h.numbers h.args h.heads) h.trail (record { slot = i; word = w } ∷ []))
    ∙ solved-snoc [] (equations h) (numbered h i, raw h w)

-- What each word stands for after the binding.
pub meaning-pushed : (h : Heap) (i : ℕ) (w u : Word) → meaning (pushed h i w) u ≡ replace (numbered h i) (meaning h w) (meaning h u)
meaning-pushed h i w u =
    ap (λ bs. bound bs (raw h u)) (bindings-pushed h i w)
    ∙ bound-append (bindings h) ((numbered h i, meaning h w) ∷ []) (raw h u)

pub fit_pushed : (h : Heap) (i : ℕ) (w : Word) → Fit h → i < length h.numbers → find i h.trail ≡ None → Below i w → IsIn h w
    → has (numbered h i) (meaning h w) ≡ false → Fit (pushed h i w)
unfolding bindings
fit_pushed h i w fit slot free below inside absent =
    record {
      heads = fit.heads;
      rises = fit.rises;
      bonds = All-push (IsBond (length h.numbers) (length h.heads)) h.trail (record { slot = i; word = w }) fit.bonds (record { slot = slot; word = inside; falls = below });
      once = OnceFrom-push [] h.trail (record { slot = i; word = w }) fit.once free;
      fairly =
          ap (fair []) (equations_of-append h.numbers (compounds h.numbers h.args h.heads) h.trail (record { slot = i; word = w } ∷ []))
          ∙ fair-snoc [] (equations h) (numbered h i, raw h w) fit.fairly
          (named-solved (numbered h i) [] (equations h)
          ∙ missing h.numbers (compounds h.numbers h.args h.heads) (length h.heads) i h.trail fit.rises slot fit.bonds free)
          absent;
    }

pub cache_pushed : (values : List (Option Word)) (h : Heap) (i : ℕ) (w : Word) → IsCache values h → i < length h.numbers → find i h.trail ≡ None
    → IsCache (set values i (Some w)) (pushed h i w)
cache_pushed values h i w cache slot free =
    record {
      long = length-set values i (Some w) ∙ cache.long;
      found = λ j inside. go j (subst (λ n. j < n) (length-set values i (Some w)) inside) (j == i) refl;
    }
  where
    go : (j : ℕ) → j < length values → (q : Bool) → (j == i) ≡ q → get_or (set values i (Some w)) j None ≡ find j (h.trail ++ record { slot = i; word = w } ∷ [])
    go j inside true e =
        let same : j ≡ i = (Decides-eqb j i).0 e in
        subst (λ k. get_or (set values i (Some w)) k None ≡ find k (h.trail ++ record { slot = i; word = w } ∷ [])) (sym same)
        (get_or-set_same values i (Some w) None (subst (λ n. i < n) (sym cache.long) slot) ∙ sym (find_pushed i w h.trail free))
    go j inside false e =
        let ne : j ≢ i = λ s. false≢true (sym e ∙ (Decides-eqb j i).1 s) in
        get_or-set_other values i j (Some w) None ne ∙ cache.found j inside ∙ sym (find_other i j w h.trail ne)

-- What is read of the values is what the bindings say.
pub read_value : (values : List (Option Word)) (h : Heap) (i : ℕ) (r : Option Word) → IsCache values h → i < length h.numbers
    → r ≡ get_or values i None → r ≡ find i h.trail
read_value values h i r cache inside e = e ∙ cache.found i (subst (λ n. i < n) (sym cache.long) inside)
