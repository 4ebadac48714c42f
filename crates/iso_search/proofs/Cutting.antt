-- A store extends what it was at a mark.
use Rattle.std.proofs.Common.{◌≡◌, ℕ, ◌≤◌, List, ◌++◌, length, take, drop, refl, sym, ap, subst, ◌∙◌, arith, length-append, length-take}
use Rattle.std.proofs.lemmas.List.{take-append-le, take-append-drop}
use Rattle.term_store.specs.declared.words.StoreMark.{StoreMark}
use Rattle.term_store.specs.declared.words.Word.{Word}
use Rattle.term_store.specs.declared.words.Word.TheVariants.{Var, Int, Atom, Comp}
use Rattle.term_store.specs.declared.words.Head.{Head}
use Rattle.term_store.specs.declared.words.Bond.{Bond}
use Rattle.term_store.specs.Heap.{Heap}
use Rattle.term_store.specs.Fit.{IsWord, Fit}
use Rattle.term_store.specs.Marks.{IsWithin, cut}
use Rattle.term_store.specs.Contents.{Contents, IsMark, Adds, back_to}

record Extends (c d : Heap) : Type 0 where
  heads : List Head
  args : List Word
  numbers : List ℕ
  trail : List Bond
  extended : d ≡ record { heads = c.heads ++ heads; args = c.args ++ args; numbers = c.numbers ++ numbers; trail = c.trail ++ trail }

heap_by : (a₁ a₂ : List Head) (b₁ b₂ : List Word) (c₁ c₂ : List ℕ) (d₁ d₂ : List Bond) → a₁ ≡ a₂ → b₁ ≡ b₂ → c₁ ≡ c₂ → d₁ ≡ d₂
    → (let l : Heap = record { heads = a₁; args = b₁; numbers = c₁; trail = d₁ } in
    let r : Heap = record { heads = a₂; args = b₂; numbers = c₂; trail = d₂ } in l ≡ r)
heap_by a₁ a₂ b₁ b₂ c₁ c₂ d₁ d₂ p q r s = cc

cut-extended : (m : StoreMark) (c d : Heap) → IsWithin m c → Extends c d → cut m d ≡ cut m c
cut-extended m c d w e =
    ap (cut m) e.extended
    ∙ heap_by (take m.heads (c.heads ++ e.heads)) (take m.heads c.heads) (take m.args (c.args ++ e.args)) (take m.args c.args)
    (take m.numbers (c.numbers ++ e.numbers)) (take m.numbers c.numbers) (take m.trail (c.trail ++ e.trail)) (take m.trail c.trail)
    (take-append-le m.heads c.heads e.heads w.heads) (take-append-le m.args c.args e.args w.args)
    (take-append-le m.numbers c.numbers e.numbers w.numbers) (take-append-le m.trail c.trail e.trail w.trail)

le_append : {X : Type 0} (n : ℕ) (xs ys : List X) → n ≤ length xs → n ≤ length (xs ++ ys)
le_append n xs ys h = omega (arith, length-append xs ys)

within-extended : (m : StoreMark) (c d : Heap) → IsWithin m c → Extends c d → IsWithin m d
within-extended m c d w e =
    let inner : IsWithin m (record { heads = c.heads ++ e.heads; args = c.args ++ e.args; numbers = c.numbers ++ e.numbers; trail = c.trail ++ e.trail }) =
    record {
      heads = le_append m.heads c.heads e.heads w.heads;
      args = le_append m.args c.args e.args w.args;
      numbers = le_append m.numbers c.numbers e.numbers w.numbers;
      trail = le_append m.trail c.trail e.trail w.trail;
    } in
    subst (IsWithin m) (sym e.extended) inner

extends_cut : (m : StoreMark) (c : Heap) → Extends (cut m c) c
extends_cut m c =
    record {
      heads = drop m.heads c.heads;
      args = drop m.args c.args;
      numbers = drop m.numbers c.numbers;
      trail = drop m.trail c.trail;
      extended =
          heap_by c.heads (take m.heads c.heads ++ drop m.heads c.heads) c.args (take m.args c.args ++ drop m.args c.args)
          c.numbers (take m.numbers c.numbers ++ drop m.numbers c.numbers) c.trail (take m.trail c.trail ++ drop m.trail c.trail)
          (sym (take-append-drop m.heads c.heads)) (sym (take-append-drop m.args c.args))
          (sym (take-append-drop m.numbers c.numbers)) (sym (take-append-drop m.trail c.trail));
    }

in_more : (n k m l : ℕ) (w : Word) → n ≤ m → k ≤ l → IsWord n k w → IsWord m l w
in_more n k m l (Var i) a b h = omega arith
in_more n k m l (Int i) a b h = tt
in_more n k m l (Atom i) a b h = tt
in_more n k m l (Comp j) a b h = omega arith

take_within : {X : Type 0} (n : ℕ) (xs : List X) → length (take n xs) ≤ length xs
take_within n xs = omega (arith, length-take n xs)

contents_by : (h g : Heap) (used budget : ℕ) → h ≡ g
    → (let l : Contents = record { heap = h; used = used; budget = budget } in let r : Contents = record { heap = g; used = used; budget = budget } in l ≡ r)
contents_by h g used budget e = cc

-- What was there at the mark is there still, and earlier marks lead where they led then.
pub adds_since : (m : StoreMark) (s : Contents) → IsMark m s → Adds (back_to m s) s
adds_since m s mark =
    let e = extends_cut m s.heap in
    record {
      places =
          λ p inside. in_more (length (take m.numbers s.heap.numbers)) (length (take m.heads s.heap.heads)) (length s.heap.numbers) (length s.heap.heads)
          p.word (take_within m.numbers s.heap.numbers) (take_within m.heads s.heap.heads) inside;
      marks =
          λ k earlier. record {
            within = within-extended k (cut m s.heap) s.heap earlier.within e;
            used = omega (arith, earlier.used, mark.used);
            fit = subst Fit (sym (cut-extended k (cut m s.heap) s.heap earlier.within e)) earlier.fit;
          };
      back =
          λ k earlier. contents_by (cut k s.heap) (cut k (cut m s.heap)) k.used s.budget (cut-extended k (cut m s.heap) s.heap earlier.within e);
    }

pub adds_nothing : (s : Contents) → Adds s s
adds_nothing s = record { places = λ p h. h; marks = λ m h. h; back = λ m h. refl }
