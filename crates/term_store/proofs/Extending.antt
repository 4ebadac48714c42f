-- A heap that has gained compound terms, variables and bindings.
use Rattle.std.proofs.Common.{◌≡◌, ℕ, List, [], ◌++◌, take, sym, ap, ap₂, subst, ◌∙◌, arith, append-nil, append_assoc, length-append}
use Rattle.std.proofs.lemmas.List.{take-append-le}
use Rattle.term_store.specs.declared.words.Head.{Head}
use Rattle.term_store.specs.declared.words.Word.{Word}
use Rattle.term_store.specs.declared.words.Bond.{Bond}
use Rattle.term_store.specs.declared.words.StoreMark.{StoreMark}
use Rattle.term_store.specs.Heap.{Heap}
use Rattle.term_store.specs.Fit.{IsIn, Fit}
use Rattle.term_store.specs.Marks.{IsWithin, cut}
use Rattle.term_store.specs.Making.{Longer}
use Rattle.term_store.specs.Unifying.{Grown}
use Rattle.term_store.specs.Contents.{Adds, Contents, IsMark, back_to}
use Rattle.term_store.specs.Entering.{Extends}

abbrev heap : List Head → List Word → List ℕ → List Bond → Heap
heap hs ws ns bs = record { heads = hs; args = ws; numbers = ns; trail = bs }

pub extends_longer : (c d : Heap) → Longer c d → Extends c d
extends_longer c d l =
    record {
      heads = l.heads;
      args = l.args;
      numbers = l.numbers;
      trail = [];
      extends = l.longer ∙ ap (heap (c.heads ++ l.heads) (c.args ++ l.args) (c.numbers ++ l.numbers)) (sym (append-nil c.trail));
    }

pub extends_grown : (c d : Heap) → Grown c d → Extends c d
extends_grown c d g =
    record {
      heads = [];
      args = [];
      numbers = [];
      trail = g.bonds;
      extends =
          g.grown
          ∙ ap₂ (λ hs ws. heap hs ws c.numbers (c.trail ++ g.bonds)) (sym (append-nil c.heads)) (sym (append-nil c.args))
          ∙ ap (λ ns. heap (c.heads ++ []) (c.args ++ []) ns (c.trail ++ g.bonds)) (sym (append-nil c.numbers));
    }

pub extends_then : (c d e : Heap) → Extends c d → Extends d e → Extends c e
extends_then c d e g k =
    record {
      heads = g.heads ++ k.heads;
      args = g.args ++ k.args;
      numbers = g.numbers ++ k.numbers;
      trail = g.trail ++ k.trail;
      extends =
          k.extends
          ∙ ap (λ h. heap (h.heads ++ k.heads) (h.args ++ k.args) (h.numbers ++ k.numbers) (h.trail ++ k.trail)) g.extends
          ∙ ap₂ (λ hs ws. heap hs ws ((c.numbers ++ g.numbers) ++ k.numbers) ((c.trail ++ g.trail) ++ k.trail))
          (append_assoc c.heads g.heads k.heads) (append_assoc c.args g.args k.args)
          ∙ ap₂ (heap (c.heads ++ (g.heads ++ k.heads)) (c.args ++ (g.args ++ k.args)))
          (append_assoc c.numbers g.numbers k.numbers) (append_assoc c.trail g.trail k.trail);
    }

cut-extends : (m : StoreMark) (c d : Heap) → Extends c d → IsWithin m c → cut m d ≡ cut m c
cut-extends m c d g w =
    ap (cut m) g.extends
    ∙ ap₂ (λ hs vs. heap hs vs (take m.numbers (c.numbers ++ g.numbers)) (take m.trail (c.trail ++ g.trail)))
    (take-append-le m.heads c.heads g.heads w.heads) (take-append-le m.args c.args g.args w.args)
    ∙ ap₂ (heap (take m.heads c.heads) (take m.args c.args))
    (take-append-le m.numbers c.numbers g.numbers w.numbers) (take-append-le m.trail c.trail g.trail w.trail)

within-extends : (m : StoreMark) (c d : Heap) → Extends c d → IsWithin m c → IsWithin m d
within-extends m c d g w =
    subst (IsWithin m) (sym g.extends)
    (record {
      heads = omega (arith, w.heads, length-append c.heads g.heads);
      args = omega (arith, w.args, length-append c.args g.args);
      numbers = omega (arith, w.numbers, length-append c.numbers g.numbers);
      trail = omega (arith, w.trail, length-append c.trail g.trail);
    })

pub adds_extends : (s t : Contents) → Extends s.heap t.heap → ((w : Word) → IsIn s.heap w → IsIn t.heap w) → t.used ≡ s.used → t.budget ≡ s.budget → Adds s t
adds_extends s t g inside u b =
    record {
      places = λ p held. inside p.word held;
      marks = λ m mark.
          record {
            within = within-extends m s.heap t.heap g mark.within;
            used = omega (arith, mark.used);
            fit = subst Fit (sym (cut-extends m s.heap t.heap g mark.within)) mark.fit;
          };
      back = λ m mark. ap₂ (λ h c. record { heap = h; used = m.used; budget = c }) (cut-extends m s.heap t.heap g mark.within) b;
    }

-- Going back to the mark of the whole store.
pub undone_extends : (s s' mid t : Contents) (m : StoreMark) → s' ≡ s → Extends s'.heap mid.heap → mid.budget ≡ s'.budget → t ≡ back_to m mid → IsMark m s
    → back_to m s ≡ s → t ≡ s
undone_extends s s' mid t m e g b back mark here =
    let mark' : IsMark m s' = subst (IsMark m) (sym e) mark in
    back
    ∙ ap₂ (λ h c. record { heap = h; used = m.used; budget = c }) (cut-extends m s'.heap mid.heap g mark'.within) b
    ∙ ap (back_to m) e ∙ here

-- A mark stays one.
pub mark_extends : (s s' mid : Contents) (m : StoreMark) → s' ≡ s → Extends s'.heap mid.heap → mid.used ≡ s'.used → IsMark m s → IsMark m mid
mark_extends s s' mid m e g u mark =
    let mark' : IsMark m s' = subst (IsMark m) (sym e) mark in
    record {
      within = within-extends m s'.heap mid.heap g mark'.within;
      used = omega (arith, mark'.used, u);
      fit = subst Fit (sym (cut-extends m s'.heap mid.heap g mark'.within)) mark'.fit;
    }
