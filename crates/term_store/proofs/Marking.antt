-- What a heap was at a mark, when it has gained bindings, terms and variables since.
use Rattle.std.proofs.Common.{◌≡◌, ℕ, ◌≤◌, List, ◌++◌, length, take, sym, ap, ap₂, subst, ◌∙◌, arith, length-append, length-take}
use Rattle.std.proofs.Math.Seq.{take-length}
use Rattle.std.proofs.lemmas.List.{take-append-le, take-take}
use Rattle.term_store.specs.declared.words.Word.{Word}
use Rattle.term_store.specs.declared.words.Head.{Head}
use Rattle.term_store.specs.declared.words.Bond.{Bond}
use Rattle.term_store.specs.declared.words.StoreMark.{StoreMark}
use Rattle.term_store.specs.Heap.{Heap, with_trail}
use Rattle.term_store.specs.Fit.{IsIn, Fit}
use Rattle.term_store.specs.Marks.{IsWithin, cut}
use Rattle.term_store.specs.Making.{with_more, Longer}
use Rattle.term_store.specs.Unifying.{Grown}
use Rattle.term_store.specs.Contents.{Contents, IsMark, IsEarlier, Adds, back_to}
use Rattle.term_store.proofs.Growing.{inside-longer}

abbrev heap : List Head → List Word → List ℕ → List Bond → Heap
heap hs ws ns bs = record { heads = hs; args = ws; numbers = ns; trail = bs }

cut-more : (m : StoreMark) (h : Heap) (gs : List Head) (ws : List Word) (ns : List ℕ) → IsWithin m h → cut m (with_more h gs ws ns) ≡ cut m h
cut-more m h gs ws ns w =
    ap₂ (λ hs vs. heap hs vs (take m.numbers (h.numbers ++ ns)) (take m.trail h.trail))
    (take-append-le m.heads h.heads gs w.heads) (take-append-le m.args h.args ws w.args)
    ∙ ap (λ ks. heap (take m.heads h.heads) (take m.args h.args) ks (take m.trail h.trail)) (take-append-le m.numbers h.numbers ns w.numbers)

cut-trail : (m : StoreMark) (h : Heap) (bs : List Bond) → IsWithin m h → cut m (with_trail h (h.trail ++ bs)) ≡ cut m h
cut-trail m h bs w =
    ap (heap (take m.heads h.heads) (take m.args h.args) (take m.numbers h.numbers)) (take-append-le m.trail h.trail bs w.trail)

within-more : (m : StoreMark) (h : Heap) (gs : List Head) (ws : List Word) (ns : List ℕ) → IsWithin m h → IsWithin m (with_more h gs ws ns)
within-more m h gs ws ns w =
    record {
      heads = omega (arith, w.heads, length-append h.heads gs);
      args = omega (arith, w.args, length-append h.args ws);
      numbers = omega (arith, w.numbers, length-append h.numbers ns);
      trail = w.trail;
    }

within-trail : (m : StoreMark) (h : Heap) (bs : List Bond) → IsWithin m h → IsWithin m (with_trail h (h.trail ++ bs))
within-trail m h bs w =
    record { heads = w.heads; args = w.args; numbers = w.numbers; trail = omega (arith, w.trail, length-append h.trail bs) }

pub cut-longer : (m : StoreMark) (c d : Heap) → Longer c d → IsWithin m c → cut m d ≡ cut m c
cut-longer m c d l w = ap (cut m) l.longer ∙ cut-more m c l.heads l.args l.numbers w

pub within-longer : (m : StoreMark) (c d : Heap) → Longer c d → IsWithin m c → IsWithin m d
within-longer m c d l w = subst (IsWithin m) (sym l.longer) (within-more m c l.heads l.args l.numbers w)

pub cut-grown : (m : StoreMark) (c d : Heap) → Grown c d → IsWithin m c → cut m d ≡ cut m c
cut-grown m c d g w = ap (cut m) g.grown ∙ cut-trail m c g.bonds w

pub within-grown : (m : StoreMark) (c d : Heap) → Grown c d → IsWithin m c → IsWithin m d
within-grown m c d g w = subst (IsWithin m) (sym g.grown) (within-trail m c g.bonds w)

pub cut-cut : (k m : StoreMark) (h : Heap) → IsEarlier k m → cut k (cut m h) ≡ cut k h
cut-cut k m h e =
    ap₂ (λ hs ws. heap hs ws (take k.numbers (take m.numbers h.numbers)) (take k.trail (take m.trail h.trail)))
    (take-take k.heads m.heads h.heads e.heads) (take-take k.args m.args h.args e.args)
    ∙ ap₂ (heap (take k.heads h.heads) (take k.args h.args)) (take-take k.numbers m.numbers h.numbers e.numbers) (take-take k.trail m.trail h.trail e.trail)

within-cut : (k m : StoreMark) (h : Heap) → IsEarlier k m → IsWithin k h → IsWithin k (cut m h)
within-cut k m h e w =
    record {
      heads = omega (arith, w.heads, e.heads, length-take m.heads h.heads);
      args = omega (arith, w.args, e.args, length-take m.args h.args);
      numbers = omega (arith, w.numbers, e.numbers, length-take m.numbers h.numbers);
      trail = omega (arith, w.trail, e.trail, length-take m.trail h.trail);
    }

-- An earlier mark stays one when a later one is gone back to.
pub earlier_stays : (k m : StoreMark) (s t : Contents) → t ≡ back_to m s → IsEarlier k m → IsMark k s → IsMark k t × (back_to k t ≡ back_to k s)
earlier_stays k m s t is e mark =
    let same : back_to k t ≡ back_to k s =
    ap (back_to k) is ∙ ap (λ h. record { heap = h; used = k.used; budget = s.budget }) (cut-cut k m s.heap e) in (
      subst (IsMark k) (sym is)
          (record { within = within-cut k m s.heap e mark.within; used = e.used; fit = subst Fit (sym (cut-cut k m s.heap e)) mark.fit }),
      same,
    )

-- A store whose heap has gained bindings, or terms and variables.
pub adds_grown : (s t : Contents) → Grown s.heap t.heap → t.used ≡ s.used → t.budget ≡ s.budget → Adds s t
adds_grown s t g u b =
    record {
      places = λ p inside. subst (λ h. IsIn h p.word) (sym g.grown) inside;
      marks = λ m mark.
          record {
            within = within-grown m s.heap t.heap g mark.within;
            used = omega (arith, mark.used);
            fit = subst Fit (sym (cut-grown m s.heap t.heap g mark.within)) mark.fit;
          };
      back = λ m mark. ap₂ (λ h c. record { heap = h; used = m.used; budget = c }) (cut-grown m s.heap t.heap g mark.within) b;
    }

pub adds_longer : (s t : Contents) → Longer s.heap t.heap → s.used ≤ t.used → t.budget ≡ s.budget → Adds s t
adds_longer s t l u b =
    record {
      places = λ p inside. subst (λ h. IsIn h p.word) (sym l.longer) (inside-longer s.heap l.heads l.args l.numbers p.word inside);
      marks = λ m mark.
          record {
            within = within-longer m s.heap t.heap l mark.within;
            used = omega (arith, mark.used);
            fit = subst Fit (sym (cut-longer m s.heap t.heap l mark.within)) mark.fit;
          };
      back = λ m mark. ap₂ (λ h c. record { heap = h; used = m.used; budget = c }) (cut-longer m s.heap t.heap l mark.within) b;
    }

-- A mark of the whole store.
pub record IsHere (m : StoreMark) (s : Contents) : Type 0 where
  pub heads : m.heads ≡ length s.heap.heads
  pub args : m.args ≡ length s.heap.args
  pub numbers : m.numbers ≡ length s.heap.numbers
  pub trail : m.trail ≡ length s.heap.trail
  pub used : m.used ≡ s.used

pub cut-here : (m : StoreMark) (s : Contents) → IsHere m s → cut m s.heap ≡ s.heap
cut-here m s here =
    ap₂ (λ i j. heap (take i s.heap.heads) (take j s.heap.args) (take m.numbers s.heap.numbers) (take m.trail s.heap.trail)) here.heads here.args
    ∙ ap₂ (λ i j. heap (take (length s.heap.heads) s.heap.heads) (take (length s.heap.args) s.heap.args) (take i s.heap.numbers) (take j s.heap.trail)) here.numbers here.trail
    ∙ ap₂ (λ hs ws. heap hs ws (take (length s.heap.numbers) s.heap.numbers) (take (length s.heap.trail) s.heap.trail)) (take-length s.heap.heads) (take-length s.heap.args)
    ∙ ap₂ (heap s.heap.heads s.heap.args) (take-length s.heap.numbers) (take-length s.heap.trail)

pub mark_here : (m : StoreMark) (s : Contents) → IsHere m s → Fit s.heap → IsMark m s × (back_to m s ≡ s)
mark_here m s here fit = (
  record {
    within = record { heads = omega (arith, here.heads); args = omega (arith, here.args); numbers = omega (arith, here.numbers); trail = omega (arith, here.trail) };
    used = omega (arith, here.used);
    fit = subst Fit (sym (cut-here m s here)) fit;
  },
  ap₂ (λ h u. record { heap = h; used = u; budget = s.budget }) (cut-here m s here) here.used,
)
