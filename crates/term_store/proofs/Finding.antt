-- What is found in the arguments of a compound term as it is copied.
use Rattle.std.proofs.Common.{◌≡◌, ℕ, ◌<◌, ◌≤◌, ◌+◌, Bool, true, false, not, List, length, get_or, take, pos, refl, sym, ap, subst, ◌∙◌, arith}
use Rattle.std.specs.List.{All}
use Rattle.std.proofs.lemmas.Bool.{false≢true}
use Rattle.std.proofs.lemmas.List.Elements.{All-nil}
use Rattle.pl_term.specs.Variables.{has}
use Rattle.term_store.specs.declared.words.Word.{Word}
use Rattle.term_store.specs.declared.words.Word.TheVariants.{Var, Int, Atom, Comp}
use Rattle.term_store.specs.declared.words.Head.{Head}
use Rattle.term_store.specs.Blocks.{copied}
use Rattle.term_store.specs.Entering.{IsConstant, IsGroundBefore, IsHarmless}
use Rattle.term_store.specs.Findings.{AreFound, IsFound}
use Rattle.term_store.specs.Fit.{Fit, IsIn}
use Rattle.term_store.specs.GroundMarks.{AreMarks, IsMarked, IsMarkedBefore}
use Rattle.term_store.specs.Heap.{Heap, meaning, numbered, words_of}
use Rattle.term_store.proofs.Entering.{constant_absent}
use Rattle.term_store.proofs.Marked.{marked_absent}
use Rattle.term_store.proofs.Slicing.{arguments_all, arguments_more}

pub not_true : (b : Bool) → not b ≡ true → b ≡ false
not_true true e = absurd (false≢true e)
not_true false e = refl

-- A constant counts as marked, whatever stands before it.
pub constant_marked : (gs : List Bool) (w : Word) → IsConstant w → IsMarked gs w
constant_marked gs (Var x) c = absurd c
constant_marked gs (Int i) c = tt
constant_marked gs (Atom a) c = tt
constant_marked gs (Comp k) c = absurd c

-- No variable occurs in what is marked.
pub marked_word : (gs : List Bool) (h : Heap) → Fit h → AreMarks gs h → (w : Word) → IsMarked gs w → (y : ℕ) → has y (meaning h w) ≡ false
marked_word gs h fit marks (Var x) is y = absurd is
marked_word gs h fit marks (Int i) is y = constant_absent h y (Int i) tt
marked_word gs h fit marks (Atom a) is y = constant_absent h y (Atom a) tt
marked_word gs h fit marks (Comp k) is y = marked_absent gs h fit marks k is y

pub ground_before : (gs : List Bool) (h : Heap) → Fit h → AreMarks gs h → (known : List Word) (before : ℕ) (w : Word) → IsMarkedBefore gs known before w
    → IsGroundBefore h known before w
ground_before gs h fit marks known before (Var x) is = λ lt. marked_word gs h fit marks (get_or known x (Int (pos 0))) (is lt)
ground_before gs h fit marks known before (Int i) is = tt
ground_before gs h fit marks known before (Atom a) is = tt
ground_before gs h fit marks known before (Comp k) is = tt

-- On a heap on which all that stood before stands for what it did.
pub ground_later : (c d : Heap) (known : List Word) (before : ℕ) → All (IsIn c) known → before ≤ length known → ((w : Word) → IsIn c w → meaning d w ≡ meaning c w)
    → (w : Word) → IsGroundBefore c known before w → IsGroundBefore d known before w
ground_later c d known before words few means (Var x) is =
    λ lt y. ap (has y) (means (get_or known x (Int (pos 0))) (words x (Int (pos 0)) (omega (arith, lt, few)))) ∙ is lt y
ground_later c d known before words few means (Int i) is = tt
ground_later c d known before words few means (Atom a) is = tt
ground_later c d known before words few means (Comp k) is = tt

pub ground_earlier : (c d : Heap) (known : List Word) (before : ℕ) → All (IsIn c) known → before ≤ length known → ((w : Word) → IsIn c w → meaning d w ≡ meaning c w)
    → (w : Word) → IsGroundBefore d known before w → IsGroundBefore c known before w
ground_earlier c d known before words few means (Var x) is =
    λ lt y. ap (has y) (sym (means (get_or known x (Int (pos 0))) (words x (Int (pos 0)) (omega (arith, lt, few))))) ∙ is lt y
ground_earlier c d known before words few means (Int i) is = tt
ground_earlier c d known before words few means (Atom a) is = tt
ground_earlier c d known before words few means (Comp k) is = tt

pub ground_harmless : (h : Heap) (slot : ℕ) (known : List Word) (before : ℕ) (w : Word) → IsGroundBefore h known before w → IsHarmless h slot known before w
ground_harmless h slot known before (Var x) is = λ lt. is lt (numbered h slot)
ground_harmless h slot known before (Int i) is = tt
ground_harmless h slot known before (Atom a) is = tt
ground_harmless h slot known before (Comp k) is = tt

-- The first words, and one more.
module _ (gs : List Bool) (known : List Word) (low above before : ℕ) (earlier : Bool) where
  pub none_found : (any : Bool) (ws : List Word) → AreFound gs known low above before earlier any earlier (take 0 ws)
  none_found any ws =
      record {
        any = λ _. All-nil (λ w. IsMarked gs (copied known low above w));
        met = λ n. (n, All-nil (IsMarkedBefore gs known before));
      }

  pub more_found : (any met any_now met_now : Bool) (ws : List Word) (g : Head) (i : ℕ) (w : Word) → g.start + g.count ≤ length ws → i < g.count → w ≡ get_or ws (g.start + i) (Int (pos 0))
      → AreFound gs known low above before earlier any met (take i (words_of ws g)) → IsFound gs known low above before any met any_now met_now w
      → AreFound gs known low above before earlier any_now met_now (take (i + 1) (words_of ws g))
  more_found any met any_now met_now ws g i w within lt e all one =
      record {
        any = λ n.
            let q = one.any n in
            arguments_more (λ v. IsMarked gs (copied known low above v)) ws g i w within lt e (all.any q.0) q.1;
        met = λ n.
            let q = one.met n in
            let r = all.met q.0 in (r.0, arguments_more (IsMarkedBefore gs known before) ws g i w within lt e r.1 q.1);
      }

  pub all_found : (any met : Bool) (ws : List Word) (g : Head) (i : ℕ) → g.start + g.count ≤ length ws → g.count ≤ i
      → AreFound gs known low above before earlier any met (take i (words_of ws g)) → AreFound gs known low above before earlier any met (words_of ws g)
  all_found any met ws g i within past = subst (AreFound gs known low above before earlier any met) (arguments_all ws g i within past)
