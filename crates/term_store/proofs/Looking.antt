-- What is seen of the term at a place.
use Rattle.std.proofs.Common.{◌≡◌, ◌⊎◌, inl, inr, ℕ, ℤ, ◌-◌, ◌<◌, ◌≤◌, length, get_or, None, sym, ap, subst, ◌∙◌, arith}
use Rattle.std.proofs.lemmas.Bool.{cases_lt}
use Rattle.std.proofs.lemmas.List.Elements.{All-from_get_or, All-get_or}
use Rattle.pl_term.specs.Tree.{var, int, atom}
use Rattle.term_store.specs.declared.words.Word.TheVariants.{Var, Int, Atom, Comp}
use Rattle.term_store.specs.declared.words.Head.{Head}
use Rattle.term_store.specs.declared.words.Place.{Place}
use Rattle.term_store.specs.declared.views.Arguments.{Arguments}
use Rattle.term_store.specs.declared.views.View.TheVariants.{Compound}
use Rattle.term_store.specs.Heap.{atom_name, bindings, meaning, numbered, find}
use Rattle.term_store.specs.Fit.{Fit, no_head}
use Rattle.term_store.specs.Contents.{Contents, IsAbove, Views, term_at}
use Rattle.term_store.proofs.Equations.{bound-int, bound-atom}
use Rattle.term_store.proofs.Following.{stands}
use Rattle.term_store.proofs.Storing.{compound_seen}

module _ (s s' : Contents) (p : Place) (same_store : s' ≡ s) where
  pub variable_seen : (slot x : ℕ) → Fit s'.heap → meaning s'.heap (Var slot) ≡ meaning s'.heap p.word → slot < length s'.heap.numbers
      → find slot s'.heap.trail ≡ None → x ≡ numbered s'.heap slot → term_at s p ≡ var x
  variable_seen slot x fit same inside free number =
      ap (λ v. term_at v p) (sym same_store) ∙ sym same ∙ stands s'.heap slot fit inside free ∙ ap var (sym number)

  pub integer_seen : (i : ℤ) → meaning s'.heap (Int i) ≡ meaning s'.heap p.word → term_at s p ≡ int i
  integer_seen i same = ap (λ v. term_at v p) (sym same_store) ∙ sym same ∙ bound-int (bindings s'.heap) i

  pub atom_seen : (a b : ℕ) → meaning s'.heap (Atom a) ≡ meaning s'.heap p.word → b ≡ a → term_at s p ≡ atom (atom_name b)
  atom_seen a b same is =
      ap (λ v. term_at v p) (sym same_store) ∙ sym same ∙ bound-atom (bindings s'.heap) (atom_name a) ∙ ap (λ n. atom (atom_name n)) (sym is)

  pub compound_at : (k f : ℕ) (g : Head) → Fit s'.heap → meaning s'.heap (Comp k) ≡ meaning s'.heap p.word → k < length s'.heap.heads
      → g ≡ get_or s'.heap.heads k no_head → f ≡ g.name → Views s (term_at s p) (Compound f (record { start = g.start; count = g.count }))
  compound_at k f g fit same lt is name =
      let a : Arguments = record { start = g.start; count = g.count } in
      subst (λ v. Views v (term_at v p) (Compound f a)) same_store
      (subst (λ t. Views s' t (Compound f a)) same
      (subst (λ n. Views s' (meaning s'.heap (Comp k)) (Compound n a)) (sym name) (compound_seen s' k g fit lt is)))

-- The variables' numbers rise, so a number above the last is above all.
pub above_last : (s : Contents) (n : ℕ) → Fit s.heap → 0 < length s.heap.numbers → get_or s.heap.numbers (length s.heap.numbers - 1) 0 < n → IsAbove n s
above_last s n fit some last =
    All-from_get_or (λ m. m < n) s.heap.numbers 0 (λ i lt. go i lt (cases_lt i top))
  where
    top : ℕ
    top = length s.heap.numbers - 1

    go : (i : ℕ) → i < length s.heap.numbers → (i < top) ⊎ (top ≤ i) → get_or s.heap.numbers i 0 < n
    go i lt (inl less) = omega (arith, fit.rises i top less (omega arith), last)
    go i lt (inr more) = subst (λ j. get_or s.heap.numbers j 0 < n) (omega arith) last

pub last_below : (s : Contents) (n : ℕ) → 0 < length s.heap.numbers → IsAbove n s → get_or s.heap.numbers (length s.heap.numbers - 1) 0 < n
last_below s n some above = All-get_or (λ m. m < n) s.heap.numbers (length s.heap.numbers - 1) 0 (omega arith) above
