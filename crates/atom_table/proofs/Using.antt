-- The laws of the atoms that seats use, from what every reached state keeps.
use Rattle.std.proofs.Common.{◌≡◌, ◌⊎◌, ℕ, zero, suc, ◌<◌, false, List, refl, sym, ap, ◌∙◌, subst, ⊎_elim, Some}
use mathlib.Core.Option.{some}
use lib.ListN.{get_elem?}
use Rattle.atom_words.specs.Board.{Board, text_of}
use Rattle.atom_words.specs.Chains.{In}
use Rattle.atom_words.specs.Rule.{Reached}
use Rattle.atom_words.specs.Kept.{HeldOk, SeatOk, Kept}
use Rattle.atom_words.specs.Laws.{Uses}
use Rattle.atom_words.specs.declared.size.Size.{Size}
use Rattle.atom_words.specs.declared.view.Held.{Held}
use Rattle.atom_words.specs.declared.view.Counted.{Counted}
use Rattle.atom_words.specs.declared.view.View.{View}
use Rattle.atom_words.proofs.Every.{reached_kept}
use Rattle.atom_words.proofs.Laws.{unlike, text_stays}
use Rattle.atom_table.specs.Laws.{IsUsed, One, Through, Lasts}

-- what is used is live, with its text
uses_ok : (z : Size) (b : Board) (vs : List View) (r : Kept z b vs) (j : ℕ) (v : View) → SeatOk z b r.plan j v → (a : Held) → Uses v a → HeldOk z b.atoms b.texts r.plan.chain a
uses_ok z b vs r j v s a u = ⊎_elim
    (λ (t : In a v.held ⊎ In a v.fixed). ⊎_elim (λ (i : In a v.held). s.held i.0 a i.1) (λ (i : In a v.fixed). s.fixed i.0 a i.1) t)
    (λ (t : (cs : List Counted) × (v.counts ≡ Some cs) × ((c : Counted) × (get_elem? cs a.slot ≡ some c) × (0 < c.count) × (c.text ≡ a.text))).
    subst (λ (l : List ℕ). HeldOk z b.atoms b.texts r.plan.chain (record { slot = a.slot; text = l })) t.2.3 ((s.counts t.0 t.1).live a.slot t.2.0 t.2.1 t.2.2)) u

pub one : (z : Size) → One z
one z n b vs h a c u w = let r = reached_kept n z b vs h in let p = uses_ok z b vs r u.0 u.1 (r.seats u.0 u.1 u.2 u.3) a u.4 in let q = uses_ok z b vs r w.0 w.1 (r.seats w.0 w.1 w.2 w.3) c w.4 in
    ((λ e. sym p.text ∙ (ap (text_of b.texts) e ∙ q.text)), λ e. unlike z n b vs h a.slot c.slot p.valid q.valid (p.text ∙ (e ∙ sym q.text)))

-- the state at the end is reached, and some seat uses the slot there
reached_through : (n m : ℕ) (z : Size) (k : ℕ) (b0 : Board) (vs0 : List View) (b : Board) (vs : List View) → Reached m z b0 vs0 → Through n z k b0 vs0 b vs → (i : ℕ) × Reached i z b vs
reached_through zero m z k b0 vs0 b vs h t = (m, subst (λ (p : Board × List View). Reached m z p.0 p.1) (λ i. (sym t.0 i, sym t.1 i)) h)
reached_through (suc n) m z k b0 vs0 b vs h t = let q = reached_through n m z k b0 vs0 t.0 t.1 h t.2 in (suc q.0, (t.0, t.1, q.1, t.3))

used_through : (n : ℕ) (z : Size) (k : ℕ) (b0 : Board) (vs0 : List View) (b : Board) (vs : List View) (a : Held) → a.slot ≡ k → IsUsed vs0 a → Through n z k b0 vs0 b vs → (d : Held) × (d.slot ≡ k) × IsUsed vs d
used_through zero z k b0 vs0 b vs a at u t = (a, at, subst (λ (l : List View). IsUsed l a) (sym t.1) u)
used_through (suc n) z k b0 vs0 b vs a at u t = t.4

pub lasts : (z : Size) → Lasts z
lasts z m zero b0 vs0 b vs a c h u t w e = (one z m b0 vs0 h c a (subst (λ (l : List View). IsUsed l c) t.1 w) u).0 e
lasts z m (suc n) b0 vs0 b vs a c h u t w e = let q = reached_through n m z a.slot b0 vs0 t.0 t.1 h t.2 in let d = used_through n z a.slot b0 vs0 t.0 t.1 a refl u t.2 in
    let stays = text_stays z q.0 t.0 t.1 b vs q.1 t.3 d.2.0 w.0 d.2.1 w.1 d.0 c d.2.2 d.2.3 w.2 w.3 d.2.4 w.4 (d.1 ∙ sym e) in sym stays.2 ∙ lasts z m n b0 vs0 t.0 t.1 a d.0 h u t.2 d.2 d.1
