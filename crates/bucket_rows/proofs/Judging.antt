-- The sweep of a slot: the view from step to step.
use Rattle.std.proofs.Common.{◌≡◌, ◌≢◌, ◌⊎◌, ℕ, ◌+◌, ◌<◌, List, [], ◌∷◌, ◌++◌, length, refl, sym, ap, ◌∙◌, subst, inr, ⊎_elim, append_assoc, arith, Some, option_map}
use Rattle.atom_words.specs.Layout.{version_of, last}
use Rattle.atom_words.specs.Board.{atom_at}
use Rattle.atom_words.specs.Kinds.{looking, passing, freeing, after}
use Rattle.atom_words.specs.declared.size.Size.{Size}
use Rattle.atom_words.specs.declared.view.Sweeping.{Sweeping}
use Rattle.atom_words.specs.declared.view.View.{View}
use Rattle.atom_words.specs.declared.kind.Kind.{Kind}
use Rattle.atom_words.specs.declared.kind.Kind.TheVariants.{Load, Start, Look, Condemn, PassOver, Free}
use Rattle.atom_words.proofs.Slices.{some_same}
use Rattle.bucket_rows.specs.declared.slots.Verdict.{Verdict}
use Rattle.bucket_rows.specs.declared.slots.Verdict.TheVariants.{Passed}
use Rattle.bucket_rows.specs.Treads.{spells, AtSlot, Found, Treads, Reached, Caught, OutOf}
use Rattle.bucket_rows.specs.Sweeps.{At, JudgedBy, SweptBy, Run}
use Rattle.bucket_rows.proofs.Removing.{then_steps}
use Rattle.bucket_rows.proofs.SweepKinds.{kinds_append}
use Rattle.bucket_rows.proofs.Fewness.{few_flat, few_append, few_most}
use Rattle.bucket_rows.proofs.Treading.{spells_know, treads_condemn}

pub at_of : (k : ℕ) (v : View) → AtSlot k v → At k v
at_of k v a = (a.0, a.1, a.2, a.4)

-- the slot was found with the word 3
pub found_of : (k : ℕ) (v u : View) → AtSlot k v → u ≡ after v (Look 3 ∷ []) → Found k u
found_of k v u a is = (looking 3 a.0, (ap (λ (y : View). y.sweep) is ∙ ap (option_map (looking 3)) a.1.0, a.1.1), a.2, a.3, a.4, refl, refl)

-- or with another
pub looked_at : (k x : ℕ) (v u : View) → AtSlot k v → u ≡ after v (Look x ∷ []) → AtSlot k u
looked_at k x v u a is = (looking x a.0, (ap (λ (y : View). y.sweep) is ∙ ap (option_map (looking x)) a.1.0, a.1.1), a.2, a.3, a.4)

-- its text was read, and a walk begun
pub spelled_at : (k h x n : ℕ) (row : List ℕ) (v u t w : View) → Found k v → u ≡ after v (spells row) → t ≡ after u (Load 1 n ∷ []) → w ≡ after t (Start h x ∷ []) → AtSlot k w
spelled_at k h x n row v u t w f is loaded now = (record f.0 { text = f.0.text ++ row }, (ap (λ (y : View). y.sweep) now ∙ (ap (λ (y : View). y.sweep) loaded ∙ (ap (λ (y : View). y.sweep) is ∙ spells_know v f.0 row f.1.0)), f.1.1), f.2, f.3, f.4)

-- the walk has come to it
pub reached_by : (k x y n before : ℕ) (q : Sweeping) (u : View) → Treads k x n before (k + 1) u → u.sweep ≡ Some q → q.dying ≡ 0 → x ≡ y → version_of x < last → Reached k y before u
reached_by k x y n before q u t sweep idle is early = subst (λ (w : ℕ). Reached k w before u) is (n, t, ap (λ (s : Sweeping). s.dying) (some_same t.sweep q u.sweep t.sweeps.0 sweep) ∙ idle, early)

-- it is condemned
pub caught_of : (k x before : ℕ) (v u : View) → Reached k x before v → u ≡ after v (Condemn ∷ []) → Caught k x before u
caught_of k x before v u r is = let t = treads_condemn k x r.0 before (k + 1) v r.1 in subst (Caught k x before) (sym is) (r.0, t.0, t.1, t.2, r.3)

-- it is not, as its word was another
pub kept_at : (k x before i y : ℕ) (v u : View) → Reached k x before v → u ≡ after v (Load i y ∷ []) → AtSlot k u
kept_at k x before i y v u r is = let t = r.1 in (t.sweep, (ap (λ (z : View). z.sweep) is ∙ t.sweeps.0, t.sweeps.1), r.2, t.linked, t.cursor)

-- it is free
pub freed_at : (k : ℕ) (v u : View) → OutOf k v → u ≡ after v (Free ∷ []) → AtSlot k u
freed_at k v u o is = (freeing o.0, (ap (λ (y : View). y.sweep) is ∙ ap (option_map freeing) o.1.0.0, o.1.0.1), refl, refl, o.3)

-- the sweep goes on
pub passed_at : (k x : ℕ) (v u : View) → AtSlot k v → u ≡ after v (PassOver x ∷ []) → AtSlot (k + 1) u
passed_at k x v u a is = (passing a.0, (ap (λ (y : View). y.sweep) is ∙ ap (option_map passing) a.1.0, a.1.1), a.2, a.3, ap (λ (n : ℕ). n + 1) a.4)

-- a load leaves the sweep where it is
pub loaded_at : (k i x : ℕ) (v u : View) → AtSlot k v → u ≡ after v (Load i x ∷ []) → AtSlot k u
loaded_at k i x v u a is = subst (AtSlot k) (sym is) (a.0, a.1, a.2, a.3, a.4)

-- a slot that was passed without an exchange, or by one after a load that found its mark
pub swept_kept : (k word r x : ℕ) (z : Size) (v u w : View) → v.size ≡ z → JudgedBy k v (Passed word) u
    → ((r ≡ word) × (w ≡ after u (PassOver x ∷ []))) ⊎ ((r ≢ 3) × (w ≡ after u (Load (atom_at z k) r ∷ PassOver x ∷ []))) → SweptBy k v (Passed r) w
swept_kept k word r x z v u w size e told = ⊎_elim
    (λ (t : (r ≡ word) × (w ≡ after u (PassOver x ∷ []))). subst (λ (n : ℕ). SweptBy k v (Passed n) w) (sym t.0) (e.0, x, then_steps v u w e.0 (PassOver x ∷ []) e.1 t.1, e.2, e.3, few_most v.size.slots 40 (last + 1) 41 (last + 1) e.0 e.4 (omega arith) (omega arith)))
    (λ (t : (r ≢ 3) × (w ≡ after u (Load (atom_at z k) r ∷ PassOver x ∷ []))). let here : List Kind = Load (atom_at v.size k) r ∷ [] in (
      e.0 ++ here,
      x,
      then_steps v u w e.0 (Load (atom_at v.size k) r ∷ PassOver x ∷ []) e.1 (t.1 ∙ ap (λ (y : Size). after u (Load (atom_at y k) r ∷ PassOver x ∷ [])) (sym size)) ∙ ap (after v) (sym (append_assoc e.0 here (PassOver x ∷ []))),
      (t.0, (e.0, inr refl)),
      kinds_append e.0 here e.3 (tt, tt),
      few_most v.size.slots 41 (last + 1 + 0) 41 (last + 1) (e.0 ++ here) (few_append v.size.slots 40 (last + 1) 1 0 e.0 here e.4 (few_flat v.size.slots 1 here refl (omega arith))) (omega arith) (omega arith),
    )) told

-- one run after another
pub run_more : (k : ℕ) (rs : List Verdict) (r : Verdict) (v u w : View) → Run k rs v u → SweptBy (k + length rs) u r w → Run k (rs ++ r ∷ []) v w
run_more k [] r v u w e s = (w, subst (λ (y : View). SweptBy k y r w) e (subst (λ (n : ℕ). SweptBy n u r w) (let none : k + 0 ≡ k = omega arith in none) s), refl)
run_more k (q ∷ rs) r v u w e s = (e.0, e.1, run_more (k + 1) rs r e.0 u w e.2 (subst (λ (n : ℕ). SweptBy n u r w) (let same : k + length (q ∷ rs) ≡ k + 1 + length rs = omega arith in same) s))
