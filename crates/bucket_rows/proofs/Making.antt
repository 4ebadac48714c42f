-- What the steps that make a new slot leave of the view.
use Rattle.std.proofs.Common.{◌≡◌, ◌≢◌, ◌<◌, ℕ, inl, inr, false, List, take, [], ◌∷◌, refl, sym, ap, ◌∙◌, subst, ⊎_elim, Some, Ok, Err, Result, option_map}
use Rattle.atom_words.specs.Layout.{first_of}
use Rattle.atom_words.specs.Board.{atom_at}
use Rattle.atom_words.specs.Kinds.{view_after, linking, linked_own, after}
use Rattle.atom_words.specs.Seats.{PutBy, Puts, PutsRow, Reserves, Walking}
use Rattle.atom_words.specs.declared.view.Own.{Own}
use Rattle.atom_words.specs.declared.view.Walk.{Walk}
use Rattle.atom_words.specs.declared.view.Cycling.{Cycling}
use Rattle.atom_words.specs.declared.view.View.{View}
use Rattle.atom_words.specs.declared.kind.Kind.TheVariants.{Reserve, Load, Measure, PutWord, Fill}
use Rattle.bucket_rows.specs.declared.missed.Missed.{Missed}
use Rattle.bucket_rows.specs.declared.missed.Missed.TheVariants.{Moved, Pending, Closed, Worn}
use Rattle.bucket_rows.specs.Walks.{Links}

-- the own slot, the walk, the pass, the refusals and the steps made aside, the view w is v
pub record Beside (v w : View) : Type 0 where
  pub gone : w.gone ≡ v.gone
  pub size : w.size ≡ v.size
  pub held : w.held ≡ v.held
  pub fixed : w.fixed ≡ v.fixed
  pub counts : w.counts ≡ v.counts
  pub asked : w.asked ≡ v.asked
  pub undealt : w.undealt ≡ v.undealt
  pub cycle : w.cycle ≡ v.cycle
  pub sweep : w.sweep ≡ v.sweep
  pub risen : w.risen ≡ v.risen

pub beside_refl : (v : View) → Beside v v
beside_refl v = record { gone = refl; size = refl; held = refl; fixed = refl; counts = refl; asked = refl; undealt = refl; cycle = refl; sweep = refl; risen = refl }

pub beside_trans : (u v w : View) → Beside u v → Beside v w → Beside u w
beside_trans u v w a b = record { gone = b.gone ∙ a.gone; size = b.size ∙ a.size; held = b.held ∙ a.held; fixed = b.fixed ∙ a.fixed; counts = b.counts ∙ a.counts; asked = b.asked ∙ a.asked; undealt = b.undealt ∙ a.undealt; cycle = b.cycle ∙ a.cycle; sweep = b.sweep ∙ a.sweep; risen = b.risen ∙ a.risen }

pub beside_reserve : (v : View) (k : ℕ) (w : View) → Reserves v k w → Beside v w
beside_reserve v k w r = subst (Beside v) (sym r.1) (record { gone = refl; size = refl; held = refl; fixed = refl; counts = refl; asked = refl; undealt = refl; cycle = refl; sweep = refl; risen = refl })

beside_put : (x : ℕ) (v w : View) → PutBy x v w → Beside v w
beside_put x v w b = ⊎_elim
    (λ (e : w ≡ after v (PutWord x ∷ [])). subst (Beside v) (sym e) (record { gone = refl; size = refl; held = refl; fixed = refl; counts = refl; asked = refl; undealt = refl; cycle = refl; sweep = refl; risen = refl }))
    (λ (e : (i y : ℕ) × (y ≢ x) × (w ≡ after v (Load i y ∷ PutWord x ∷ []))). subst (Beside v) (sym e.3) (record { gone = refl; size = refl; held = refl; fixed = refl; counts = refl; asked = refl; undealt = refl; cycle = refl; sweep = refl; risen = refl })) b

beside_words : (ws : List ℕ) (v w : View) → Puts ws v w → Beside v w
beside_words [] v w p = subst (Beside v) (sym p) (beside_refl v)
beside_words (x ∷ ws) v w p = beside_trans v p.0 w (beside_put x v p.0 p.1) (beside_words ws p.0 w p.2)

pub beside_puts : (row : List ℕ) (v w : View) → PutsRow row v w → Beside v w
beside_puts row v w p = let m : View = view_after v (Measure p.0) in beside_trans v m w (record { gone = refl; size = refl; held = refl; fixed = refl; counts = refl; asked = refl; undealt = refl; cycle = refl; sweep = refl; risen = refl }) (beside_trans m p.2 w (beside_words (take p.1 row) m p.2 p.3) (subst (Beside p.2) (sym p.4) (record { gone = refl; size = refl; held = refl; fixed = refl; counts = refl; asked = refl; undealt = refl; cycle = refl; sweep = refl; risen = refl })))

-- a seat that walks does so still
pub walking_beside : (v w : View) → Beside v w → Walking v → Walking w
walking_beside v w b t = (⊎_elim (λ (e : v.cycle.engine ≢ 0). inl (λ none. e (ap (λ (y : Cycling). y.engine) (sym b.cycle) ∙ none))) (λ (e : 0 < v.undealt). inr (subst (λ (n : ℕ). 0 < n) (sym b.undealt) e)) t.0, b.sweep ∙ t.1)

pub beside_links : (v : View) (t : Walk) (r : Result (Unit {0}) Missed) (w : View) → Links v t r w → Beside v w
beside_links v t (Ok a) w e = subst (Beside v) (sym e) (record { gone = refl; size = refl; held = refl; fixed = refl; counts = refl; asked = refl; undealt = refl; cycle = refl; sweep = refl; risen = refl })
beside_links v t (Err (Moved old new)) w e = subst (Beside v) (sym e.2) (record { gone = refl; size = refl; held = refl; fixed = refl; counts = refl; asked = refl; undealt = refl; cycle = refl; sweep = refl; risen = refl })
beside_links v t (Err (Pending k x)) w e = absurd e
beside_links v t (Err (Closed x)) w e = absurd e
beside_links v t (Err (Worn x)) w e = subst (Beside v) (sym e.2) (record { gone = refl; size = refl; held = refl; fixed = refl; counts = refl; asked = refl; undealt = refl; cycle = refl; sweep = refl; risen = refl })

-- the own slot after a link
pub linked_by : (v : View) (t : Walk) (a : Unit {0}) (w : View) (o : Own) → Links v t (Ok a) w → v.own ≡ Some o → w.own ≡ Some (linked_own (linking (first_of t.word) o))
linked_by v t a w o e own = ap (λ (y : View). y.own) e ∙ ap (λ x. option_map linked_own (option_map (linking (first_of t.word)) x)) own

pub unlinked_by : (v : View) (t : Walk) (m : Missed) (w : View) (o : Own) → Links v t (Err m) w → v.own ≡ Some o → o.linked ≡ false → (p : Own) × (w.own ≡ Some p) × (p.linked ≡ false) × (p.text ≡ o.text)
unlinked_by v t (Moved old new) w o e own un = (linking (first_of t.word) o, ap (λ (y : View). y.own) e.2 ∙ ap (option_map (linking (first_of t.word))) own, un, refl)
unlinked_by v t (Pending k x) w o e own un = absurd e
unlinked_by v t (Closed x) w o e own un = absurd e
unlinked_by v t (Worn x) w o e own un = (o, ap (λ (y : View). y.own) e.2 ∙ own, un, refl)
