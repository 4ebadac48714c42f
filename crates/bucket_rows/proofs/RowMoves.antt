-- A slot is moved from chain to chain: what the collector knows at each step.
use Rattle.std.proofs.Common.{◌≡◌, ◌≢◌, ℕ, ◌+◌, ◌-◌, ◌^◌, ◌<◌, ◌≤◌, List, [], ◌∷◌, length, sym, ap, ◌∙◌, subst, arith, Option, Some, None, MatchOption}
use Rattle.atom_words.specs.Layout.{row_first}
use Rattle.atom_words.specs.Texts.{bucket}
use Rattle.atom_words.specs.Kinds.{MovesChains, old_head, after}
use Rattle.atom_words.specs.declared.view.Held.{Held}
use Rattle.atom_words.specs.declared.view.Growing.{Growing}
use Rattle.atom_words.specs.declared.view.View.{View}
use Rattle.atom_words.specs.declared.kind.Kind.TheVariants.{Next, Pick}
use Rattle.bucket_rows.specs.RowChanges.{Rowing, Paces, AtEnd}
use Rattle.bucket_rows.specs.declared.moving.Last.{Last}
use Rattle.bucket_rows.proofs.RowViews.{idle_on, moves_same, rowing_moved, Looked, ended_by}

-- THE LAST SLOT of a chain, where its text was read
pub last_ended : (o : Option Last) (text : Option (List ℕ)) (h x n before p i y slot m : ℕ) (v t w : View)
    → MatchOption o (text ≡ None) (λ (l : Last). (text ≡ Some l.row) × (l.slot ≡ slot) × (l.before ≡ before)) → Looked i y text v t → p ≢ 0 → p - 1 ≡ slot → w ≡ after t (Next 0 ∷ []) → Paces h x n before p [] v → slot < m → before ≤ m
    → MatchOption o (Unit {0}) (λ (l : Last). AtEnd h l.slot l.before l.row w × (l.slot < m) × (l.before ≤ m) × (length l.row ≡ 32))
last_ended None text h x n before p i y slot m v t w e looked ne at now k low most = tt
last_ended (Some l) text h x n before p i y slot m v t w e looked ne at now k low most = let r = ended_by h x n before p i y text l.row v t w e.0 looked ne now k in (
  subst (λ (q : ℕ × ℕ). AtEnd h q.0 q.1 l.row w) (λ j. ((at ∙ sym e.1) j, sym e.2 j)) r.0,
  subst (λ (q : ℕ). q < m) (sym e.1) low,
  subst (λ (q : ℕ). q ≤ m) (sym e.2) most,
  r.1,
)

-- THE CHAINS MAY BE MOVED still
moves_parts : (v w : View) → w.sweep ≡ v.sweep → w.growing.shut ≡ v.growing.shut → w.growing.row ≡ v.growing.row → w.growing.aim ≡ v.growing.aim → MovesChains v → MovesChains w
moves_parts v w e shut row aim m = (idle_on v w e m.0, shut ∙ (m.1 ∙ ap (λ (n : ℕ). 2 ^ n) (sym row)), λ same. m.2 (sym aim ∙ (same ∙ row)))

pub moving_same : (v w : View) → w.sweep ≡ v.sweep → w.growing ≡ v.growing → MovesChains v × (v.growing.moving ≡ 0) → MovesChains w × (w.growing.moving ≡ 0)
moving_same v w e g m = (moves_same v w e g m.0, ap (λ (t : Growing). t.moving) g ∙ m.1)

-- the slot that was picked is known still
pub picked_same : (slot h : ℕ) (v w : View) → w.growing ≡ v.growing → (a : Held) × (v.growing.picked ≡ Some a) × (a.slot ≡ slot) × (bucket v.growing.aim a.text ≡ h) → (a : Held) × (w.growing.picked ≡ Some a) × (a.slot ≡ slot) × (bucket w.growing.aim a.text ≡ h)
picked_same slot h v w g p = (p.0, ap (λ (t : Growing). t.picked) g ∙ p.1, p.2, ap (λ (t : Growing). bucket t.aim p.0.text) g ∙ p.3)

-- WHERE THE SLOT IS PICKED
pub pick_moves : (a : Held) (before : ℕ) (v w : View) → w ≡ after v (Pick a before ∷ []) → MovesChains v × (v.growing.moving ≡ 0) → MovesChains w × (w.growing.moving ≡ 0)
pick_moves a before v w is m = (
  moves_parts v w (ap (λ (y : View). y.sweep) is) (ap (λ (y : View). y.growing.shut) is) (ap (λ (y : View). y.growing.row) is) (ap (λ (y : View). y.growing.aim) is) m.0,
  ap (λ (y : View). y.growing.moving) is ∙ m.1,
)

-- WHERE IT IS PUT in its new chain
abbrev pub Put : ℕ → View → View → Type 0
Put slot v w = (w.growing ≡ record v.growing { picked = None; moving = slot + 1 }) × (w.sweep ≡ v.sweep)

pub put_moves : (slot : ℕ) (v w : View) → Put slot v w → MovesChains v → MovesChains w
put_moves slot v w p m = moves_parts v w p.1 (ap (λ (g : Growing). g.shut) p.0) (ap (λ (g : Growing). g.row) p.0) (ap (λ (g : Growing). g.aim) p.0) m

-- it may leave its old one
pub put_leaves : (row aim sound moved slot before h : ℕ) (a : Held) (v u t w : View) → Rowing row aim (2 ^ row) sound moved v → u.growing ≡ v.growing → t ≡ after u (Pick a before ∷ []) → MovesChains t → Put slot t w → h ≡ row_first row + moved
    → MovesChains w × (w.growing.moving ≢ 0) × (w.growing.before ≡ before) × (h ≡ old_head w.growing)
put_leaves row aim sound moved slot before h a v u t w r g is m p at = let row_ : w.growing.row ≡ row = ap (λ (x : Growing). x.row) p.0 ∙ (ap (λ (y : View). y.growing.row) is ∙ (ap (λ (x : Growing). x.row) g ∙ r.row_is)) in
    let moved_ : w.growing.moved ≡ moved = ap (λ (x : Growing). x.moved) p.0 ∙ (ap (λ (y : View). y.growing.moved) is ∙ (ap (λ (x : Growing). x.moved) g ∙ r.moved_is)) in (
      put_moves slot t w p m,
      (λ none_. let some_ : w.growing.moving ≡ slot + 1 = ap (λ (x : Growing). x.moving) p.0 in absurd (omega (arith, none_, some_))),
      ap (λ (x : Growing). x.before) p.0 ∙ ap (λ (y : View). y.growing.before) is,
      at ∙ (λ i. row_first (sym row_ i) + sym moved_ i),
    )

-- WHERE IT HAS LEFT the old one, the collector knows of the rows what it knew
pub left_rows : (row aim shut sound moved slot before : ℕ) (a : Held) (v u t w z : View) → u.growing ≡ v.growing → u.sweep ≡ v.sweep → t ≡ after u (Pick a before ∷ []) → Put slot t w → z.growing ≡ record w.growing { moving = 0 } → z.sweep ≡ w.sweep
    → Rowing row aim shut sound moved v → Rowing row aim shut sound moved z
left_rows row aim shut sound moved slot before a v u t w z g s is p e q r = rowing_moved row aim shut sound moved v z
    (q ∙ (p.1 ∙ (ap (λ (y : View). y.sweep) is ∙ s)))
    (ap (λ (x : Growing). x.row) e ∙ (ap (λ (x : Growing). x.row) p.0 ∙ (ap (λ (y : View). y.growing.row) is ∙ ap (λ (x : Growing). x.row) g)))
    (ap (λ (x : Growing). x.aim) e ∙ (ap (λ (x : Growing). x.aim) p.0 ∙ (ap (λ (y : View). y.growing.aim) is ∙ ap (λ (x : Growing). x.aim) g)))
    (ap (λ (x : Growing). x.shut) e ∙ (ap (λ (x : Growing). x.shut) p.0 ∙ (ap (λ (y : View). y.growing.shut) is ∙ ap (λ (x : Growing). x.shut) g)))
    (ap (λ (x : Growing). x.sound) e ∙ (ap (λ (x : Growing). x.sound) p.0 ∙ (ap (λ (y : View). y.growing.sound) is ∙ ap (λ (x : Growing). x.sound) g)))
    (ap (λ (x : Growing). x.moved) e ∙ (ap (λ (x : Growing). x.moved) p.0 ∙ (ap (λ (y : View). y.growing.moved) is ∙ ap (λ (x : Growing). x.moved) g)))
    (ap (λ (x : Growing). x.moving) e)
    r
