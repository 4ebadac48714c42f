use Rattle.std.proofs.Common.{◌≡◌, ℕ, ◌<◌, List, length, inr, [], ◌∷◌, ◌++◌, encode_utf8_all, refl, sym, ap, ◌∙◌, subst, false, Some, None, Ok}
use Rattle.atom_words.specs.Layout.{first_of}
use Rattle.atom_words.specs.Texts.{row_of, Formed}
use Rattle.atom_words.specs.Plays.{Alone}
use Rattle.atom_words.specs.Ties.{own_slot}
use Rattle.atom_words.specs.Kinds.{fresh, linking, linked_own, after}
use Rattle.atom_words.specs.Seats.{seen, PutsRow}
use Rattle.atom_words.specs.declared.size.Size.{Size}
use Rattle.atom_words.specs.declared.view.Own.{Own}
use Rattle.atom_words.specs.declared.view.View.{View}
use Rattle.atom_words.specs.declared.kind.Kind.TheVariants.{PutLink, Link, Validate}
use Rattle.atom_words.proofs.Putting.{row_own, row_keeps}
use Rattle.bucket_rows.specs.Walks.{spelled, Ready}
use Rattle.bucket_rows.proofs.Filling.{text_row_is}
use Rattle.bucket_rows.proofs.Reading.{ready_put, alone_as}
use Rattle.bucket_rows.proofs.Making.{Beside, beside_trans, beside_puts, beside_links, linked_by, unlinked_by}
use Rattle.atom_table.specs.Interning.{Adds}
use Rattle.atom_table.proofs.Adding.{adds_err, added_held}
use Rattle.atom_table.proofs.Settling.{sitting_by}
use Rattle.atom_table.proofs.making.add_text.Goals as goal

pub link-requires-clause-fits : goal.link-requires-clause-fits
link-requires-clause-fits c = let v : View = seen c.args.seat.now in let u : View = seen c.put_text.new.seat in let b = beside_puts (row_of c.as_bytes.result.now) v u c.put_text.ensures.steps in
    (c.put_text.ensures.same.0 ∙ c.requires.fits.0, b.size ∙ c.requires.fits.1, b.gone ∙ c.requires.fits.2)

pub link-requires-clause-ready : goal.link-requires-clause-ready
link-requires-clause-ready c = let v : View = seen c.args.seat.now in let row : List ℕ = spelled c.args.text.now in let is : row_of c.as_bytes.result.now ≡ row = ap row_of (c.as_bytes.ensures.value ∙ c.as_str.ensures) in
    ready_put row c.requires.own.0 v (seen c.put_text.new.seat) (text_row_is (encode_utf8_all c.args.text.now) c.requires.short) c.requires.own.1 c.requires.missing (subst (λ (l : List ℕ). PutsRow l v (seen c.put_text.new.seat)) is c.put_text.ensures.steps)

pub validate-requires-clause-fits : goal.validate-requires-clause-fits
validate-requires-clause-fits c = let v : View = seen c.args.seat.now in let u : View = seen c.put_text.new.seat in let w : View = seen c.link.new.seat in let row : List ℕ = spelled c.args.text.now in let is : row_of c.as_bytes.result.now ≡ row = ap row_of (c.as_bytes.ensures.value ∙ c.as_str.ensures) in
    let r : Ready u = ready_put row c.requires.own.0 v u (text_row_is (encode_utf8_all c.args.text.now) c.requires.short) c.requires.own.1 c.requires.missing (subst (λ (l : List ℕ). PutsRow l v u) is c.put_text.ensures.steps) in
    let b = beside_trans v u w (beside_puts (row_of c.as_bytes.result.now) v u c.put_text.ensures.steps) (beside_links u r.4.2.walk c.link.result w (c.link.ensures.steps r.4.2.walk r.4.2.at)) in
    (c.link.ensures.same.0 ∙ (c.put_text.ensures.same.0 ∙ c.requires.fits.0), b.size ∙ c.requires.fits.1, b.gone ∙ c.requires.fits.2)

pub validate-requires-clause-sitting : goal.validate-requires-clause-sitting
validate-requires-clause-sitting c = let v : View = seen c.args.seat.now in let u : View = seen c.put_text.new.seat in let w : View = seen c.link.new.seat in let row : List ℕ = spelled c.args.text.now in let is : row_of c.as_bytes.result.now ≡ row = ap row_of (c.as_bytes.ensures.value ∙ c.as_str.ensures) in
    let r : Ready u = ready_put row c.requires.own.0 v u (text_row_is (encode_utf8_all c.args.text.now) c.requires.short) c.requires.own.1 c.requires.missing (subst (λ (l : List ℕ). PutsRow l v u) is c.put_text.ensures.steps) in
    let b = beside_trans v u w (beside_puts (row_of c.as_bytes.result.now) v u c.put_text.ensures.steps) (beside_links u r.4.2.walk c.link.result w (c.link.ensures.steps r.4.2.walk r.4.2.at)) in
    sitting_by v w b.cycle b.undealt c.requires.sitting

pub release-requires-clause-fits : goal.release-requires-clause-fits
release-requires-clause-fits c = let v : View = seen c.args.seat.now in let u : View = seen c.put_text.new.seat in let w : View = seen c.link.new.seat in let row : List ℕ = spelled c.args.text.now in let is : row_of c.as_bytes.result.now ≡ row = ap row_of (c.as_bytes.ensures.value ∙ c.as_str.ensures) in
    let r : Ready u = ready_put row c.requires.own.0 v u (text_row_is (encode_utf8_all c.args.text.now) c.requires.short) c.requires.own.1 c.requires.missing (subst (λ (l : List ℕ). PutsRow l v u) is c.put_text.ensures.steps) in
    let b = beside_trans v u w (beside_puts (row_of c.as_bytes.result.now) v u c.put_text.ensures.steps) (beside_links u r.4.2.walk c.link.result w (c.link.ensures.steps r.4.2.walk r.4.2.at)) in
    (c.link.ensures.same.0 ∙ (c.put_text.ensures.same.0 ∙ c.requires.fits.0), b.size ∙ c.requires.fits.1, b.gone ∙ c.requires.fits.2)

pub validate-requires-clause-linked : goal.validate-requires-clause-linked
validate-requires-clause-linked c = let v : View = seen c.args.seat.now in let u : View = seen c.put_text.new.seat in let w : View = seen c.link.new.seat in let row : List ℕ = spelled c.args.text.now in let is : row_of c.as_bytes.result.now ≡ row = ap row_of (c.as_bytes.ensures.value ∙ c.as_str.ensures) in
    let r : Ready u = ready_put row c.requires.own.0 v u (text_row_is (encode_utf8_all c.args.text.now) c.requires.short) c.requires.own.1 c.requires.missing (subst (λ (l : List ℕ). PutsRow l v u) is c.put_text.ensures.steps) in
    (linked_own (linking (first_of r.4.2.walk.word) r.0), linked_by u r.4.2.walk tt w r.0 (c.in-Ok.ensures.steps r.4.2.walk r.4.2.at) r.1, refl)

pub release-requires-clause-unlinked : goal.release-requires-clause-unlinked
release-requires-clause-unlinked c = let v : View = seen c.args.seat.now in let u : View = seen c.put_text.new.seat in let w : View = seen c.link.new.seat in let row : List ℕ = spelled c.args.text.now in let is : row_of c.as_bytes.result.now ≡ row = ap row_of (c.as_bytes.ensures.value ∙ c.as_str.ensures) in
    let r : Ready u = ready_put row c.requires.own.0 v u (text_row_is (encode_utf8_all c.args.text.now) c.requires.short) c.requires.own.1 c.requires.missing (subst (λ (l : List ℕ). PutsRow l v u) is c.put_text.ensures.steps) in
    let q = unlinked_by u r.4.2.walk c.in-Err.missed w r.0 (c.in-Err.ensures.steps r.4.2.walk r.4.2.at) r.1 r.2 in (q.0, q.1, q.2, inr (ap length q.3 ∙ r.3, subst Formed (sym q.3) r.5))

pub returns-in-Ok-clause-steps : goal.returns-in-Ok-clause-steps
returns-in-Ok-clause-steps c = λ t at. let v : View = seen c.args.seat.now in let u : View = seen c.put_text.new.seat in let row : List ℕ = spelled c.args.text.now in let is : row_of c.as_bytes.result.now ≡ row = ap row_of (c.as_bytes.ensures.value ∙ c.as_str.ensures) in
    let put : PutsRow row v u = subst (λ (l : List ℕ). PutsRow l v u) is c.put_text.ensures.steps in let walk : u.walk ≡ Some t = row_keeps (λ (y : View). y.walk) (λ _ _. refl) (λ _ _. refl) (λ _ _ _. refl) (λ _. refl) row v u put ∙ at in
    (u, put, c.validate.ensures.steps ∙ ap (λ (y : View). after y (Validate ∷ [])) (c.in-Ok.ensures.steps t walk))

pub returns-in-Err-clause-steps : goal.returns-in-Err-clause-steps
returns-in-Err-clause-steps c = λ t at. let v : View = seen c.args.seat.now in let u : View = seen c.put_text.new.seat in let row : List ℕ = spelled c.args.text.now in let is : row_of c.as_bytes.result.now ≡ row = ap row_of (c.as_bytes.ensures.value ∙ c.as_str.ensures) in
    let put : PutsRow row v u = subst (λ (l : List ℕ). PutsRow l v u) is c.put_text.ensures.steps in let walk : u.walk ≡ Some t = row_keeps (λ (y : View). y.walk) (λ _ _. refl) (λ _ _. refl) (λ _ _ _. refl) (λ _. refl) row v u put ∙ at in
    adds_err row t v u (seen c.link.new.seat) (seen c.release.new.seat) put c.in-Err.missed (c.in-Err.ensures.steps t walk) c.release.ensures.steps

pub returns-in-Ok-clause-held : goal.returns-in-Ok-clause-held
returns-in-Ok-clause-held c = λ k own. let s = c.args.seat.now in let v : View = seen s in let u : View = seen c.put_text.new.seat in let w : View = seen c.link.new.seat in let row : List ℕ = spelled c.args.text.now in let is : row_of c.as_bytes.result.now ≡ row = ap row_of (c.as_bytes.ensures.value ∙ c.as_str.ensures) in
    let put : PutsRow row v u = subst (λ (l : List ℕ). PutsRow l v u) is c.put_text.ensures.steps in let m = c.requires.missing.2 in let walk : u.walk ≡ Some m.walk = row_keeps (λ (y : View). y.walk) (λ _ _. refl) (λ _ _. refl) (λ _ _ _. refl) (λ _. refl) row v u put ∙ m.at in
    let now = row_own (fresh k) row v u refl own put in let o : Own = record { slot = k; text = row; bound = now.0; link = None; linked = false } in let u_own : u.own ≡ Some o = now.1 in
    let p : Own = linked_own (linking (first_of m.walk.word) o) in let w_own : w.own ≡ Some p = linked_by u m.walk tt w o (c.in-Ok.ensures.steps m.walk walk) u_own in
    let slot : c.at.result ≡ k = c.at.ensures ∙ c.validate.ensures.slot p w_own in
    let mine : k ≡ s.own = ap (own_slot s.own) (sym own) ∙ s.owns.0 in let inside : k < c.args.words.now.size.slots = subst (λ (z : Size). k < z.slots) c.requires.fits.1 (subst (λ (i : ℕ). i < v.size.slots) (sym mine) s.owns.1) in
    let b = beside_trans v u w (beside_puts row v u put) (beside_links u m.walk c.link.result w (c.link.ensures.steps m.walk walk)) in
    let steps : Adds row m.walk v (Ok k) (seen c.validate.new.seat) = (u, put, c.validate.ensures.steps ∙ ap (λ (y : View). after y (Validate ∷ [])) (c.in-Ok.ensures.steps m.walk walk)) in
    subst (λ (a : ℕ). (a ≡ k) × (a < c.args.words.now.size.slots) × Alone v a row × ((seen c.validate.new.seat).held ≡ v.held ++ record { slot = a; text = row } ∷ [])) (sym slot)
    (refl, inside, alone_as v w k row b.held b.fixed (c.validate.ensures.alone p w_own), added_held row m.walk v k own k (seen c.validate.new.seat) steps)
