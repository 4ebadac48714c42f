-- What is told of a text that was interned.
use Rattle.std.proofs.Common.{◌≡◌, ℕ, ◌<◌, ◌≤◌, false, List, [], ◌∷◌, ◌++◌, refl, sym, ap, ◌∙◌, subst, inr, append-nil, Some, None, Ok, Err, Result, IfOk, option_map}
use Rattle.pl_term.specs.Tree.{Chars}
use Rattle.pl_term.specs.Texts.{size}
use Rattle.atom_words.specs.Layout.{first_of}
use Rattle.atom_words.specs.Plays.{Alone}
use Rattle.atom_words.specs.Kinds.{fresh, linking, linked_own, held_own, after}
use Rattle.atom_words.specs.Seats.{PutsRow}
use Rattle.atom_words.specs.declared.view.Walk.{Walk}
use Rattle.atom_words.specs.declared.view.Cause.TheVariants.{Moved as CauseMoved}
use Rattle.atom_words.specs.declared.view.Refusal.{Refusal}
use Rattle.atom_words.specs.declared.view.Refusal.TheVariants.{Again as RefusalAgain, Worn as RefusalWorn}
use Rattle.atom_words.specs.declared.view.View.{View}
use Rattle.atom_words.specs.declared.kind.Kind.TheVariants.{PutLink, Link, Validate, Release, Refuse}
use Rattle.atom_words.proofs.Putting.{row_keeps, row_own}
use Rattle.bucket_rows.specs.declared.missed.Missed.{Missed}
use Rattle.bucket_rows.specs.declared.missed.Missed.TheVariants.{Moved, Pending, Closed, Worn}
use Rattle.bucket_rows.specs.Walks.{spelled, Links}
use Rattle.bucket_rows.proofs.Reading.{alone_as}
use Rattle.bucket_rows.proofs.Making.{Beside, beside_puts}
use Rattle.atom_api.specs.Interns.{refused}
use Rattle.atom_table.specs.Interning.{Adds, Makes, MakesBy, made_by}
use Rattle.atom_table.specs.Holding.{Rest, Answers, Told}

-- what stays in each view
pub record Carried (v w : View) : Type 0 where
  pub gone : w.gone ≡ v.gone
  pub size : w.size ≡ v.size
  pub fixed : w.fixed ≡ v.fixed
  pub counts : w.counts ≡ v.counts
  pub asked : w.asked ≡ v.asked
  pub undealt : w.undealt ≡ v.undealt
  pub cycle : w.cycle ≡ v.cycle
  pub sweep : w.sweep ≡ v.sweep
  pub risen : w.risen ≡ v.risen

pub carried_beside : (v w : View) → Beside v w → Carried v w
carried_beside v w b = record { gone = b.gone; size = b.size; fixed = b.fixed; counts = b.counts; asked = b.asked; undealt = b.undealt; cycle = b.cycle; sweep = b.sweep; risen = b.risen }

pub carried_trans : (u v w : View) → Carried u v → Carried v w → Carried u w
carried_trans u v w a b = record { gone = b.gone ∙ a.gone; size = b.size ∙ a.size; fixed = b.fixed ∙ a.fixed; counts = b.counts ∙ a.counts; asked = b.asked ∙ a.asked; undealt = b.undealt ∙ a.undealt; cycle = b.cycle ∙ a.cycle; sweep = b.sweep ∙ a.sweep; risen = b.risen ∙ a.risen }

pub rest_carried : (v w : View) → Carried v w → w.own ≡ v.own → Rest v w
rest_carried v w c own = record { gone = c.gone; size = c.size; own = own; fixed = c.fixed; counts = c.counts; undealt = c.undealt; cycle = c.cycle; sweep = c.sweep; risen = c.risen }

-- the refusal that a slot that was not linked adds
abbrev pub missed_refusal : Result ℕ Missed → List Refusal
missed_refusal r = refused (made_by r)

-- THE RESERVED SLOT
module _ (row : List ℕ) (t : Walk) (v : View) (k : ℕ) (own : v.own ≡ Some (fresh k)) where
  pub record Added (r : Result ℕ Missed) (w : View) : Type 0 where
    pub carried : Carried v w
    pub none : w.own ≡ None
    pub refusals : w.refusals ≡ v.refusals ++ refused (made_by r)

  put_refusals : (u : View) → PutsRow row v u → u.refusals ≡ v.refusals
  put_refusals u p = row_keeps (λ (y : View). y.refusals) (λ _ _. refl) (λ _ _. refl) (λ _ _ _. refl) (λ _. refl) row v u p

  pub added : (r : Result ℕ Missed) (w : View) → Adds row t v r w → Added r w
  added (Ok a) w e = subst (Added (Ok a)) (sym e.2) (let b = carried_beside v e.0 (beside_puts row v e.0 e.1) in record {
    carried = record { gone = b.gone; size = b.size; fixed = b.fixed; counts = b.counts; asked = b.asked; undealt = b.undealt; cycle = b.cycle; sweep = b.sweep; risen = b.risen };
    none = refl;
    refusals = put_refusals e.0 e.1 ∙ sym (append-nil v.refusals);
  })
  added (Err (Moved old new)) w e = let q = e.2 in subst (Added (Err (Moved old new))) (sym q.2) (let b = carried_beside v q.0 (beside_puts row v q.0 q.1) in record {
    carried = record { gone = b.gone; size = b.size; fixed = b.fixed; counts = b.counts; asked = b.asked; undealt = b.undealt; cycle = b.cycle; sweep = b.sweep; risen = b.risen };
    none = refl;
    refusals = ap (λ l. l ++ RefusalAgain (CauseMoved old new) ∷ []) (put_refusals q.0 q.1);
  })
  added (Err (Pending j x)) w e = absurd e
  added (Err (Closed x)) w e = absurd e
  added (Err (Worn x)) w e = let q = e.2 in subst (Added (Err (Worn x))) (sym q.2) (let b = carried_beside v q.0 (beside_puts row v q.0 q.1) in record {
    carried = record { gone = b.gone; size = b.size; fixed = b.fixed; counts = b.counts; asked = b.asked; undealt = b.undealt; cycle = b.cycle; sweep = b.sweep; risen = b.risen };
    none = refl;
    refusals = ap (λ l. l ++ RefusalWorn x ∷ []) (put_refusals q.0 q.1);
  })

  put_held : (u : View) → PutsRow row v u → u.held ≡ v.held
  put_held u p = row_keeps (λ (y : View). y.held) (λ _ _. refl) (λ _ _. refl) (λ _ _ _. refl) (λ _. refl) row v u p

  -- what is held then
  pub added_held : (a : ℕ) (w : View) → Adds row t v (Ok a) w → w.held ≡ v.held ++ record { slot = k; text = row } ∷ []
  added_held a w e = let own_is = (row_own (fresh k) row v e.0 refl own e.1).1 in ap (λ (y : View). y.held) e.2
      ∙ (λ i. put_held e.0 e.1 i ++ held_own (option_map linked_own (option_map (linking (first_of t.word)) (own_is i))))

  pub unadded_held : (m : Missed) (w : View) → Adds row t v (Err m) w → w.held ≡ v.held
  unadded_held (Moved old new) w e = ap (λ (y : View). y.held) e.2.2 ∙ put_held e.2.0 e.2.1
  unadded_held (Pending j x) w e = absurd e
  unadded_held (Closed x) w e = absurd e
  unadded_held (Worn x) w e = ap (λ (y : View). y.held) e.2.2 ∙ put_held e.2.0 e.2.1

-- a slot that was not linked is given back
pub adds_err : (row : List ℕ) (t : Walk) (v u w x : View) → PutsRow row v u → (m : Missed) → Links u t (Err m) w → x ≡ after w (Release ∷ []) → Adds row t v (Err m) x
adds_err row t v u w x put (Moved old new) e last = (e.0, e.1, (u, put, last ∙ ap (λ (y : View). after y (Release ∷ [])) e.2))
adds_err row t v u w x put (Pending k y) e last = absurd e
adds_err row t v u w x put (Closed y) e last = absurd e
adds_err row t v u w x put (Worn y) e last = (e.0, e.1, (u, put, last ∙ ap (λ (z : View). after z (Release ∷ [])) e.2))

-- WHAT IS TOLD
module _ (t : Chars) (h : ℕ) (short : size t ≤ 248) where
  -- of a slot that was reserved after a walk without the text
  pub told_added : (walk : Walk) (v u w : View) (k : ℕ) (r : Result ℕ Missed) → walk.head ≡ h → Carried v u → u.held ≡ v.held → u.refusals ≡ v.refusals → v.own ≡ None → u.own ≡ Some (fresh k) → Adds (spelled t) walk u r w
      → IfOk r (λ a. (a < v.size.slots) × Alone u a (spelled t) × (w.held ≡ u.held ++ record { slot = a; text = spelled t } ∷ [])) → u.fixed ≡ v.fixed → Told t h v (made_by r) w
  told_added walk v u w k r head c held refusals none own adds ok fixed = let a = added (spelled t) walk u k own r w adds in record {
    answer = answers r adds ok;
    rest = rest_carried v w (carried_trans v u w c a.carried) (a.none ∙ sym none);
    refusal = a.refusals ∙ ap (λ l. l ++ refused (made_by r)) refusals;
  }
    where
      answers : (q : Result ℕ Missed) → Adds (spelled t) walk u q w → IfOk q (λ a. (a < v.size.slots) × Alone u a (spelled t) × (w.held ≡ u.held ++ record { slot = a; text = spelled t } ∷ [])) → Answers t h v (made_by q) w
      answers (Ok a) e y = (short, y.2 ∙ ap (λ l. l ++ record { slot = a; text = spelled t } ∷ []) held, alone_as v u a (spelled t) held fixed y.1, y.0)
      answers (Err (Moved old new)) e y = (short, unadded_held (spelled t) walk u k own (Moved old new) w e ∙ held)
      answers (Err (Pending j x)) e y = absurd e
      answers (Err (Closed x)) e y = absurd e
      answers (Err (Worn x)) e y = (short, unadded_held (spelled t) walk u k own (Worn x) w e ∙ held, e.0 ∙ head, e.1)

  pub makes_by : (row : List ℕ) (v w : View) (r : Result ℕ Missed) → Makes row v r w → MakesBy row v (made_by r) w
  makes_by row v w (Ok a) m = m
  makes_by row v w (Err (Moved old new)) m = m
  makes_by row v w (Err (Pending k x)) m = m
  makes_by row v w (Err (Closed x)) m = m
  makes_by row v w (Err (Worn x)) m = inr m
