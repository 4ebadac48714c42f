-- The words of a text, and the view as they are put one after the other.
use Rattle.std.proofs.Common.{◌≡◌, ◌≢◌, ℕ, zero, suc, ◌+◌, ◌-◌, ◌*◌, ◌<◌, List, [], ◌∷◌, ◌++◌, length, get_or, take, drop, refl, sym, ap, ◌∙◌, subst, ◌⊎◌, ⊎_elim, arith, Some, option_map, append_assoc, append-nil, drop-drop}
use Rattle.atom_words.specs.Texts.{packed, packs, row_of, padded}
use Rattle.atom_words.specs.Kinds.{measuring, putting, filling_up, view_after, after}
use Rattle.atom_words.specs.Seats.{PutBy, Puts, PutsRow}
use Rattle.atom_words.specs.declared.view.Own.{Own}
use Rattle.atom_words.specs.declared.view.View.{View}
use Rattle.atom_words.specs.declared.kind.Kind.{Kind}
use Rattle.atom_words.specs.declared.kind.Kind.TheVariants.{Measure, PutWord, Fill, Load}

packs_length : (n : ℕ) (bs : List ℕ) → length (packs n bs) ≡ n
packs_length zero bs = refl
packs_length (suc n) bs = ap suc (packs_length n (drop 8 bs))

packs_at : (n i : ℕ) (bs : List ℕ) → i < n → get_or (packs n bs) i 0 ≡ packed (drop (8 * i) bs)
packs_at zero i bs h = absurd (omega arith)
packs_at (suc n) zero bs h = refl
packs_at (suc n) (suc i) bs h = packs_at n i (drop 8 bs) (omega arith) ∙ ap packed (drop-drop (8 * i) 8 bs ∙ (let e : 8 + 8 * i ≡ 8 * suc i = omega arith in ap (λ (k : ℕ). drop k bs) e))

pub row_length : (bs : List ℕ) → length (row_of bs) ≡ 32
unfolding row_of
row_length bs = ap suc (packs_length 31 bs)

pub row_word_is : (bs : List ℕ) (i : ℕ) → i < 32 → i ≢ 0 → get_or (row_of bs) i 0 ≡ packed (drop (8 * (i - 1)) bs)
unfolding row_of
row_word_is bs zero h ne = absurd (ne refl)
row_word_is bs (suc i) h ne = packs_at 31 i bs (omega arith) ∙ (let e : i ≡ suc i - 1 = omega arith in ap (λ (k : ℕ). packed (drop (8 * k) bs)) e)

pub row_first : (bs : List ℕ) → get_or (row_of bs) 0 0 ≡ length bs
unfolding row_of
row_first bs = refl

-- one step more
pub after_more : (v : View) (ks : List Kind) (k : Kind) → after v (ks ++ k ∷ []) ≡ view_after (after v ks) k
after_more v [] k = refl
after_more v (x ∷ ks) k = after_more (view_after v x) ks k

-- one word more
pub puts_more : (ws : List ℕ) (x : ℕ) (v u w : View) → Puts ws v u → PutBy x u w → Puts (ws ++ x ∷ []) v w
puts_more [] x v u w p b = (w, subst (λ (y : View). PutBy x y w) p b, refl)
puts_more (q ∷ ws) x v u w p b = (p.0, p.1, puts_more ws x p.0 u w p.2 b)

-- what stays as words are put
put_keeps : {A : Type 0} (f : View → A) → ((v : View) (x : ℕ) → f (view_after v (PutWord x)) ≡ f v) → ((v : View) (i x : ℕ) → f (view_after v (Load i x)) ≡ f v) → (x : ℕ) (v w : View) → PutBy x v w → f w ≡ f v
put_keeps f put load x v w b = ⊎_elim
    (λ (e : w ≡ after v (PutWord x ∷ [])). ap f e ∙ put v x)
    (λ (e : (i y : ℕ) × (y ≢ x) × (w ≡ after v (Load i y ∷ PutWord x ∷ []))). ap f e.3 ∙ (put (view_after v (Load e.0 e.1)) x ∙ load v e.0 e.1)) b

pub puts_keep : {A : Type 0} (f : View → A) → ((v : View) (x : ℕ) → f (view_after v (PutWord x)) ≡ f v) → ((v : View) (i x : ℕ) → f (view_after v (Load i x)) ≡ f v) → (ws : List ℕ) (v w : View) → Puts ws v w → f w ≡ f v
puts_keep f put load [] v w p = ap f p
puts_keep f put load (x ∷ ws) v w p = puts_keep f put load ws p.0 w p.2 ∙ put_keeps f put load x v p.0 p.1

put_own : (o : Own) (x : ℕ) (v w : View) → v.own ≡ Some o → PutBy x v w → w.own ≡ Some (putting x o)
put_own o x v w own b = ⊎_elim
    (λ (e : w ≡ after v (PutWord x ∷ [])). ap (λ (y : View). y.own) e ∙ ap (option_map (putting x)) own)
    (λ (e : (i y : ℕ) × (y ≢ x) × (w ≡ after v (Load i y ∷ PutWord x ∷ []))). ap (λ (y : View). y.own) e.3 ∙ ap (option_map (putting x)) own) b

pub puts_own : (o : Own) (ws : List ℕ) (v w : View) → v.own ≡ Some o → Puts ws v w → w.own ≡ Some (record o { text = o.text ++ ws })
puts_own o [] v w e p = ap (λ (y : View). y.own) p ∙ (e ∙ ap (λ (t : List ℕ). let x : Own = record o { text = t } in Some x) (sym (append-nil o.text)))
puts_own o (x ∷ ws) v w e p = puts_own (putting x o) ws p.0 w (put_own o x v p.0 e p.1) p.2 ∙ ap (λ (t : List ℕ). let y : Own = record o { text = t } in Some y) (append_assoc o.text (x ∷ []) ws)

-- what stays as a text is put
pub row_keeps : {A : Type 0} (f : View → A) → ((v : View) (x : ℕ) → f (view_after v (Measure x)) ≡ f v) → ((v : View) (x : ℕ) → f (view_after v (PutWord x)) ≡ f v) → ((v : View) (i x : ℕ) → f (view_after v (Load i x)) ≡ f v) → ((v : View) → f (view_after v Fill) ≡ f v)
    → (row : List ℕ) (v w : View) → PutsRow row v w → f w ≡ f v
row_keeps f measure put load fill row v w p = ap f p.4 ∙ (fill p.2 ∙ (puts_keep f put load (take p.1 row) (view_after v (Measure p.0)) p.2 p.3 ∙ measure v p.0))

-- the own slot has the text
pub row_own : (o : Own) (row : List ℕ) (v w : View) → o.text ≡ [] → v.own ≡ Some o → PutsRow row v w → (n : ℕ) × (w.own ≡ Some (record o { text = row; bound = n }))
row_own o row v w empty own p = let m : Own = measuring p.0 o in let u = puts_own m (take p.1 row) (view_after v (Measure p.0)) p.2 (ap (option_map (measuring p.0)) own) p.3 in (
  m.bound,
  ap (λ (y : View). y.own) p.4 ∙ (ap (option_map filling_up) u ∙ ap (λ (t : List ℕ). let y : Own = record m { text = t } in Some y) (ap (λ (t : List ℕ). padded (t ++ take p.1 row)) empty ∙ p.5)),
)
