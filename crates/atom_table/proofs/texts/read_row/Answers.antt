use Rattle.std.proofs.Common.{◌≡◌, ◌≢◌, ℕ, ◌+◌, ◌/◌, ◌<◌, ◌≤◌, false, List, ◌∷◌, length, get_or, set, take, replicate, refl, sym, ap, ◌∙◌, subst, arith, length-take, length-set, get_or-set_same, get_or-set_other}
use Rattle.std.proofs.lemmas.Grind.{same_number_lists}
use Rattle.std.proofs.lemmas.List.{take_more_set}
use mathlib.Core.Logic.{dite}
use native.Mathlib.Decide.{dec_le, ℕ_discrete}
use Rattle.atom_words.specs.Texts.{filled}
use Rattle.atom_words.specs.Board.{text_at}
use Rattle.atom_words.specs.Kinds.{view_after, after}
use Rattle.atom_words.specs.declared.size.Size.{Size}
use Rattle.atom_words.specs.declared.view.Held.{Held}
use Rattle.atom_words.specs.declared.view.View.{View}
use Rattle.atom_words.specs.declared.kind.Kind.TheVariants.{Load}
use Rattle.atom_words.proofs.Padding.{zeros}
use Rattle.atom_words.proofs.WalkSteps.{reading_held}
use Rattle.bucket_rows.specs.Standing.{IsTextRow}
use Rattle.atom_table.specs.Holding.{loads}
use Rattle.atom_table.proofs.Loading.{loads_keep, loads_more}
use Rattle.atom_table.proofs.Spelling.{spelled_row}
use Rattle.atom_table.proofs.Telling.{has_as}
use Rattle.atom_table.proofs.texts.read_row.Goals as goal

-- the text that the seat holds there
fits_row : (x : ℕ) (text : List ℕ) → IsTextRow text → x ≡ get_or text 0 0 → x ≤ 248
fits_row x text t e = subst (λ (n : ℕ). n ≤ 248) (sym e) t.1

pub load-first-requires : goal.load-first-requires
load-first-requires c = let v : View = c.args.seat.now.me.0 in let h = c.requires.held in let same : c.args.words.now.size ≡ v.size = sym c.requires.fits.1 in
    let place : c.text_place-start.result ≡ text_at v.size h.0.slot 0 = c.text_place-start.ensures.place ∙ (λ j. text_at (same j) (sym h.2 j) 0) in
    let inside : h.0.slot < v.size.slots = subst (λ (z : Size). h.0.slot < z.slots) same (subst (λ (k : ℕ). k < c.args.words.now.size.slots) (sym h.2) c.requires.slot) in (
      c.requires.fits.0,
      c.text_place-start.ensures.inside,
      reading_held c.args.words.now.table.shared.key c.args.words.now.table.shared.table_id.slots c.args.seat.now.id c.args.seat.now.me (c.args.words.now.keyed ∙ same) c.requires.fits.2 c.text_place-start.result 0 h.0 h.1 (omega arith) inside place,
    )

pub overflow_add-i-end : goal.overflow_add-i-end
overflow_add-i-end c = let v : View = c.args.seat.now.me.0 in let h = c.requires.held in let same : c.args.words.now.size ≡ v.size = sym c.requires.fits.1 in
    let place : c.text_place-start.result ≡ text_at v.size h.0.slot 0 = c.text_place-start.ensures.place ∙ (λ j. text_at (same j) (sym h.2 j) 0) in
    let few : c.load-first.result ≤ 248 = fits_row c.load-first.result h.0.text (spelled_row h.0.text h.3) (c.load-first.ensures.2.1 h.0 0 h.1 (omega arith) place) in omega arith

pub loop-i-init : goal.loop-i-init
loop-i-init c = let x : ℕ = c.load-first.result in let v : View = c.args.seat.now.me.0 in let same : c.args.words.now.size ≡ v.size = sym c.requires.fits.1 in record {
  same = (c.load-first.ensures.0, c.load-first.ensures.1, c.load-first.ensures.2.0.0);
  long = refl;
  view = c.load-first.ensures.2.0.1 ∙ ap (λ (p : ℕ). view_after v (Load p x)) c.text_place-start.ensures.place;
  first = refl;
  some_ = omega arith;
  read = λ h ours at k below. let none : k ≡ 0 = omega arith in let place : c.text_place-start.result ≡ text_at v.size h.slot 0 = c.text_place-start.ensures.place ∙ (λ j. text_at (same j) (sym at j) 0) in
      ap (λ (j : ℕ). get_or (x ∷ replicate 31 0) j 0) none ∙ (c.load-first.ensures.2.1 h 0 ours (omega arith) place ∙ ap (λ (j : ℕ). get_or h.text j 0) (sym none));
  rest = λ k late. get_or-set_other (replicate 32 0) 0 k x 0 (λ e. omega arith) ∙ zeros 32 k;
}

pub text_place-place-requires : goal.text_place-place-requires
text_place-place-requires c = let h = c.requires.held in let inv = c.loop-i.invariant in let past : 1 ≤ c.loop-i.i = inv.some_ in
    let few : c.load-first.result ≤ 248 = fits_row c.load-first.result h.0.text (spelled_row h.0.text h.3) (sym inv.first ∙ inv.read h.0 h.1 h.2 0 (omega arith)) in (c.requires.slot, omega (arith, c.loop-i-test.true))

pub bounds-row-i : goal.bounds-row-i
bounds-row-i c = let h = c.requires.held in let inv = c.loop-i.invariant in let past : 1 ≤ c.loop-i.i = inv.some_ in
    let few : c.load-first.result ≤ 248 = fits_row c.load-first.result h.0.text (spelled_row h.0.text h.3) (sym inv.first ∙ inv.read h.0 h.1 h.2 0 (omega arith)) in omega (arith, c.loop-i-test.true)

pub load-word-requires : goal.load-word-requires
load-word-requires c = let v : View = c.args.seat.now.me.0 in let u : View = c.loop-i.seat.me.0 in let i : ℕ = c.loop-i.i in let z : Size = c.args.words.now.size in let k : ℕ = c.args.slot in let ws : List ℕ = take i c.loop-i.row in let h = c.requires.held in let inv = c.loop-i.invariant in let past : 1 ≤ i = inv.some_ in
    let few : c.load-first.result ≤ 248 = fits_row c.load-first.result h.0.text (spelled_row h.0.text h.3) (sym inv.first ∙ inv.read h.0 h.1 h.2 0 (omega arith)) in let low : i < 32 = omega (arith, c.loop-i-test.true) in
    let is : u ≡ after v (loads z k 0 ws) = inv.view in
    let size : u.size ≡ v.size = ap (λ (y : View). y.size) is ∙ loads_keep (λ (y : View). y.size) (λ _ _ _. refl) v z k 0 ws in
    let gone : u.gone ≡ false = ap (λ (y : View). y.gone) is ∙ (loads_keep (λ (y : View). y.gone) (λ _ _ _. refl) v z k 0 ws ∙ c.requires.fits.2) in
    let held : u.held ≡ v.held = ap (λ (y : View). y.held) is ∙ loads_keep (λ (y : View). y.held) (λ _ _ _. refl) v z k 0 ws in
    let fixed : u.fixed ≡ v.fixed = ap (λ (y : View). y.fixed) is ∙ loads_keep (λ (y : View). y.fixed) (λ _ _ _. refl) v z k 0 ws in
    let same : z ≡ u.size = sym c.requires.fits.1 ∙ sym size in
    let place : c.text_place-place.result ≡ text_at u.size h.0.slot i = c.text_place-place.ensures.place ∙ (λ j. text_at (same j) (sym h.2 j) i) in
    let inside : h.0.slot < u.size.slots = subst (λ (y : Size). h.0.slot < y.slots) same (subst (λ (j : ℕ). j < z.slots) (sym h.2) c.requires.slot) in (
      inv.same.0 ∙ c.requires.fits.0,
      c.text_place-place.ensures.inside,
      reading_held c.args.words.now.table.shared.key c.args.words.now.table.shared.table_id.slots c.loop-i.seat.id c.loop-i.seat.me (c.args.words.now.keyed ∙ same) gone c.text_place-place.result i h.0 (has_as u v h.0 (sym held) (sym fixed) h.1) low inside place,
    )

pub loop-i-preserved : goal.loop-i-preserved
loop-i-preserved c = let v : View = c.args.seat.now.me.0 in let u : View = c.loop-i.seat.me.0 in let i : ℕ = c.loop-i.i in let z : Size = c.args.words.now.size in let s : ℕ = c.args.slot in let row : List ℕ = c.loop-i.row in let ws : List ℕ = take i row in let x : ℕ = c.load-word.result in let own = c.requires.held in
    let inv = c.loop-i.invariant in let past : 1 ≤ i = inv.some_ in let wide : length row ≡ 32 = inv.long in let is : u ≡ after v (loads z s 0 ws) = inv.view in
    let few : c.load-first.result ≤ 248 = fits_row c.load-first.result own.0.text (spelled_row own.0.text own.3) (sym inv.first ∙ inv.read own.0 own.1 own.2 0 (omega arith)) in let low : i < 32 = omega (arith, c.loop-i-test.true) in
    let size : u.size ≡ v.size = ap (λ (y : View). y.size) is ∙ loads_keep (λ (y : View). y.size) (λ _ _ _. refl) v z s 0 ws in
    let held : u.held ≡ v.held = ap (λ (y : View). y.held) is ∙ loads_keep (λ (y : View). y.held) (λ _ _ _. refl) v z s 0 ws in
    let fixed : u.fixed ≡ v.fixed = ap (λ (y : View). y.fixed) is ∙ loads_keep (λ (y : View). y.fixed) (λ _ _ _. refl) v z s 0 ws in
    let same : z ≡ u.size = sym c.requires.fits.1 ∙ sym size in let long : length ws ≡ i = length-take i row ∙ omega arith in
    let at_i : c.text_place-place.result ≡ text_at z s (0 + length ws) = c.text_place-place.ensures.place ∙ ap (text_at z s) (let e : i ≡ 0 + length ws = omega arith in e) in record {
      same = (c.load-word.ensures.0 ∙ inv.same.0, c.load-word.ensures.1 ∙ inv.same.1, c.load-word.ensures.2.0.0 ∙ inv.same.2);
      long = length-set row i x ∙ wide;
      view = c.load-word.ensures.2.0.1 ∙ ((λ j. view_after (is j) (Load (at_i j) x)) ∙ (sym (loads_more v z s 0 ws x) ∙ ap (λ (l : List ℕ). after v (loads z s 0 l)) (sym (take_more_set row i x (omega arith)))));
      first = get_or-set_other row i 0 x 0 (λ e. omega arith) ∙ inv.first;
      some_ = omega arith;
      read = λ h ours at k below. dite (ℕ_discrete k i)
          (λ (e : k ≡ i). let place : c.text_place-place.result ≡ text_at u.size h.slot i = c.text_place-place.ensures.place ∙ (λ j. text_at (same j) (sym at j) i) in
          ap (λ (j : ℕ). get_or (set row i x) j 0) e ∙ (get_or-set_same row i x 0 (omega arith) ∙ (c.load-word.ensures.2.1 h i (has_as u v h (sym held) (sym fixed) ours) low place ∙ ap (λ (j : ℕ). get_or h.text j 0) (sym e))))
          (λ (ne : k ≢ i). get_or-set_other row i k x 0 ne ∙ inv.read h ours at k (omega arith));
      rest = λ k late. get_or-set_other row i k x 0 (λ e. omega arith) ∙ inv.rest k (omega arith);
    }

pub returns-clause-steps : goal.returns-clause-steps
returns-clause-steps c = (take c.loop-i.i c.loop-i.row, c.loop-i.invariant.view)

pub returns-clause-words : goal.returns-clause-words
returns-clause-words c = λ h ours at spelled_. let inv = c.loop-i.invariant in let i : ℕ = c.loop-i.i in let row : List ℕ = c.loop-i.row in let wide : length row ≡ 32 = inv.long in let past : 1 ≤ i = inv.some_ in
    let t : IsTextRow h.text = spelled_row h.text spelled_ in let head : c.load-first.result ≡ get_or h.text 0 0 = sym inv.first ∙ inv.read h ours at 0 (omega arith) in let few = t.1 in
    let end : filled (get_or h.text 0 0) ≤ i = (let a = c.loop-i-test.false in omega arith) in
    same_number_lists row h.text (wide ∙ sym t.0) (λ k low. dite (dec_le i k)
    (λ (late : i ≤ k). inv.rest k late ∙ sym (t.2 k (omega arith)))
    (λ (early : ¬ (i ≤ k)). inv.read h ours at k (omega arith)))
