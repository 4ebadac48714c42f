use Rattle.std.proofs.Common.{◌≡◌, ℕ, ◌+◌, ◌*◌, ◌/◌, ◌<◌, ◌≤◌, ◌++◌, false, List, [], ◌∷◌, length, get_or, take, refl, sym, ap, ◌∙◌, subst, inl, inr, arith, Some, length-take, length-set, length-append, get_or-set_other, replicate}
use Rattle.std.proofs.lemmas.List.{take_more_set, get_or-take}
use mathlib.Core.Logic.{dite}
use native.Mathlib.Decide.{dec_le}
use Rattle.atom_words.specs.Texts.{filled}
use Rattle.atom_words.specs.Board.{text_at}
use Rattle.atom_words.specs.Kinds.{IsAll, view_after, after}
use Rattle.atom_words.specs.declared.size.Size.{Size}
use Rattle.atom_words.specs.declared.view.Sweeping.{Sweeping}
use Rattle.atom_words.specs.declared.view.View.{View}
use Rattle.atom_words.specs.declared.kind.Kind.TheVariants.{Spell}
use Rattle.bucket_rows.specs.Treads.{spells}
use Rattle.atom_words.proofs.Padding.{zeros, padded_take}
use Rattle.bucket_rows.proofs.SweepSteps.{spelling}
use Rattle.bucket_rows.proofs.Treading.{spells_keep, spells_more, spells_know}
use Rattle.bucket_rows.proofs.spells.read_row.Goals as goal

pub load-first-requires : goal.load-first-requires
load-first-requires c = let v : View = c.args.seat.now.me.0 in let f = c.requires.found in let y : Sweeping = f.0 in let same : c.args.words.now.size ≡ v.size = sym c.requires.fits.1 in
    let place : c.text_place-start.result ≡ text_at v.size c.args.slot 0 = c.text_place-start.ensures.place ∙ ap (λ (z : Size). text_at z c.args.slot 0) same in (
      c.requires.fits.0,
      c.text_place-start.ensures.inside,
      spelling c.args.words.now.table.shared.key c.args.words.now.table.shared.table_id.slots c.args.seat.now.id c.args.seat.now.me (c.args.words.now.keyed ∙ same) c.requires.fits.2 c.text_place-start.result c.args.slot 0 y f.1 f.2 f.5 f.4 (ap length f.6) (omega arith) (subst (λ (z : Size). c.args.slot < z.slots) same c.requires.slot) place,
    )

pub loop-i-init : goal.loop-i-init
loop-i-init c = let x : ℕ = c.load-first.result in record {
  same = (c.load-first.ensures.0, c.load-first.ensures.1, c.load-first.ensures.2.0);
  long = refl;
  view = c.load-first.ensures.2.1;
  first = refl;
  some_ = omega arith;
  rest = λ k late. get_or-set_other (replicate 32 0) 0 k x 0 (λ e. omega arith) ∙ zeros 32 k;
}

pub load-word-requires : goal.load-word-requires
load-word-requires c = let v : View = c.args.seat.now.me.0 in let u : View = c.loop-i.seat.me.0 in let i : ℕ = c.loop-i.i in let row : List ℕ = c.loop-i.row in let ws : List ℕ = take i row in let f = c.requires.found in let y : Sweeping = f.0 in let most = c.at_most_248.ensures.most in let low : i < 32 = omega (arith, c.loop-i-test.true) in
    let wide : length row ≡ 32 = c.loop-i.invariant.long in let is : u ≡ after v (spells ws) = c.loop-i.invariant.view in
    let size : u.size ≡ v.size = ap (λ (x : View). x.size) is ∙ spells_keep (λ (x : View). x.size) (λ _ _. refl) v ws in
    let gone : u.gone ≡ false = ap (λ (x : View). x.gone) is ∙ (spells_keep (λ (x : View). x.gone) (λ _ _. refl) v ws ∙ c.requires.fits.2) in
    let t : Sweeping = record y { text = y.text ++ ws } in let sweep : u.sweep ≡ Some t = ap (λ (x : View). x.sweep) is ∙ spells_know v y ws f.1.0 in
    let empty : length y.text ≡ 0 = ap length f.6 in let long : length ws ≡ i = length-take i row ∙ omega arith in let many : length (y.text ++ ws) ≡ i = length-append y.text ws ∙ omega arith in
    let same : c.args.words.now.size ≡ u.size = sym c.requires.fits.1 ∙ sym size in
    let place : c.text_place-place.result ≡ text_at u.size c.args.slot i = c.text_place-place.ensures.place ∙ ap (λ (z : Size). text_at z c.args.slot i) same in (
      c.loop-i.invariant.same.0 ∙ c.requires.fits.0,
      c.text_place-place.ensures.inside,
      spelling c.args.words.now.table.shared.key c.args.words.now.table.shared.table_id.slots c.loop-i.seat.id c.loop-i.seat.me (c.args.words.now.keyed ∙ same) gone c.text_place-place.result c.args.slot i t (sweep, f.1.1) f.2 f.5 f.4 many low (subst (λ (z : Size). c.args.slot < z.slots) same c.requires.slot) place,
    )

pub loop-i-preserved : goal.loop-i-preserved
loop-i-preserved c = let v : View = c.args.seat.now.me.0 in let i : ℕ = c.loop-i.i in let row : List ℕ = c.loop-i.row in let x : ℕ = c.load-word.result in let most = c.at_most_248.ensures.most in let low : i < 32 = omega (arith, c.loop-i-test.true) in let inv = c.loop-i.invariant in let wide : length row ≡ 32 = inv.long in let past : 1 ≤ i = inv.some_ in record {
  same = (c.load-word.ensures.0 ∙ inv.same.0, c.load-word.ensures.1 ∙ inv.same.1, c.load-word.ensures.2.0 ∙ inv.same.2);
  long = length-set row i x ∙ wide;
  view = c.load-word.ensures.2.1 ∙ ((λ j. view_after (inv.view j) (Spell x)) ∙ (sym (spells_more v (take i row) x) ∙ ap (λ (l : List ℕ). after v (spells l)) (sym (take_more_set row i x (omega arith)))));
  first = get_or-set_other row i 0 x 0 (λ e. omega arith) ∙ inv.first;
  some_ = omega arith;
  rest = λ k late. get_or-set_other row i k x 0 (λ e. omega arith) ∙ inv.rest k (omega arith);
}

pub returns-clause-steps : goal.returns-clause-steps
returns-clause-steps c = let inv = c.loop-i.invariant in let i : ℕ = c.loop-i.i in let row : List ℕ = c.loop-i.row in let ws : List ℕ = take i row in let x : ℕ = c.load-first.result in let m = c.at_most_248.ensures in let most = m.most in
    let end : i ≡ 1 + (c.at_most_248.result + 7) / 8 = (let a = c.loop-i-test.false in let b = c.loop-i.auto.i-end in omega arith) in
    let wide : length row ≡ 32 = inv.long in let past : 1 ≤ i = inv.some_ in let few : i ≤ 32 = omega arith in let long : length ws ≡ i = length-take i row ∙ omega arith in
    let head : get_or ws 0 0 ≡ x = get_or-take i row 0 0 (omega arith) ∙ inv.first in
    let all : IsAll ws = dite (dec_le x 248)
    (λ (short : x ≤ 248). let is = m.fewer short in inl (omega arith, subst (λ (n : ℕ). filled n ≤ length ws) (sym head) (omega arith)))
    (λ (over : ¬ (x ≤ 248)). let is = m.more (omega arith) in inr (omega arith)) in
    (ws, inv.view, all, omega arith, sym (padded_take row i wide few inv.rest))
