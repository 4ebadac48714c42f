use Rattle.std.proofs.Common.{◌≡◌, ◌<◌, ◌≤◌, ℕ, ◌+◌, ◌*◌, ◌++◌, [], ◌∷◌, false, List, length, get_or, take, refl, sym, ap, ◌∙◌, subst, arith, Some, length-append, length-take, take_all}
use Rattle.std.proofs.lemmas.List.{take_more}
use Rattle.atom_words.specs.Board.{text_at}
use Rattle.atom_words.specs.Texts.{row_of}
use Rattle.atom_words.specs.Seats.{PutBy, Puts}
use Rattle.atom_words.specs.declared.size.Size.{Size}
use Rattle.atom_words.specs.declared.view.Own.{Own}
use Rattle.atom_words.specs.declared.view.View.{View}
use Rattle.atom_words.proofs.Putting.{row_length, puts_more, puts_keep, puts_own}
use Rattle.atom_words.proofs.words.Words.put_words.Goals as goal

pub put_word-requires-clause-fits : goal.put_word-requires-clause-fits
put_word-requires-clause-fits c = let v : View = c.args.seat.now.me.0 in let w : View = c.loop-i.seat.me.0 in let ws : List ℕ = take c.loop-i.i (row_of c.args.text.now) in let puts : Puts ws v w = c.loop-i.invariant.view in (
  c.loop-i.invariant.same.0 ∙ c.requires.fits.0,
  puts_keep (λ (y : View). y.size) (λ _ _. refl) (λ _ _ _. refl) ws v w puts ∙ c.requires.fits.1,
  puts_keep (λ (y : View). y.gone) (λ _ _. refl) (λ _ _ _. refl) ws v w puts ∙ c.requires.fits.2,
)

pub put_word-requires-clause-inside : goal.put_word-requires-clause-inside
put_word-requires-clause-inside c = c.text_place-place.ensures.inside

pub put_word-requires-clause-own : goal.put_word-requires-clause-own
put_word-requires-clause-own c = let v : View = c.args.seat.now.me.0 in let w : View = c.loop-i.seat.me.0 in let i : ℕ = c.loop-i.i in let row : List ℕ = row_of c.args.text.now in let ws : List ℕ = take i row in let o = c.requires.own.0 in let below : i < 32 = omega (arith, c.loop-i-test.true, c.requires.many) in
    let puts : Puts ws v w = c.loop-i.invariant.view in
    let size : w.size ≡ v.size = puts_keep (λ (y : View). y.size) (λ _ _. refl) (λ _ _ _. refl) ws v w puts in
    let p : Own = record o { text = o.text ++ ws } in
    let own : w.own ≡ Some p = puts_own o ws v w c.requires.own.1 puts in
    let empty : length o.text ≡ 0 = ap length c.requires.own.3 in let all = row_length c.args.text.now in
    let long : length ws ≡ i = length-take i row ∙ omega arith in
    let many : length (o.text ++ ws) ≡ i = length-append o.text ws ∙ omega arith in
    let same : c.args.self.now.size ≡ w.size = sym c.requires.fits.1 ∙ sym size in
    let slot : o.slot ≡ c.args.own = c.requires.own.4 in
    let place : c.text_place-place.result ≡ text_at w.size o.slot (length (o.text ++ ws)) = c.text_place-place.ensures.place ∙ (λ j. text_at (same j) (sym slot j) (sym many j)) in
    (p, own, c.requires.own.2, omega arith, subst (λ (y : Size). o.slot < y.slots) same (subst (λ (k : ℕ). k < c.args.self.now.size.slots) (sym slot) c.requires.slot), place)

pub loop-i-preserved : goal.loop-i-preserved
loop-i-preserved c = let v : View = c.args.seat.now.me.0 in let w : View = c.loop-i.seat.me.0 in let u : View = c.put_word.new.seat.me.0 in let i : ℕ = c.loop-i.i in let row : List ℕ = row_of c.args.text.now in let all = row_length c.args.text.now in let below : i < 32 = omega (arith, c.loop-i-test.true, c.requires.many) in record {
  same = (c.put_word.ensures.same.0 ∙ c.loop-i.invariant.same.0, c.put_word.ensures.same.1 ∙ c.loop-i.invariant.same.1, c.put_word.ensures.same.2 ∙ c.loop-i.invariant.same.2);
  view = subst (λ (l : List ℕ). Puts l v u) (sym (take_more row i 0 (omega arith))) (puts_more (take i row) (get_or row i 0) v w u c.loop-i.invariant.view (subst (λ (x : ℕ). PutBy x w u) c.row_word.ensures c.put_word.ensures.steps));
}

pub text_place-place-requires : goal.text_place-place-requires
text_place-place-requires c = (c.requires.slot, omega (arith, c.loop-i-test.true, c.requires.many))

pub returns-clause-steps : goal.returns-clause-steps
returns-clause-steps c = let end : c.loop-i.i ≡ c.args.many = (let a = c.loop-i-test.false in let b = c.loop-i.auto.i-end in omega arith) in
    subst (λ (n : ℕ). Puts (take n (row_of c.args.text.now)) c.args.seat.now.me.0 c.loop-i.seat.me.0) end c.loop-i.invariant.view
