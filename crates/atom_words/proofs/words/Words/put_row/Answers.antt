use Rattle.std.proofs.Common.{◌≡◌, ◌≤◌, ℕ, ◌++◌, [], ◌∷◌, List, length, get_or, take, refl, sym, ap, ◌∙◌, subst, inl, inr, ⊎_elim, ◌⊎◌, arith, Some, option_map, length-append, length-take}
use Rattle.atom_words.specs.Texts.{row_of, filled, padded}
use Rattle.atom_words.specs.Kinds.{measuring, IsCovered, view_after, after}
use Rattle.atom_words.specs.Seats.{Puts}
use Rattle.atom_words.specs.declared.size.Size.{Size}
use Rattle.atom_words.specs.declared.view.Own.{Own}
use Rattle.atom_words.specs.declared.view.View.{View}
use Rattle.atom_words.specs.declared.kind.Kind.TheVariants.{Measure}
use Rattle.atom_words.proofs.Padding.{padded_take, formed_row}
use Rattle.atom_words.proofs.Putting.{row_length, row_first, puts_keep, puts_own}
use Rattle.atom_words.proofs.words.Words.put_row.Goals as goal

pub put_words-requires-clause-fits : goal.put_words-requires-clause-fits
put_words-requires-clause-fits c = let is = c.measure-old.ensures.steps in (c.measure-old.ensures.same.0 ∙ c.requires.fits.0, ap (λ (y : View). y.size) is ∙ c.requires.fits.1, ap (λ (y : View). y.gone) is ∙ c.requires.fits.2)

pub put_words-requires-clause-own : goal.put_words-requires-clause-own
put_words-requires-clause-own c = let o = c.requires.own in let x : ℕ = c.measure-old.result in (measuring x o.0, ap (λ (y : View). y.own) c.measure-old.ensures.steps ∙ ap (option_map (measuring x)) o.1, o.2, o.3, o.4)

pub fill-requires-clause-fits : goal.fill-requires-clause-fits
fill-requires-clause-fits c = let is = c.measure-old.ensures.steps in let u : View = c.measure-old.new.seat.me.0 in let w : View = c.put_words.new.seat.me.0 in let ws : List ℕ = take c.words_to_put-many.result (row_of c.args.text.now) in let puts : Puts ws u w = c.put_words.ensures.steps in (
  c.put_words.ensures.same.0 ∙ (c.measure-old.ensures.same.0 ∙ c.requires.fits.0),
  puts_keep (λ (y : View). y.size) (λ _ _. refl) (λ _ _ _. refl) ws u w puts ∙ (ap (λ (y : View). y.size) is ∙ c.requires.fits.1),
  puts_keep (λ (y : View). y.gone) (λ _ _. refl) (λ _ _ _. refl) ws u w puts ∙ (ap (λ (y : View). y.gone) is ∙ c.requires.fits.2),
)

pub fill-requires-clause-own : goal.fill-requires-clause-own
fill-requires-clause-own c = let o = c.requires.own in let x : ℕ = c.measure-old.result in let m : Own = measuring x o.0 in let u : View = c.measure-old.new.seat.me.0 in let w : View = c.put_words.new.seat.me.0 in let n : ℕ = c.words_to_put-many.result in let ws : List ℕ = take n (row_of c.args.text.now) in
    let own : w.own ≡ Some (record m { text = o.0.text ++ ws }) = puts_own m ws u w (ap (λ (y : View). y.own) c.measure-old.ensures.steps ∙ ap (option_map (measuring x)) o.1) c.put_words.ensures.steps in
    let most = c.words_to_put-many.ensures.most in let all = row_length c.args.text.now in let empty : length o.0.text ≡ 0 = ap length o.3 in let long : length ws ≡ n = length-take n (row_of c.args.text.now) ∙ omega arith in
    let many : length (o.0.text ++ ws) ≡ n = length-append o.0.text ws ∙ omega arith in
    let covered : IsCovered (record m { text = o.0.text ++ ws }) = ⊎_elim (λ (le : filled x ≤ n). inl (omega (arith, le, many))) (λ (e : n ≡ 32). inr (many ∙ e)) c.words_to_put-many.ensures.covers in
    (record m { text = o.0.text ++ ws }, own, o.2, covered)

pub returns-clause-steps : goal.returns-clause-steps
returns-clause-steps c = let v : View = c.args.seat.now.me.0 in let x : ℕ = c.measure-old.result in let n : ℕ = c.words_to_put-many.result in let bs : List ℕ = c.args.text.now in let row : List ℕ = row_of bs in let w : View = c.put_words.new.seat.me.0 in
    let puts : Puts (take n row) (after v (Measure x ∷ [])) w = subst (λ (y : View). Puts (take n row) y w) c.measure-old.ensures.steps c.put_words.ensures.steps in
    let fills = c.words_to_put-many.ensures.fills in let most = c.words_to_put-many.ensures.most in let first = row_first bs in
    (x, n, w, puts, c.fill.ensures.steps, padded_take row n (row_length bs) most (λ k late. formed_row bs c.requires.short k (subst (λ (m : ℕ). filled m ≤ k) (sym first) (omega arith))))
