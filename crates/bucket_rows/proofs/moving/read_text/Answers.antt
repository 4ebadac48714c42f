use Rattle.std.proofs.Common.{◌≡◌, ℕ, ◌+◌, ◌*◌, ◌<◌, ◌≤◌, ◌++◌, false, List, length, take, refl, sym, ap, ◌∙◌, subst, arith, Some, length-take, length-set, length-append, take_all}
use Rattle.std.proofs.lemmas.List.{take_more_set}
use Rattle.atom_words.specs.Board.{text_at}
use Rattle.atom_words.specs.Kinds.{view_after, after}
use Rattle.atom_words.specs.declared.size.Size.{Size}
use Rattle.atom_words.specs.declared.view.Walk.{Walk}
use Rattle.atom_words.specs.declared.view.View.{View}
use Rattle.atom_words.specs.declared.kind.Kind.TheVariants.{Read}
use Rattle.atom_words.proofs.WalkSteps.{reading_word}
use Rattle.bucket_rows.specs.Walks.{reads}
use Rattle.bucket_rows.proofs.Reading.{reads_keep, reads_more, reads_walk}
use Rattle.bucket_rows.proofs.moving.read_text.Goals as goal

pub load-word-requires : goal.load-word-requires
load-word-requires c = let v : View = c.args.seat.now.me.0 in let u : View = c.loop-i.seat.me.0 in let i : ℕ = c.loop-i.i in let row : List ℕ = c.loop-i.row in let ws : List ℕ = take i row in let w : Walk = c.requires.walk.0 in let low : i < 32 = c.loop-i-test.true in
    let wide : length row ≡ 32 = c.loop-i.invariant.long in let is : u ≡ after v (reads ws) = c.loop-i.invariant.view in
    let size : u.size ≡ v.size = ap (λ (x : View). x.size) is ∙ reads_keep (λ (x : View). x.size) (λ _ _. refl) v ws in
    let gone : u.gone ≡ false = ap (λ (x : View). x.gone) is ∙ (reads_keep (λ (x : View). x.gone) (λ _ _. refl) v ws ∙ c.requires.fits.2) in
    let t : Walk = record w { part = w.part ++ ws } in let walk : u.walk ≡ Some t = ap (λ (x : View). x.walk) is ∙ reads_walk v w ws c.requires.walk.1 in
    let empty : length w.part ≡ 0 = ap length c.requires.walk.3 in let long : length ws ≡ i = length-take i row ∙ omega arith in let many : length (w.part ++ ws) ≡ i = length-append w.part ws ∙ omega arith in
    let same : c.args.words.now.size ≡ u.size = sym c.requires.fits.1 ∙ sym size in
    let place : c.text_place-place.result ≡ text_at u.size c.args.slot (length (w.part ++ ws)) = c.text_place-place.ensures.place ∙ (λ j. text_at (same j) c.args.slot (sym many j)) in (
      c.loop-i.invariant.same.0 ∙ c.requires.fits.0,
      c.text_place-place.ensures.inside,
      reading_word c.args.words.now.table.shared.key c.args.words.now.table.shared.table_id.slots c.loop-i.seat.id c.loop-i.seat.me (c.args.words.now.keyed ∙ same) gone c.text_place-place.result c.args.slot t walk c.requires.walk.2 (omega arith) (subst (λ (z : Size). c.args.slot < z.slots) same c.requires.slot) place,
    )

pub loop-i-preserved : goal.loop-i-preserved
loop-i-preserved c = let v : View = c.args.seat.now.me.0 in let i : ℕ = c.loop-i.i in let row : List ℕ = c.loop-i.row in let x : ℕ = c.load-word.result in let low : i < 32 = c.loop-i-test.true in let inv = c.loop-i.invariant in let wide : length row ≡ 32 = inv.long in record {
  same = (c.load-word.ensures.0 ∙ inv.same.0, c.load-word.ensures.1 ∙ inv.same.1, c.load-word.ensures.2.0 ∙ inv.same.2);
  long = length-set row i x ∙ wide;
  view = c.load-word.ensures.2.1 ∙ ((λ j. view_after (inv.view j) (Read x)) ∙ (sym (reads_more v (take i row) x) ∙ ap (λ (l : List ℕ). after v (reads l)) (sym (take_more_set row i x (omega arith)))));
}

pub returns-clause-steps : goal.returns-clause-steps
returns-clause-steps c = let wide : length c.loop-i.row ≡ 32 = c.loop-i.invariant.long in let over : 32 ≤ c.loop-i.i = c.loop-i-test.false in
    c.loop-i.invariant.view ∙ ap (λ (l : List ℕ). after c.args.seat.now.me.0 (reads l)) (take_all c.loop-i.i c.loop-i.row (omega arith))
