use Rattle.std.proofs.Common.{◌≡◌, ◌<◌, ℕ, ◌+◌, ◌*◌, ◌++◌, [], ◌∷◌, false, List, length, get_or, take, refl, sym, ap, ◌∙◌, subst, arith, Some, length-append, length-take, take_all}
use Rattle.std.proofs.lemmas.List.{take_more}
use Rattle.atom_words.specs.Texts.{filled}
use Rattle.atom_words.specs.Board.{text_at}
use Rattle.atom_words.specs.Kinds.{view_after, after}
use Rattle.atom_words.specs.declared.size.Size.{Size}
use Rattle.atom_words.specs.declared.view.Walk.{Walk}
use Rattle.atom_words.specs.declared.view.View.{View}
use Rattle.atom_words.specs.declared.kind.Kind.TheVariants.{Read}
use Rattle.atom_words.proofs.Slices.{last_same}
use Rattle.atom_words.proofs.WalkSteps.{reading_word}
use Rattle.bucket_rows.specs.Walks.{reads}
use Rattle.bucket_rows.proofs.Reading.{reads_more, reads_keep, reads_walk}
use Rattle.bucket_rows.proofs.walks.differs.Goals as goal

pub load-word-requires : goal.load-word-requires
load-word-requires c = let v : View = c.args.seat.now.me.0 in let u : View = c.loop-i.seat.me.0 in let i : ℕ = c.loop-i.i in let ws : List ℕ = take i c.args.row.now in let w : Walk = c.requires.walk.0 in let bytes = c.requires.bytes in let below : i < 32 = omega (arith, c.loop-i-test.true) in
    let is : u ≡ after v (reads ws) = c.loop-i.invariant.view in
    let size : u.size ≡ v.size = ap (λ (y : View). y.size) is ∙ reads_keep (λ (y : View). y.size) (λ _ _. refl) v ws in
    let gone : u.gone ≡ false = ap (λ (y : View). y.gone) is ∙ (reads_keep (λ (y : View). y.gone) (λ _ _. refl) v ws ∙ c.requires.fits.2) in
    let t : Walk = record w { part = w.part ++ ws } in
    let walk : u.walk ≡ Some t = ap (λ (y : View). y.walk) is ∙ reads_walk v w ws c.requires.walk.1 in
    let empty : length w.part ≡ 0 = ap length c.requires.walk.3 in let all : length c.args.row.now ≡ 32 = c.told-row in
    let long : length ws ≡ i = length-take i c.args.row.now ∙ omega arith in
    let many : length (w.part ++ ws) ≡ i = length-append w.part ws ∙ omega arith in
    let same : c.args.words.now.size ≡ u.size = sym c.requires.fits.1 ∙ sym size in
    let place : c.text_place-place.result ≡ text_at u.size c.args.slot (length (w.part ++ ws)) = c.text_place-place.ensures.place ∙ (λ j. text_at (same j) c.args.slot (sym many j)) in (
      c.loop-i.invariant.same.0 ∙ c.requires.fits.0,
      c.text_place-place.ensures.inside,
      reading_word c.args.words.now.table.shared.key c.args.words.now.table.shared.table_id.slots c.loop-i.seat.id c.loop-i.seat.me (c.args.words.now.keyed ∙ same) gone c.text_place-place.result c.args.slot t walk c.requires.walk.2 (omega arith) (subst (λ (y : Size). c.args.slot < y.slots) same c.requires.slot) place,
    )

pub loop-i-preserved : goal.loop-i-preserved
loop-i-preserved c = let v : View = c.args.seat.now.me.0 in let row : List ℕ = c.args.row.now in let all : length c.args.row.now ≡ 32 = c.told-row in let bytes = c.requires.bytes in let below : c.loop-i.i < 32 = omega (arith, c.loop-i-test.true) in record {
  same = (c.load-word.ensures.0 ∙ c.loop-i.invariant.same.0, c.load-word.ensures.1 ∙ c.loop-i.invariant.same.1, c.load-word.ensures.2.0 ∙ c.loop-i.invariant.same.2);
  view = let is : c.load-word.new.seat.me.0 ≡ view_after c.loop-i.seat.me.0 (Read c.load-word.result) = c.load-word.ensures.2.1 in
      is ∙ ((λ i. view_after (c.loop-i.invariant.view i) (Read (c.if-word-row.false i)))
      ∙ (sym (reads_more v (take c.loop-i.i row) (get_or row c.loop-i.i 0)) ∙ ap (λ l. after v (reads l)) (sym (take_more row c.loop-i.i 0 (omega arith)))));
}

pub returns-then-word-row-clause-other : goal.returns-then-word-row-clause-other
returns-then-word-row-clause-other c = λ _. let v : View = c.args.seat.now.me.0 in let row : List ℕ = c.args.row.now in let i : ℕ = c.loop-i.i in let x : ℕ = c.load-word.result in let all : length c.args.row.now ≡ 32 = c.told-row in let bytes = c.requires.bytes in let below : i < 32 = omega (arith, c.loop-i-test.true) in
    let ws : List ℕ = take i row ++ x ∷ [] in let long : length (take i row) ≡ i = length-take i row ∙ omega arith in let longer : length ws ≡ i + 1 = length-append (take i row) (x ∷ []) ∙ ap (λ (n : ℕ). n + 1) long in (
      ws,
      (λ e. c.if-word-row.true (last_same (take i row) (take i row) x (get_or row i 0) (e ∙ (ap (λ (n : ℕ). take n row) longer ∙ take_more row i 0 (omega arith))))),
      c.load-word.ensures.2.1 ∙ (ap (λ (y : View). view_after y (Read x)) c.loop-i.invariant.view ∙ sym (reads_more v (take i row) x)),
    )

pub returns-clause-whole : goal.returns-clause-whole
returns-clause-whole c = λ _. let all : length c.args.row.now ≡ 32 = c.told-row in let end : c.loop-i.i ≡ filled (get_or c.args.row.now 0 0) = (let a = c.loop-i-test.false in let b = c.loop-i.auto.i-end in omega arith) in c.loop-i.invariant.view ∙ ap (λ (n : ℕ). after c.args.seat.now.me.0 (reads (take n c.args.row.now))) end
