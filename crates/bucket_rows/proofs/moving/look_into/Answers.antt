use Rattle.std.proofs.Common.{◌≡◌, ◌+◌, ◌^◌, ◌<◌, ℕ, refl, sym, ap, ◌∙◌, subst, arith}
use Rattle.atom_words.specs.Layout.{row_first}
use Rattle.atom_words.specs.Board.{head_at}
use Rattle.atom_words.specs.Kinds.{view_after}
use Rattle.atom_words.specs.declared.size.Size.{Size}
use Rattle.atom_words.specs.declared.view.View.{View}
use Rattle.atom_words.specs.declared.kind.Kind.TheVariants.{Start, Emptied}
use Rattle.atom_words.proofs.Tied.{own_tied, walk_tied, pass_tied}
use Rattle.bucket_rows.proofs.RowGoes.{looking_into}
use Rattle.bucket_rows.proofs.RowViews.{moves_of, old_of}
use Rattle.bucket_rows.proofs.moving.look_into.Goals as goal

pub row_start-requires : goal.row_start-requires
row_start-requires c = let ok = c.args.words.now.allowed in let row = c.requires.row in (row.0.0, omega (arith, row.0.1, ok))

pub head_place-place-requires : goal.head_place-place-requires
head_place-place-requires c = let row = c.requires.row in let at = c.row_start.ensures in omega (arith, row.0.0, row.0.1, row.1, at)

pub overflow_add-head : goal.overflow_add-head
overflow_add-head c = let row = c.requires.row in let at = c.row_start.ensures in let ok = c.args.words.now.allowed in omega (arith, row.0.0, row.0.1, row.1, at, ok)

pub load-word-requires : goal.load-word-requires
load-word-requires c = let words = c.args.words.now in let s = c.args.seat.now.seat in let same : words.size ≡ s.me.0.size = sym c.requires.fits.1 in let q = c.requires.rows in let r = q.2 in let row = c.requires.row in let inside : row_first c.args.row + c.args.moved < words.size.heads = omega (arith, row.0.0, row.0.1, row.1) in (
  c.requires.fits.0,
  c.head_place-place.ensures.inside,
  looking_into words.table.shared.key words.table.shared.table_id.slots s.id s.me (words.keyed ∙ same) c.requires.fits.2 c.head_place-place.result c.args.row c.args.moved (moves_of c.args.row q.0 q.1 c.args.moved s.me.0 q.3 r) r.still r.row_is r.moved_is c.requires.row.1 (subst (λ (z : Size). row_first c.args.row + c.args.moved < z.heads) same inside) (c.head_place-place.ensures.place ∙ (λ i. head_at (same i) (c.row_start.ensures i + c.args.moved))),
)

pub invariant_of-seat : goal.invariant_of-seat
invariant_of-seat c = let s = c.args.seat.now in let v : View = s.seat.me.0 in let w : View = c.load-word.new.seat.me.0 in let a : View = view_after v Emptied in let is : w ≡ a = c.load-word.ensures.2.1 c.if-word-eq0.true in record {
  slotless = c.load-word.ensures.2.0 ∙ s.slotless;
  numbered = ap (λ (y : View). y.cycle.engine) is ∙ s.numbered;
  acknowledged = ap (λ (y : View). y.cycle.acked) is ∙ s.acknowledged;
  owns = own_tied a w s.own is s.owns;
  walks = walk_tied a w s.head s.word is (refl, refl, s.walks.2);
  passes = pass_tied a w s.began s.first s.counted is s.passes;
}

pub invariant_of-seat-2 : goal.invariant_of-seat-2
invariant_of-seat-2 c = let words = c.args.words.now in let s = c.args.seat.now in let same : words.size ≡ s.seat.me.0.size = sym c.requires.fits.1 in let v : View = s.seat.me.0 in let w : View = c.load-word.new.seat.me.0 in let r = c.requires.rows.2 in
    let a : View = view_after v (Start (row_first c.args.row + c.args.moved) c.load-word.result) in let old = old_of c.args.row c.requires.rows.0 (2 ^ c.args.row) c.requires.rows.1 c.args.moved v r in
    let is : w ≡ a = (c.load-word.ensures.2.2 c.if-word-eq0.false).0 ∙ ap (λ (h : ℕ). view_after v (Start h c.load-word.result)) old in let row = c.requires.row in let at = c.row_start.ensures in
    let low : c.row_start.result + c.args.moved < words.size.heads = omega (arith, row.0.0, row.0.1, row.1, at) in record {
      slotless = c.load-word.ensures.2.0 ∙ s.slotless;
      numbered = ap (λ (y : View). y.cycle.engine) is ∙ s.numbered;
      acknowledged = ap (λ (y : View). y.cycle.acked) is ∙ s.acknowledged;
      owns = own_tied a w s.own is s.owns;
      walks = walk_tied a w (c.row_start.result + c.args.moved) c.load-word.result is ((λ i. sym c.row_start.ensures i + c.args.moved), refl, subst (λ (z : Size). c.row_start.result + c.args.moved < z.heads) same low);
      passes = pass_tied a w s.began s.first s.counted is s.passes;
    }

pub returns-then-word-eq0-clause-steps : goal.returns-then-word-eq0-clause-steps
returns-then-word-eq0-clause-steps c = c.load-word.ensures.2.1 c.if-word-eq0.true

pub returns-clause-steps : goal.returns-clause-steps
returns-clause-steps c = let v : View = c.args.seat.now.seat.me.0 in let q = c.requires.rows in let e = c.load-word.ensures.2.2 c.if-word-eq0.false in
    (c.if-word-eq0.false, e.0 ∙ ap (λ (h : ℕ). view_after v (Start h c.load-word.result)) (old_of c.args.row q.0 (2 ^ c.args.row) q.1 c.args.moved v q.2), e.1)
