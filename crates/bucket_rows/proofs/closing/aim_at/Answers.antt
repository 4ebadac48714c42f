use Rattle.std.proofs.Common.{◌≡◌, refl, sym, ap, ◌∙◌, subst, arith}
use Rattle.atom_words.specs.Board.{head_at}
use Rattle.atom_words.specs.Kinds.{RowOk, view_after}
use Rattle.atom_words.specs.Seats.{seen}
use Rattle.atom_words.specs.declared.size.Size.{Size}
use Rattle.atom_words.specs.declared.view.View.{View}
use Rattle.atom_words.specs.declared.kind.Kind.TheVariants.{Aim}
use Rattle.atom_words.proofs.Tied.{own_tied, walk_tied, pass_tied}
use Rattle.bucket_rows.proofs.RowGoes.{aiming}
use Rattle.bucket_rows.proofs.RowViews.{rowing_aim}
use Rattle.bucket_rows.proofs.closing.aim_at.Goals as goal

pub row_start-requires : goal.row_start-requires
row_start-requires c = let ok = c.args.words.now.allowed in let row = c.requires.aim in (row.0, omega (arith, row.1, ok))

pub head_place-place-requires : goal.head_place-place-requires
head_place-place-requires c = let row = c.requires.aim in let at = c.row_start.ensures in omega (arith, row.0, row.1, at)

pub load-requires : goal.load-requires
load-requires c = let words = c.args.words.now in let s = c.args.seat.now.seat in let same : words.size ≡ s.me.0.size = sym c.requires.fits.1 in (
  c.requires.fits.0,
  c.head_place-place.ensures.inside,
  aiming words.table.shared.key words.table.shared.table_id.slots s.id s.me (words.keyed ∙ same) c.requires.fits.2 c.head_place-place.result c.args.aim c.requires.idle c.requires.unclosed (subst (λ (z : Size). RowOk z c.args.aim) same c.requires.aim) (c.head_place-place.ensures.place ∙ (λ i. head_at (same i) (c.row_start.ensures i))),
)

pub invariant_of-seat : goal.invariant_of-seat
invariant_of-seat c = let words = c.args.words.now in let s = c.args.seat.now in let same : words.size ≡ s.seat.me.0.size = sym c.requires.fits.1 in let v : View = s.seat.me.0 in let w : View = c.load.new.seat.me.0 in let a : View = view_after v (Aim c.args.aim) in
    let is : w ≡ a = c.load.ensures.2.3 c.args.aim c.requires.aim.0 (c.head_place-place.ensures.place ∙ (λ i. head_at (same i) (c.row_start.ensures i))) in record {
      slotless = c.load.ensures.2.0 ∙ s.slotless;
      numbered = ap (λ (y : View). y.cycle.engine) is ∙ s.numbered;
      acknowledged = ap (λ (y : View). y.cycle.acked) is ∙ s.acknowledged;
      owns = own_tied a w s.own is s.owns;
      walks = walk_tied a w s.head s.word is (refl, refl, s.walks.2);
      passes = pass_tied a w s.began s.first s.counted is s.passes;
    }

pub returns-clause-steps : goal.returns-clause-steps
returns-clause-steps c = let same = sym c.requires.fits.1 in c.load.ensures.2.3 c.args.aim c.requires.aim.0 (c.head_place-place.ensures.place ∙ (λ i. head_at (same i) (c.row_start.ensures i)))

pub returns-clause-rows : goal.returns-clause-rows
returns-clause-rows c = λ row known. let same = sym c.requires.fits.1 in
    rowing_aim row c.args.aim (seen c.args.seat.now) c.load.new.seat.me.0 c.requires.idle c.requires.unclosed c.load.ensures.2.1 c.load.ensures.2.2 known (c.load.ensures.2.3 c.args.aim c.requires.aim.0 (c.head_place-place.ensures.place ∙ (λ i. head_at (same i) (c.row_start.ensures i))))
