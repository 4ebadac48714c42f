use Rattle.std.proofs.Common.{◌≡◌, ◌+◌, ◌<◌, refl, sym, ap, ◌∙◌, subst, arith}
use Rattle.atom_words.specs.Layout.{row_first}
use Rattle.atom_words.specs.Board.{head_at}
use Rattle.atom_words.specs.Kinds.{view_after}
use Rattle.atom_words.specs.declared.size.Size.{Size}
use Rattle.atom_words.specs.declared.view.View.{View}
use Rattle.atom_words.specs.declared.kind.Kind.TheVariants.{Start}
use Rattle.atom_words.proofs.Tied.{own_tied, walk_tied, pass_tied}
use Rattle.bucket_rows.proofs.RowGoes.{tracing_next}
use Rattle.bucket_rows.proofs.closing.trace_next.Goals as goal

pub row_start-requires : goal.row_start-requires
row_start-requires c = let ok = c.args.words.now.allowed in let row = c.requires.row in (row.0.0, omega (arith, row.0.1, ok))

pub head_place-place-requires : goal.head_place-place-requires
head_place-place-requires c = let row = c.requires.row in let at = c.row_start.ensures in omega (arith, row.0.0, row.0.1, row.1, at)

pub overflow_add-head : goal.overflow_add-head
overflow_add-head c = let row = c.requires.row in let at = c.row_start.ensures in let ok = c.args.words.now.allowed in omega (arith, row.0.0, row.0.1, row.1, at, ok)

pub load-word-requires : goal.load-word-requires
load-word-requires c = let words = c.args.words.now in let s = c.args.seat.now.seat in let same : words.size ≡ s.me.0.size = sym c.requires.fits.1 in let r = c.requires.rows.3 in let row = c.requires.row in let inside : row_first c.args.row + c.args.shut < words.size.heads = omega (arith, row.0.0, row.0.1, row.1) in (
  c.requires.fits.0,
  c.head_place-place.ensures.inside,
  tracing_next words.table.shared.key words.table.shared.table_id.slots s.id s.me (words.keyed ∙ same) c.requires.fits.2 c.head_place-place.result c.args.row c.args.shut r.idle r.row_is r.shut_is c.requires.row.1 (subst (λ (z : Size). row_first c.args.row + c.args.shut < z.heads) same inside) (c.head_place-place.ensures.place ∙ (λ i. head_at (same i) (c.row_start.ensures i + c.args.shut))),
)

pub invariant_of-seat : goal.invariant_of-seat
invariant_of-seat c = let words = c.args.words.now in let s = c.args.seat.now in let same : words.size ≡ s.seat.me.0.size = sym c.requires.fits.1 in let v : View = s.seat.me.0 in let w : View = c.load-word.new.seat.me.0 in let a : View = view_after v (Start (row_first c.args.row + c.args.shut) c.load-word.result) in
    let is : w ≡ a = c.load-word.ensures.2.2 (row_first c.args.row + c.args.shut) (c.head_place-place.ensures.place ∙ (λ i. head_at (same i) (c.row_start.ensures i + c.args.shut))) in record {
      slotless = c.load-word.ensures.2.0 ∙ s.slotless;
      numbered = ap (λ (y : View). y.cycle.engine) is ∙ s.numbered;
      acknowledged = ap (λ (y : View). y.cycle.acked) is ∙ s.acknowledged;
      owns = own_tied a w s.own is s.owns;
      walks = walk_tied a w (c.row_start.result + c.args.shut) c.load-word.result is ((λ i. sym (c.row_start.ensures) i + c.args.shut), refl, (let row = c.requires.row in let at = c.row_start.ensures in let low : c.row_start.result + c.args.shut < words.size.heads = omega (arith, row.0.0, row.0.1, row.1, at) in subst (λ (z : Size). c.row_start.result + c.args.shut < z.heads) same low));
      passes = pass_tied a w s.began s.first s.counted is s.passes;
    }

pub returns-clause-steps : goal.returns-clause-steps
returns-clause-steps c = let same = sym c.requires.fits.1 in c.load-word.ensures.2.2 (row_first c.args.row + c.args.shut) (c.head_place-place.ensures.place ∙ (λ i. head_at (same i) (c.row_start.ensures i + c.args.shut)))
