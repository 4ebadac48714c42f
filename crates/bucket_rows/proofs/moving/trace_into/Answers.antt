use Rattle.std.proofs.Common.{◌≡◌, ◌<◌, refl, sym, ap, ◌∙◌, subst}
use Rattle.atom_words.specs.Board.{head_at}
use Rattle.atom_words.specs.Kinds.{view_after}
use Rattle.atom_words.specs.declared.size.Size.{Size}
use Rattle.atom_words.specs.declared.view.View.{View}
use Rattle.atom_words.specs.declared.kind.Kind.TheVariants.{Start}
use Rattle.atom_words.proofs.Tied.{own_tied, walk_tied, pass_tied}
use Rattle.bucket_rows.proofs.RowGoes.{tracing_into}
use Rattle.bucket_rows.proofs.moving.trace_into.Goals as goal

pub load-word-requires : goal.load-word-requires
load-word-requires c = let words = c.args.words.now in let s = c.args.seat.now.seat in let same : words.size ≡ s.me.0.size = sym c.requires.fits.1 in (
  c.requires.fits.0,
  c.head_place-place.ensures.inside,
  tracing_into words.table.shared.key words.table.shared.table_id.slots s.id s.me (words.keyed ∙ same) c.requires.fits.2 c.head_place-place.result c.args.head c.requires.moves.0 c.requires.moves.1 (subst (λ (z : Size). c.args.head < z.heads) same c.requires.head) (c.head_place-place.ensures.place ∙ ap (λ (z : Size). head_at z c.args.head) same),
)

pub invariant_of-seat : goal.invariant_of-seat
invariant_of-seat c = let words = c.args.words.now in let s = c.args.seat.now in let same : words.size ≡ s.seat.me.0.size = sym c.requires.fits.1 in let v : View = s.seat.me.0 in let w : View = c.load-word.new.seat.me.0 in let a : View = view_after v (Start c.args.head c.load-word.result) in
    let is : w ≡ a = c.load-word.ensures.2.2 c.args.head (c.head_place-place.ensures.place ∙ ap (λ (z : Size). head_at z c.args.head) same) in record {
      slotless = c.load-word.ensures.2.0 ∙ s.slotless;
      numbered = ap (λ (y : View). y.cycle.engine) is ∙ s.numbered;
      acknowledged = ap (λ (y : View). y.cycle.acked) is ∙ s.acknowledged;
      owns = own_tied a w s.own is s.owns;
      walks = walk_tied a w c.args.head c.load-word.result is (refl, refl, subst (λ (z : Size). c.args.head < z.heads) same c.requires.head);
      passes = pass_tied a w s.began s.first s.counted is s.passes;
    }
