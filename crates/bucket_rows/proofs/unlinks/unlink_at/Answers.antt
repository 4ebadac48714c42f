use Rattle.std.proofs.Common.{◌≡◌, ◌<◌, ℕ, refl, sym, ap, ◌∙◌, subst}
use Rattle.atom_words.specs.Board.{link_at}
use Rattle.atom_words.specs.Kinds.{view_after}
use Rattle.atom_words.specs.declared.size.Size.{Size}
use Rattle.atom_words.specs.declared.view.View.{View}
use Rattle.atom_words.specs.declared.kind.Kind.TheVariants.{UnlinkAt}
use Rattle.atom_words.proofs.Tied.{own_tied, walk_tied, pass_tied}
use Rattle.bucket_rows.proofs.SweepSteps.{unlinking_at}
use Rattle.bucket_rows.proofs.unlinks.unlink_at.Goals as goal

pub store-requires : goal.store-requires
store-requires c = let words = c.args.words.now in let s = c.args.seat.now.seat in let same : words.size ≡ s.me.0.size = sym c.requires.fits.1 in let q = c.requires.dying in let p = q.6 in (
  c.requires.fits.0,
  c.link_place-place.ensures.inside,
  unlinking_at words.table.shared.key words.table.shared.table_id.slots s.id s.me (words.keyed ∙ same) c.requires.fits.2 c.link_place-place.result c.args.link q.0 q.1 p.0 p.1 q.2 q.4 q.5 q.3 p.2
      (subst (λ (k : ℕ). k < s.me.0.size.slots) (sym p.3) (subst (λ (z : Size). c.args.before < z.slots) same c.requires.slot)) (c.link_place-place.ensures.place ∙ (λ i. link_at (same i) (sym p.3 i))),
)

pub invariant_of-seat : goal.invariant_of-seat
invariant_of-seat c = let words = c.args.words.now in let s = c.args.seat.now in let same : words.size ≡ s.seat.me.0.size = sym c.requires.fits.1 in let v : View = s.seat.me.0 in let w : View = c.store.new.seat.me.0 in let a : View = view_after v (UnlinkAt c.args.before) in
    let is : w ≡ a = c.store.ensures.2.1 c.args.before (c.link_place-place.ensures.place ∙ ap (λ (z : Size). link_at z c.args.before) same) in record {
      slotless = c.store.ensures.2.0 ∙ s.slotless;
      numbered = ap (λ (y : View). y.cycle.engine) is ∙ s.numbered;
      acknowledged = ap (λ (y : View). y.cycle.acked) is ∙ s.acknowledged;
      owns = own_tied a w s.own is s.owns;
      walks = walk_tied a w s.head s.word is (refl, refl, s.walks.2);
      passes = pass_tied a w s.began s.first s.counted is s.passes;
    }
