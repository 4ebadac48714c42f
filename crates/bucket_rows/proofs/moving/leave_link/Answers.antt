use Rattle.std.proofs.Common.{◌≡◌, ◌<◌, refl, sym, ap, ◌∙◌, subst}
use Rattle.atom_words.specs.Board.{link_at}
use Rattle.atom_words.specs.Kinds.{view_after}
use Rattle.atom_words.specs.declared.size.Size.{Size}
use Rattle.atom_words.specs.declared.view.View.{View}
use Rattle.atom_words.specs.declared.kind.Kind.TheVariants.{LeaveLink}
use Rattle.atom_words.proofs.Tied.{own_tied, walk_tied, pass_tied}
use Rattle.bucket_rows.proofs.RowGoes.{leaving_link}
use Rattle.bucket_rows.proofs.moving.leave_link.Goals as goal

pub store-requires : goal.store-requires
store-requires c = let words = c.args.words.now in let s = c.args.seat.now.seat in let same : words.size ≡ s.me.0.size = sym c.requires.fits.1 in let m = c.requires.moves in (
  c.requires.fits.0,
  c.link_place-place.ensures.inside,
  leaving_link words.table.shared.key words.table.shared.table_id.slots s.id s.me (words.keyed ∙ same) c.requires.fits.2 c.link_place-place.result c.args.before m.0 m.1 m.2 (subst (λ (z : Size). c.args.before < z.slots) same c.requires.slot) (c.link_place-place.ensures.place ∙ ap (λ (z : Size). link_at z c.args.before) same),
)

pub invariant_of-seat : goal.invariant_of-seat
invariant_of-seat c = let words = c.args.words.now in let s = c.args.seat.now in let same : words.size ≡ s.seat.me.0.size = sym c.requires.fits.1 in let v : View = s.seat.me.0 in let w : View = c.store.new.seat.me.0 in let a : View = view_after v (LeaveLink c.args.before) in
    let is : w ≡ a = c.store.ensures.2.1 c.args.before (c.link_place-place.ensures.place ∙ ap (λ (z : Size). link_at z c.args.before) same) in record {
      slotless = c.store.ensures.2.0 ∙ s.slotless;
      numbered = ap (λ (y : View). y.cycle.engine) is ∙ s.numbered;
      acknowledged = ap (λ (y : View). y.cycle.acked) is ∙ s.acknowledged;
      owns = own_tied a w s.own is s.owns;
      walks = walk_tied a w s.head s.word is (refl, refl, s.walks.2);
      passes = pass_tied a w s.began s.first s.counted is s.passes;
    }

pub returns-clause-steps : goal.returns-clause-steps
returns-clause-steps c = let same = sym c.requires.fits.1 in c.store.ensures.2.1 c.args.before (c.link_place-place.ensures.place ∙ ap (λ (z : Size). link_at z c.args.before) same)
