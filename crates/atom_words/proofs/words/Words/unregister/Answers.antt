use Rattle.std.proofs.Common.{◌≡◌, ◌<◌, sym, ap, ◌∙◌, subst}
use Rattle.atom_words.specs.Board.{atom_at}
use Rattle.atom_words.specs.Kinds.{view_after}
use Rattle.atom_words.specs.declared.size.Size.{Size}
use Rattle.atom_words.specs.declared.view.View.{View}
use Rattle.atom_words.specs.declared.kind.Kind.TheVariants.{Unregister}
use Rattle.atom_words.proofs.Tied.{own_tied, walk_tied, pass_tied}
use Rattle.atom_words.proofs.Steps.{unregistering}
use Rattle.atom_words.proofs.words.Words.unregister.Goals as goal

pub fetch_sub-requires : goal.fetch_sub-requires
fetch_sub-requires c = let same : c.args.self.now.size ≡ c.args.seat.now.seat.me.0.size = sym c.requires.fits.1 in (
  c.requires.fits.0,
  c.atom_place-place.ensures.inside,
  unregistering c.args.self.now.table.shared.key c.args.self.now.table.shared.table_id.slots c.args.seat.now.seat.id c.args.seat.now.seat.me (c.args.self.now.keyed ∙ same) c.requires.fits.2 c.atom_place-place.result c.args.slot c.requires.counted.0
      (c.atom_place-place.ensures.place ∙ ap (λ (y : Size). atom_at y c.args.slot) same) (subst (λ (y : Size). c.args.slot < y.slots) same c.requires.slot) c.requires.counted.1 c.requires.counted.2,
)

pub invariant_of-seat : goal.invariant_of-seat
invariant_of-seat c = let same : c.args.self.now.size ≡ c.args.seat.now.seat.me.0.size = sym c.requires.fits.1 in let v : View = c.args.seat.now.seat.me.0 in let w : View = c.fetch_sub.new.seat.me.0 in
    let is : w ≡ view_after v (Unregister c.args.slot) = c.fetch_sub.ensures.2.1 c.args.slot (c.atom_place-place.ensures.place ∙ ap (λ (y : Size). atom_at y c.args.slot) same) in let s = c.args.seat.now in record {
      slotless = c.fetch_sub.ensures.2.0 ∙ s.slotless;
      numbered = ap (λ (y : View). y.cycle.engine) is ∙ s.numbered;
      acknowledged = ap (λ (y : View). y.cycle.acked) is ∙ s.acknowledged;
      owns = own_tied (view_after v (Unregister c.args.slot)) w s.own is s.owns;
      walks = walk_tied (view_after v (Unregister c.args.slot)) w s.head s.word is s.walks;
      passes = pass_tied (view_after v (Unregister c.args.slot)) w s.began s.first s.counted is s.passes;
    }
