use Rattle.std.proofs.Common.{◌≡◌, ◌<◌, ℕ, sym, ap, ◌∙◌, subst}
use Rattle.atom_words.specs.Board.{atom_at}
use Rattle.atom_words.specs.Kinds.{counted, view_after}
use Rattle.atom_words.specs.declared.size.Size.{Size}
use Rattle.atom_words.specs.declared.view.View.{View}
use Rattle.atom_words.specs.declared.kind.Kind.TheVariants.{Register}
use Rattle.atom_words.proofs.Tied.{own_tied, walk_tied, pass_tied}
use Rattle.atom_words.proofs.Steps.{registering}
use Rattle.atom_words.proofs.words.Words.register.Goals as goal

pub fetch_add-requires : goal.fetch_add-requires
fetch_add-requires c = let same : c.args.self.now.size ≡ c.args.seat.now.seat.me.0.size = sym c.requires.fits.1 in let a = c.requires.held.0 in let slot : c.args.slot ≡ a.slot = sym c.requires.held.2 in (
  c.requires.fits.0,
  c.atom_place-place.ensures.inside,
  registering c.args.self.now.table.shared.key c.args.self.now.table.shared.table_id.slots c.args.seat.now.seat.id c.args.seat.now.seat.me (c.args.self.now.keyed ∙ same) c.requires.fits.2 c.atom_place-place.result c.requires.room.0 a
      (c.atom_place-place.ensures.place ∙ (λ i. atom_at (same i) (slot i))) (subst (λ (y : ℕ). y < c.args.seat.now.seat.me.0.size.slots) slot (subst (λ (y : Size). c.args.slot < y.slots) same c.requires.slot))
      c.requires.room.1 c.requires.held.1 (subst (λ (y : ℕ). (counted c.requires.room.0 y).count < 2305843009213693951) slot c.requires.room.2),
)

pub invariant_of-seat : goal.invariant_of-seat
invariant_of-seat c = let same : c.args.self.now.size ≡ c.args.seat.now.seat.me.0.size = sym c.requires.fits.1 in let v : View = c.args.seat.now.seat.me.0 in let w : View = c.fetch_add.new.seat.me.0 in
    let a = c.requires.held.0 in let slot : c.args.slot ≡ a.slot = sym c.requires.held.2 in
    let is : w ≡ view_after v (Register a) = c.fetch_add.ensures.2.1 a c.requires.held.1 (c.atom_place-place.ensures.place ∙ (λ i. atom_at (same i) (slot i))) in let s = c.args.seat.now in record {
      slotless = c.fetch_add.ensures.2.0 ∙ s.slotless;
      numbered = ap (λ (y : View). y.cycle.engine) is ∙ s.numbered;
      acknowledged = ap (λ (y : View). y.cycle.acked) is ∙ s.acknowledged;
      owns = own_tied (view_after v (Register a)) w s.own is s.owns;
      walks = walk_tied (view_after v (Register a)) w s.head s.word is s.walks;
      passes = pass_tied (view_after v (Register a)) w s.began s.first s.counted is s.passes;
    }
