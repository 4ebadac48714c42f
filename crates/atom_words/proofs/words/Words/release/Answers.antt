use Rattle.std.proofs.Common.{◌≡◌, ◌<◌, ℕ, sym, ap, ◌∙◌, subst}
use Rattle.atom_words.specs.Board.{atom_at}
use Rattle.atom_words.specs.Ties.{own_slot}
use Rattle.atom_words.proofs.Steps.{releasing}
use Rattle.atom_words.proofs.words.Words.release.Goals as goal

pub store-requires : goal.store-requires
store-requires c = let same : c.args.self.now.size ≡ c.args.seat.now.seat.me.0.size = sym c.requires.fits.1 in let o = c.requires.unlinked.0 in
    let slot : o.slot ≡ c.args.seat.now.own = ap (own_slot c.args.seat.now.own) (sym c.requires.unlinked.1) ∙ c.args.seat.now.owns.0 in (
      c.requires.fits.0,
      c.atom_place-place.ensures.inside,
      releasing c.args.self.now.table.shared.key c.args.self.now.table.shared.table_id.slots c.args.seat.now.seat.id c.args.seat.now.seat.me (c.args.self.now.keyed ∙ same) c.requires.fits.2 c.atom_place-place.result o
          c.requires.unlinked.1 c.requires.unlinked.2 c.requires.unlinked.3 (subst (λ (i : ℕ). i < c.args.seat.now.seat.me.0.size.slots) (sym slot) c.args.seat.now.owns.1)
          (c.atom_place-place.ensures.place ∙ (λ i. atom_at (same i) (sym slot i))),
    )
