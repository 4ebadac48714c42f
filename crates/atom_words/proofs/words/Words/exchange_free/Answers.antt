use Rattle.std.proofs.Common.{◌≡◌, ◌<◌, sym, ap, ◌∙◌, subst}
use Rattle.atom_words.specs.Board.{atom_at}
use Rattle.atom_words.specs.declared.size.Size.{Size}
use Rattle.atom_words.proofs.Steps.{reserving}
use Rattle.atom_words.proofs.words.Words.exchange_free.Goals as goal

pub compare_exchange-requires : goal.compare_exchange-requires
compare_exchange-requires c = let same : c.args.self.now.size ≡ c.args.seat.now.me.0.size = sym c.requires.fits.1 in (
  c.requires.fits.0,
  c.atom_place-place.ensures.inside,
  reserving c.args.self.now.table.shared.key c.args.self.now.table.shared.table_id.slots c.args.seat.now.id c.args.seat.now.me (c.args.self.now.keyed ∙ same) c.requires.fits.2 c.atom_place-place.result c.args.slot c.args.free
      (c.atom_place-place.ensures.place ∙ ap (λ (y : Size). atom_at y c.args.slot) same) (subst (λ (y : Size). c.args.slot < y.slots) same c.requires.slot) c.requires.none c.requires.free c.requires.loaded.0 c.requires.loaded.1,
)
