use Rattle.std.proofs.Common.{◌≡◌, ◌<◌, sym, ap, ◌∙◌, subst}
use Rattle.atom_words.specs.Board.{atom_at}
use Rattle.atom_words.specs.declared.size.Size.{Size}
use Rattle.bucket_rows.proofs.SweepSteps.{condemning}
use Rattle.bucket_rows.proofs.sweeps.condemn.Goals as goal

pub compare_exchange-found-requires : goal.compare_exchange-found-requires
compare_exchange-found-requires c = let words = c.args.words.now in let s = c.args.seat.now.seat in let same : words.size ≡ s.me.0.size = sym c.requires.fits.1 in let q = c.requires.at in let w = c.requires.walk in (
  c.requires.fits.0,
  c.atom_place-place.ensures.inside,
  condemning words.table.shared.key words.table.shared.table_id.slots s.id s.me (words.keyed ∙ same) c.requires.fits.2 c.atom_place-place.result c.args.slot q.0 w.0 q.1 w.1 q.2 q.3 c.requires.slot.1 w.2 w.3
      (subst (λ (z : Size). c.args.slot < z.slots) same c.requires.slot.0) (c.atom_place-place.ensures.place ∙ ap (λ (z : Size). atom_at z c.args.slot) same),
)
