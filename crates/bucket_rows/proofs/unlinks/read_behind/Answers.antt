use Rattle.std.proofs.Common.{◌≡◌, ◌<◌, sym, ap, ◌∙◌, subst}
use Rattle.atom_words.specs.Board.{link_at}
use Rattle.atom_words.specs.declared.size.Size.{Size}
use Rattle.bucket_rows.proofs.SweepSteps.{reading_behind}
use Rattle.bucket_rows.proofs.unlinks.read_behind.Goals as goal

pub load-requires : goal.load-requires
load-requires c = let words = c.args.words.now in let s = c.args.seat.now.seat in let same : words.size ≡ s.me.0.size = sym c.requires.fits.1 in let q = c.requires.dying in (
  c.requires.fits.0,
  c.link_place-place.ensures.inside,
  reading_behind words.table.shared.key words.table.shared.table_id.slots s.id s.me (words.keyed ∙ same) c.requires.fits.2 c.link_place-place.result c.args.slot q.0 q.1 q.2
      (subst (λ (z : Size). c.args.slot < z.slots) same c.requires.slot) (c.link_place-place.ensures.place ∙ ap (λ (z : Size). link_at z c.args.slot) same),
)
