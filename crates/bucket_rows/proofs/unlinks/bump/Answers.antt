use Rattle.std.proofs.Common.{◌≡◌, ◌<◌, sym, ap, ◌∙◌, subst, arith, ◌+◌}
use Rattle.atom_words.specs.Board.{head_at}
use Rattle.atom_words.specs.declared.size.Size.{Size}
use Rattle.bucket_rows.proofs.SweepSteps.{bumping}
use Rattle.bucket_rows.proofs.unlinks.bump.Goals as goal

pub compare_exchange-found-requires : goal.compare_exchange-found-requires
compare_exchange-found-requires c = let words = c.args.words.now in let s = c.args.seat.now.seat in let same : words.size ≡ s.me.0.size = sym c.requires.fits.1 in let q = c.requires.unlinked in (
  c.requires.fits.0,
  c.head_place-place.ensures.inside,
  bumping words.table.shared.key words.table.shared.table_id.slots s.id s.me (words.keyed ∙ same) c.requires.fits.2 c.head_place-place.result c.args.head c.args.noted (c.args.noted + 4194304) q.0 q.1 q.2 q.3 q.4
      (subst (λ (z : Size). c.args.head < z.heads) same c.requires.head) (c.head_place-place.ensures.place ∙ ap (λ (z : Size). head_at z c.args.head) same) (omega arith),
)
