use Rattle.std.proofs.Common.{◌≡◌, ◌<◌, sym, ap, ◌∙◌, subst}
use Rattle.atom_words.specs.Board.{atom_at}
use Rattle.atom_words.specs.declared.size.Size.{Size}
use Rattle.bucket_rows.proofs.SweepSteps.{passing_unmarked}
use Rattle.bucket_rows.proofs.sweeps.pass_unmarked.Goals as goal

pub load-found-requires : goal.load-found-requires
load-found-requires c = let words = c.args.words.now in let s = c.args.seat.now.seat in let same : words.size ≡ s.me.0.size = sym c.requires.fits.1 in let q = c.requires.at in (
  c.requires.fits.0,
  c.atom_place-place.ensures.inside,
  passing_unmarked words.table.shared.key words.table.shared.table_id.slots s.id s.me (words.keyed ∙ same) c.requires.fits.2 c.atom_place-place.result c.args.slot q.0 q.1 q.2 q.3
      (subst (λ (z : Size). c.args.slot < z.slots) same c.requires.slot) (c.atom_place-place.ensures.place ∙ ap (λ (z : Size). atom_at z c.args.slot) same),
)

pub returns-then-found-eq0-clause-steps : goal.returns-then-found-eq0-clause-steps
returns-then-found-eq0-clause-steps c = (c.load-found.result, c.if-found-eq0.true, c.load-found.ensures.2.1 c.if-found-eq0.true)
