use Rattle.std.proofs.Common.{◌≡◌, ◌<◌, ◌+◌, refl, sym, ◌∙◌, subst, arith}
use Rattle.atom_words.specs.declared.size.Size.{Size}
use Rattle.bucket_rows.proofs.CycleSteps.{checking}
use Rattle.bucket_rows.proofs.cycles.check_engine.Goals as goal

pub load-found-requires : goal.load-found-requires
load-found-requires c = let words = c.args.words.now in let s = c.args.seat.now.seat in let same : words.size ≡ s.me.0.size = sym c.requires.fits.1 in let q = c.requires.marking in (
  c.requires.fits.0,
  omega (arith, words.counted, c.requires.engine),
  checking words.table.shared.key words.table.shared.table_id.slots s.id s.me (words.keyed ∙ same) c.requires.fits.2 (2 + c.args.engine) c.args.engine q.0 q.1 q.2 q.4
      (subst (λ (z : Size). c.args.engine < z.engines) same c.requires.engine) refl,
)
