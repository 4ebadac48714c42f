use Rattle.std.proofs.Common.{sym, ◌∙◌, arith}
use Rattle.bucket_rows.proofs.CycleSteps.{marking}
use Rattle.bucket_rows.proofs.marks.mark.Goals as goal

pub load-word-requires : goal.load-word-requires
load-word-requires g c = let words = c.args.words.now in let s = c.args.seat.now.seat in let same = sym c.requires.fits.1 in (
  c.requires.fits.0,
  omega (arith, words.counted),
  marking words.table.shared.key words.table.shared.table_id.slots s.id s.me (words.keyed ∙ same) c.requires.fits.2 g.K.Keeps.those c.requires.engine c.requires.ours,
)
