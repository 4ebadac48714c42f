use Rattle.std.proofs.Common.{◌≡◌, ◌-◌, sym, ap, ◌∙◌, arith}
use Rattle.atom_words.specs.declared.size.Size.{Size}
use Rattle.bucket_rows.proofs.SweepSteps.{ending}
use Rattle.bucket_rows.proofs.sweeps.finish.Goals as goal

pub overflow_sub-word : goal.overflow_sub-word
overflow_sub-word c = let q = c.requires.all in let two = q.1.1 in let word = q.4 in omega arith

pub store-requires : goal.store-requires
store-requires c = let words = c.args.words.now in let s = c.args.seat.now.seat in let same : words.size ≡ s.me.0.size = sym c.requires.fits.1 in let q = c.requires.all in let two = q.1.1 in let word = q.4 in (
  c.requires.fits.0,
  omega (arith, words.counted),
  ending words.table.shared.key words.table.shared.table_id.slots s.id s.me (words.keyed ∙ same) c.requires.fits.2 (c.args.word - 2) q.0 q.1 q.2 (q.3 ∙ ap (λ (z : Size). z.slots) same) (omega arith),
)
