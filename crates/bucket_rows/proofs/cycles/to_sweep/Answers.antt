use Rattle.std.proofs.Common.{◌≡◌, ◌+◌, sym, ap, ◌∙◌, arith}
use Rattle.atom_words.specs.declared.size.Size.{Size}
use Rattle.bucket_rows.proofs.CycleSteps.{turning}
use Rattle.bucket_rows.proofs.cycles.to_sweep.Goals as goal

pub store-requires : goal.store-requires
store-requires c = let words = c.args.words.now in let s = c.args.seat.now.seat in let same : words.size ≡ s.me.0.size = sym c.requires.fits.1 in let q = c.requires.marked in
    let phase = q.2 in let word = q.3 in (
      c.requires.fits.0,
      omega (arith, words.counted),
      turning words.table.shared.key words.table.shared.table_id.slots s.id s.me (words.keyed ∙ same) c.requires.fits.2 (c.args.word + 1) q.0 q.1 q.2 (q.4 ∙ ap (λ (z : Size). z.engines) same) (omega (arith, phase, word)),
    )
