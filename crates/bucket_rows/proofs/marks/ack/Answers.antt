use Rattle.std.proofs.Common.{◌≡◌, ◌<◌, ◌+◌, ◌-◌, sym, ◌∙◌, subst, arith}
use Rattle.atom_words.specs.declared.size.Size.{Size}
use Rattle.bucket_rows.proofs.CycleSteps.{acking}
use Rattle.bucket_rows.proofs.marks.ack.Goals as goal

pub store-requires : goal.store-requires
store-requires c = let words = c.args.words.now in let s = c.args.seat.now in let same : words.size ≡ s.seat.me.0.size = sym c.requires.fits.1 in let number = s.numbered in let some_ = c.requires.scanning.0 in
    let inside : s.seat.me.0.cycle.engine - 1 < words.size.engines = omega (arith, c.requires.engine, some_) in (
      c.requires.fits.0,
      omega (arith, words.counted, c.requires.engine, number),
      acking words.table.shared.key words.table.shared.table_id.slots s.seat.id s.seat.me (words.keyed ∙ same) c.requires.fits.2 (1 + s.engine) c.args.epoch c.requires.scanning c.requires.all
          (subst (λ (z : Size). s.seat.me.0.cycle.engine - 1 < z.engines) same inside) (omega (arith, number, some_)) (sym c.requires.epoch),
    )
