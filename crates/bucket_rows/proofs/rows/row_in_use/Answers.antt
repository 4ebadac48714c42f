use Rattle.std.proofs.Common.{◌≡◌, sym, ◌∙◌, subst, arith}
use Rattle.atom_words.specs.Kinds.{RowOk}
use Rattle.atom_words.specs.declared.size.Size.{Size}
use Rattle.bucket_rows.proofs.CycleSteps.{reading_row}
use Rattle.bucket_rows.proofs.rows.row_in_use.Goals as goal

pub load-requires : goal.load-requires
load-requires c = let words = c.args.words.now in let s = c.args.seat.now.seat in let same : words.size ≡ s.me.0.size = sym c.requires.fits.1 in
    (c.requires.fits.0, omega (arith, words.counted), reading_row words.table.shared.key words.table.shared.table_id.slots s.id s.me (words.keyed ∙ same) c.requires.fits.2)

pub returns-clause-row : goal.returns-clause-row
returns-clause-row c = subst (λ (z : Size). RowOk z c.load.result) c.requires.fits.1 c.load.ensures.2.1
