use Rattle.std.proofs.Common.{◌≡◌, ◌^◌, ℕ, sym, ap, ◌∙◌, arith}
use Rattle.atom_words.specs.Seats.{seen}
use Rattle.bucket_rows.proofs.RowGoes.{publishing_row}
use Rattle.bucket_rows.proofs.RowViews.{moves_of, rowing_publish}
use Rattle.bucket_rows.proofs.opening.publish_row.Goals as goal

pub store-requires : goal.store-requires
store-requires c = let words = c.args.words.now in let s = c.args.seat.now.seat in let same : words.size ≡ s.me.0.size = sym c.requires.fits.1 in let r = c.requires.rows.0 in (
  c.requires.fits.0,
  omega (arith, words.counted),
  publishing_row words.table.shared.key words.table.shared.table_id.slots s.id s.me (words.keyed ∙ same) c.requires.fits.2 c.args.aim (moves_of c.args.row c.args.aim (2 ^ c.args.aim) (2 ^ c.args.row) s.me.0 c.requires.rows.1 r) r.still (r.moved_is ∙ ap (λ (n : ℕ). 2 ^ n) (sym r.row_is)) (sym r.aim_is) (r.sound_is ∙ ap (λ (n : ℕ). 2 ^ n) (sym r.aim_is)),
)

pub returns-clause-rows : goal.returns-clause-rows
returns-clause-rows c = rowing_publish c.args.row c.args.aim (2 ^ c.args.row) (2 ^ c.args.aim) (2 ^ c.args.row) (seen c.args.seat.now) c.store.new.seat.me.0 c.store.ensures.2.1 c.requires.rows.0
