use Rattle.std.proofs.Common.{◌≡◌, sym, ◌∙◌, arith}
use Rattle.counted_terms.proofs.Showing.{agreeing}
use Rattle.counted_terms.proofs.agreement.show.Goals as goal

pub load-requires : goal.load-requires
load-requires c = let same : c.args.words.now.size ≡ c.args.seat.now.seat.me.0.size = sym c.requires.fits.1 in (
  c.requires.fits.0,
  omega (arith, c.args.words.now.counted),
  agreeing c.args.words.now.table.shared.key c.args.words.now.table.shared.table_id.slots c.args.seat.now.seat.id c.args.seat.now.seat.me (c.args.words.now.keyed ∙ same) c.requires.fits.2,
)
