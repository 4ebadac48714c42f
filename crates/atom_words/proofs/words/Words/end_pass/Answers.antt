use Rattle.std.proofs.Common.{◌≡◌, sym, ◌∙◌, arith}
use Rattle.atom_words.proofs.Steps.{ending_pass}
use Rattle.atom_words.proofs.words.Words.end_pass.Goals as goal

pub load-ended-requires : goal.load-ended-requires
load-ended-requires c = let same : c.args.self.now.size ≡ c.args.seat.now.seat.me.0.size = sym c.requires.fits.1 in (
  c.requires.fits.0,
  omega (arith, c.args.self.now.counted),
  ending_pass c.args.self.now.table.shared.key c.args.self.now.table.shared.table_id.slots c.args.seat.now.seat.id c.args.seat.now.seat.me (c.args.self.now.keyed ∙ same) c.requires.fits.2 c.requires.at_hand.0 c.requires.at_hand.1,
)
