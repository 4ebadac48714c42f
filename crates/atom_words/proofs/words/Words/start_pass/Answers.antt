use Rattle.std.proofs.Common.{◌≡◌, sym, ◌∙◌, arith}
use Rattle.atom_words.proofs.Steps.{starting_pass}
use Rattle.atom_words.proofs.words.Words.start_pass.Goals as goal

pub load-seat-requires : goal.load-seat-requires
load-seat-requires c = let same : c.args.self.now.size ≡ c.args.seat.now.seat.me.0.size = sym c.requires.fits.1 in (
  c.requires.fits.0,
  omega (arith, c.args.self.now.counted),
  starting_pass c.args.self.now.table.shared.key c.args.self.now.table.shared.table_id.slots c.args.seat.now.seat.id c.args.seat.now.seat.me (c.args.self.now.keyed ∙ same) c.requires.fits.2,
)
