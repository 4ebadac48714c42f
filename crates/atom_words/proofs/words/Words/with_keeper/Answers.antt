use Rattle.std.proofs.Common.{arith}
use Rattle.atom_words.proofs.Openings.{join_at}
use Rattle.atom_words.proofs.words.Words.with_keeper.Goals as goal

pub join_seat-requires : goal.join_seat-requires
join_seat-requires c = (
  c.requires.fits.0,
  c.requires.keeper.0,
  c.args.keeper.slotless,
  omega (arith, c.args.self.now.counted),
  join_at c.args.self.now.table.shared.key c.args.seat.now.seat.id c.args.seat.now.seat.me.0 c.args.keeper.seat.id c.args.keeper.seat.me.0 c.requires.fits.2 c.requires.keeper.2,
)
