use Rattle.std.proofs.Common.{arith}
use Rattle.atom_words.specs.Views.{without_collector, collector_of}
use Rattle.atom_words.specs.Rule.{collector}
use Rattle.atom_words.specs.declared.view.View.{View}
use Rattle.atom_words.proofs.Openings.{split_at}
use Rattle.atom_words.proofs.words.Words.part_collector.Goals as goal

pub split_seat-requires : goal.split_seat-requires
split_seat-requires c = let v : View = c.args.seat.now.seat.me.0 in (
  c.requires.fits.0,
  omega (arith, c.args.self.now.counted),
  split_at c.args.self.now.table.shared.key c.args.seat.now.seat.id v (without_collector v) (collector_of v) c.requires.fits.2 collector,
)
