use Rattle.std.proofs.Common.{◌<◌, arith, subst, sym, ℕ}
use Rattle.atom_words.specs.Views.{with_one_dealt, engine_of}
use Rattle.atom_words.specs.Rule.{engine}
use Rattle.atom_words.specs.declared.view.View.{View}
use Rattle.atom_words.proofs.Openings.{split_at}
use Rattle.atom_words.proofs.words.Words.split_engine_seat.Goals as goal

pub split_seat-requires : goal.split_seat-requires
split_seat-requires c = let v : View = c.args.seat.now.seat.me.0 in (
  c.requires.fits.0,
  omega (arith, c.args.self.now.counted),
  split_at c.args.self.now.table.shared.key c.args.seat.now.seat.id v (with_one_dealt v) (engine_of v) c.requires.fits.2 (engine (subst (λ (n : ℕ). 0 < n) (sym c.requires.engine.0) c.requires.engine.1) c.requires.none),
)
