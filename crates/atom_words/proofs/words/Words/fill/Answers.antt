use Rattle.std.proofs.Common.{◌≡◌, sym, ◌∙◌, arith}
use Rattle.atom_words.proofs.Steps.{filling_text}
use Rattle.atom_words.proofs.words.Words.fill.Goals as goal

pub load-requires : goal.load-requires
load-requires c = let same : c.args.self.now.size ≡ c.args.seat.now.me.0.size = sym c.requires.fits.1 in let o = c.requires.own in (
  c.requires.fits.0,
  omega (arith, c.args.self.now.counted),
  filling_text c.args.self.now.table.shared.key c.args.self.now.table.shared.table_id.slots c.args.seat.now.id c.args.seat.now.me (c.args.self.now.keyed ∙ same) c.requires.fits.2 o.0 o.1 o.2 o.3,
)
