use Rattle.std.proofs.Common.{◌≡◌, sym, ◌∙◌, arith}
use Rattle.atom_words.proofs.WalkSteps.{keeping}
use Rattle.atom_table.proofs.atoms.load_kept.Goals as goal

pub load-requires : goal.load-requires
load-requires g c = let same : c.args.words.now.size ≡ c.args.seat.now.me.0.size = sym c.requires.fits.1 in (
  c.requires.fits.0,
  omega (arith, c.args.words.now.counted),
  keeping c.args.words.now.table.shared.key c.args.words.now.table.shared.table_id.slots c.args.seat.now.id c.args.seat.now.me (c.args.words.now.keyed ∙ same) c.requires.fits.2 g.K.Keeps.those c.requires.ours,
)
