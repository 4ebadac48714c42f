use Rattle.std.proofs.Common.{◌≡◌, sym, ◌∙◌}
use Rattle.atom_words.proofs.Steps.{finding_word}
use Rattle.atom_words.proofs.words.Words.find_word.Goals as goal

pub load-requires : goal.load-requires
load-requires g c = let same : c.args.self.now.size ≡ c.args.seat.now.me.0.size = sym c.requires.fits.1 in let o = c.requires.own in (
  c.requires.fits.0,
  c.requires.inside,
  finding_word c.args.self.now.table.shared.key c.args.self.now.table.shared.table_id.slots c.args.seat.now.id c.args.seat.now.me (c.args.self.now.keyed ∙ same) c.requires.fits.2 c.args.place g.W.Wants.word o.0 o.1 o.2 o.3 o.4 o.5,
)
