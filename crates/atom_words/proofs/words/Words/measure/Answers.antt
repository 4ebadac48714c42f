use Rattle.std.proofs.Common.{◌≡◌, ◌<◌, ℕ, sym, ap, ◌∙◌, subst}
use Rattle.atom_words.specs.Board.{text_at}
use Rattle.atom_words.specs.declared.size.Size.{Size}
use Rattle.atom_words.proofs.Steps.{measuring_text}
use Rattle.atom_words.proofs.words.Words.measure.Goals as goal

pub load-requires : goal.load-requires
load-requires c = let same : c.args.self.now.size ≡ c.args.seat.now.me.0.size = sym c.requires.fits.1 in let o = c.requires.own in (
  c.requires.fits.0,
  c.text_place-place.ensures.inside,
  measuring_text c.args.self.now.table.shared.key c.args.self.now.table.shared.table_id.slots c.args.seat.now.id c.args.seat.now.me (c.args.self.now.keyed ∙ same) c.requires.fits.2 c.text_place-place.result o.0 o.1 o.2 o.3
      (subst (λ (z : Size). o.0.slot < z.slots) same (subst (λ (k : ℕ). k < c.args.self.now.size.slots) (sym o.4) c.requires.slot)) (c.text_place-place.ensures.place ∙ (λ i. text_at (same i) (sym o.4 i) 0)),
)
