use Rattle.std.proofs.Common.{length, inr, sym, ap, ◌∙◌, subst}
use Rattle.atom_words.specs.Texts.{Formed}
use Rattle.atom_words.specs.Seats.{seen}
use Rattle.atom_words.specs.declared.view.View.{View}
use Rattle.bucket_rows.proofs.Making.{beside_links, unlinked_by}
use Rattle.bucket_rows.proofs.tests.link_missed.Goals as goal

pub release-requires-clause-fits : goal.release-requires-clause-fits
release-requires-clause-fits c = let v : View = seen c.args.seat.now in let m = c.requires.ready.0.4.2 in let b = beside_links v m.walk c.link.result (seen c.link.new.seat) (c.link.ensures.steps m.walk m.at) in
    (c.link.ensures.same.0 ∙ c.requires.fits.0, b.size ∙ c.requires.fits.1, b.gone ∙ c.requires.fits.2)

pub release-requires-clause-unlinked : goal.release-requires-clause-unlinked
release-requires-clause-unlinked c = let v : View = seen c.args.seat.now in let m = c.requires.ready.0.4.2 in
    let q = unlinked_by v m.walk c.in-Err.missed (seen c.link.new.seat) c.requires.ready.0.0 (c.in-Err.ensures.steps m.walk m.at) c.requires.ready.0.1 c.requires.ready.0.2 in (q.0, q.1, q.2, inr (ap length q.3 ∙ c.requires.ready.0.3, subst Formed (sym q.3) c.requires.ready.0.5))
