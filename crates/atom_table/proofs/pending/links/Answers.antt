use Rattle.std.proofs.Common.{◌∙◌}
use Rattle.atom_words.specs.Seats.{seen}
use Rattle.atom_words.specs.declared.view.View.{View}
use Rattle.bucket_rows.proofs.Making.{beside_links, unlinked_by, walking_beside}
use Rattle.atom_table.proofs.pending.links.Goals as goal

pub returns-in-Err-clause-fits : goal.returns-in-Err-clause-fits
returns-in-Err-clause-fits c = let v : View = seen c.args.seat.now in let m = c.requires.ready.0.4.2 in let b = beside_links v m.walk c.link.result (seen c.link.new.seat) (c.link.ensures.steps m.walk m.at) in
    (c.link.ensures.same.0 ∙ c.requires.fits.0, b.size ∙ c.requires.fits.1, b.gone ∙ c.requires.fits.2)

pub returns-in-Err-clause-linked : goal.returns-in-Err-clause-linked
returns-in-Err-clause-linked c = let v : View = seen c.args.seat.now in let m = c.requires.ready.0.4.2 in
    let q = unlinked_by v m.walk c.in-Err.field-0 (seen c.link.new.seat) c.requires.ready.0.0 (c.in-Err.ensures.steps m.walk m.at) c.requires.ready.0.1 c.requires.ready.0.2 in (q.0, q.1, q.2)

pub returns-in-Ok-clause-sitting : goal.returns-in-Ok-clause-sitting
returns-in-Ok-clause-sitting c = let v : View = seen c.args.seat.now in let m = c.requires.ready.0.4.2 in (walking_beside v (seen c.link.new.seat) (beside_links v m.walk c.link.result (seen c.link.new.seat) (c.link.ensures.steps m.walk m.at)) c.requires.ready.1).0

pub returns-in-Err-clause-sitting : goal.returns-in-Err-clause-sitting
returns-in-Err-clause-sitting c = let v : View = seen c.args.seat.now in let m = c.requires.ready.0.4.2 in (walking_beside v (seen c.link.new.seat) (beside_links v m.walk c.link.result (seen c.link.new.seat) (c.link.ensures.steps m.walk m.at)) c.requires.ready.1).0
