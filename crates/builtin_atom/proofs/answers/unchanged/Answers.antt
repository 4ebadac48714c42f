use Rattle.builtin_atom.proofs.Rows.{holds_row}
use Rattle.builtin_atom.proofs.answers.unchanged.Goals as goal

pub returns-in-None-clause-row : goal.returns-in-None-clause-row
returns-in-None-clause-row c m p ts = holds_row c.args.store.now c.take_cells.new.store p ts m c.in-None.ensures.taken c.in-None.ensures.fits
