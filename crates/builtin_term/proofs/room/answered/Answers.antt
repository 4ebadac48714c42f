use Rattle.builtin_rows.specs.Rows.{listed, terms_at}
use Rattle.builtin_term.proofs.Rooms.{answer_stands, full_stands, none_fits, some_full}
use Rattle.builtin_term.proofs.room.answered.Goals as goal

pub returns-in-None-clause-row : goal.returns-in-None-clause-row
returns-in-None-clause-row c m ts held =
    let s = c.args.store.now in
    answer_stands s c.overdrawn.new.store ts m c.args.places c.in_ok-full.ensures.same
    (none_fits c.in_ok-full.full s c.in-None.is c.in_ok-full.ensures.fits) c.requires held

pub returns-in-Some-clause-row : goal.returns-in-Some-clause-row
returns-in-Some-clause-row c m ts held =
    let s = c.args.store.now in
    full_stands s c.overdrawn.new.store ts (terms_at m s (listed c.args.places)) m c.in-Some.row c.in_ok-full.ensures.same
    (some_full c.in_ok-full.full c.in-Some.row s c.in-Some.is c.in_ok-full.ensures.full)
