use Rattle.counted_terms.proofs.Saying.{lent_says, lent_named}
use Rattle.counted_terms.proofs.storing.hold.Goals as goal

pub returns-clause-named : goal.returns-clause-named
returns-clause-named c =
    lent_named c.args.table.now.words c.args.seat.now c.fetch_kept.new.seat c.args.keeper.now c.fetch_kept.new.keeper c.atoms-listed.result.now c.requires.seat c.fetch_kept.ensures.seat c.requires.keeper c.fetch_kept.ensures.keeper c.args.term.now c.atoms-listed.ensures c.requires.counted c.fetch_kept.ensures.fetched

pub returns-clause-says : goal.returns-clause-says
returns-clause-says c =
    lent_says c.args.table.now.words c.args.seat.now c.fetch_kept.new.seat c.args.keeper.now c.fetch_kept.new.keeper c.atoms-listed.result.now c.requires.seat c.fetch_kept.ensures.seat c.requires.keeper c.fetch_kept.ensures.keeper c.args.term.now c.atoms-listed.ensures c.fetch_kept.ensures.fetched
