use Rattle.atom_words.specs.Seats.{seen}
use Rattle.counted_terms.proofs.OneMaps.{one_map, held_both, keeps_both}
use Rattle.counted_terms.proofs.Comparing.{both_apart, unified, excluded}
use Rattle.counted_terms.proofs.laws.are_one_map.Goals as goal

pub returns-clause-lawful : goal.returns-clause-lawful
returns-clause-lawful c = one_map c.args.table.now.words c.args.seat.now c.requires.joins

pub returns-clause-held : goal.returns-clause-held
returns-clause-held c = held_both (seen c.args.seat.now)

pub returns-clause-kept : goal.returns-clause-kept
returns-clause-kept c = keeps_both c.args.table.now.words c.args.seat.now c.requires.joins

pub returns-clause-apart : goal.returns-clause-apart
returns-clause-apart c = both_apart c.args.table.now.words c.args.seat.now c.requires.joins

pub returns-clause-unify : goal.returns-clause-unify
returns-clause-unify c = unified c.args.table.now.words c.args.seat.now c.requires.joins

pub returns-clause-excluded : goal.returns-clause-excluded
returns-clause-excluded c = excluded c.args.table.now.words c.args.seat.now c.requires.joins
