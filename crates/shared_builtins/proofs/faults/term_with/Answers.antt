use Rattle.builtin_rows.proofs.Balls.{makes_one, one_place}
use Rattle.shared_builtins.proofs.Faulting.{with_held, with_reads}
use Rattle.shared_builtins.proofs.faults.term_with.Goals as goal

pub make_compound-requires-clause-places : goal.make_compound-requires-clause-places
make_compound-requires-clause-places c = one_place c.args.store.now c.args.culprit c.requires.1

pub returns-clause-made : goal.returns-clause-made
returns-clause-made c =
    let made = c.in_ok-term.ensures in (makes_one c.args.store.now c.make_compound.new.self _ c.in_ok-term.term made.made made.numbers made.adds, made.made.holds)

pub returns-clause-term : goal.returns-clause-term
returns-clause-term c m stands =
    with_reads m stands c.args.store.now c.make_compound.new.self c.in_ok-term.term c.args.error c.args.culprit c.requires.0 c.in_ok-term.ensures.made.means

pub returns-clause-held : goal.returns-clause-held
returns-clause-held c m stands held =
    with_held m stands c.args.store.now c.make_compound.new.self c.in_ok-term.term c.args.error c.args.culprit c.requires.0 c.in_ok-term.ensures.made.means held
