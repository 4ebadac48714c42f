use Rattle.iso_search.proofs.Converting.{joined_converts, steps_grown}
use Rattle.iso_search.proofs.bodies.take_step.Goals as goal

pub returns-in_ok-both-in-Join-clause-steps : goal.returns-in_ok-both-in-Join-clause-steps
returns-in_ok-both-in-Join-clause-steps c =
    steps_grown c.args.store.now c.join.new.store c.in_ok-both-in-Join.ensures.grows c.args.steps.now.items c.requires.steps

pub returns-in_ok-both-in-Join-clause-converts : goal.returns-in_ok-both-in-Join-clause-converts
returns-in_ok-both-in-Join-clause-converts c v view =
    joined_converts c.in_ok-both-in-Join.both v c.args.store.now c.join.new.store c.in-Join.name c.args.step c.args.steps.now.items c.args.goals.now.items
    c.join.new.goals.items c.in_ok-both-in-Join.ensures.grows c.requires.steps c.in-Join.is (c.in_ok-both-in-Join.ensures.joins v)
