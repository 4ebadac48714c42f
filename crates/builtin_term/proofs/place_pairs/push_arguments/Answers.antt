use Rattle.builtin_term.proofs.place_pairs.push_arguments.Goals as goal

pub returns-in-Compound-Compound-clause-pairs : goal.returns-in-Compound-Compound-clause-pairs
returns-in-Compound-Compound-clause-pairs c = rw (c.in-Compound-Compound.is-0, c.in-Compound-Compound.is-1) c.enter_arguments.ensures.pairs
