use Rattle.atom_words.proofs.Laws.{unlike, text_stays, unused, counts_are, marked, one_dying}
use Rattle.atom_words.proofs.rule.slots_are_safe.Goals as goal

pub returns-clause-unlike : goal.returns-clause-unlike
returns-clause-unlike c = unlike c.args.size

pub returns-clause-text : goal.returns-clause-text
returns-clause-text c = text_stays c.args.size

pub returns-clause-unused : goal.returns-clause-unused
returns-clause-unused c = unused c.args.size

pub returns-clause-counts : goal.returns-clause-counts
returns-clause-counts c = counts_are c.args.size

pub returns-clause-marked : goal.returns-clause-marked
returns-clause-marked c = marked c.args.size

pub returns-clause-dying : goal.returns-clause-dying
returns-clause-dying c = one_dying c.args.size
