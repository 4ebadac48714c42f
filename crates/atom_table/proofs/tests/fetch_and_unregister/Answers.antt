use Rattle.std.proofs.Common.{sym, subst}
use Rattle.atom_words.specs.Seats.{Walking}
use Rattle.atom_words.specs.declared.view.View.{View}
use Rattle.atom_table.proofs.tests.fetch_and_unregister.Goals as goal

pub fetch-requires-clause-sitting : goal.fetch-requires-clause-sitting
fetch-requires-clause-sitting c = c.requires.walking.0

pub returns-clause-walking : goal.returns-clause-walking
returns-clause-walking c = subst (λ (y : View). Walking y) (sym c.unregister.ensures.steps) (subst (λ (y : View). Walking y) (sym c.fetch.ensures.steps) c.requires.walking)
