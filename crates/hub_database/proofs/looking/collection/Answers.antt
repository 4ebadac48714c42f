use Rattle.std.proofs.Common.{length, refl}
use Rattle.pl_model.specs.Requests.{done}
use Rattle.pl_model.specs.SharedState.{state_at}
use Rattle.hub_database.proofs.Served.{atoms_asked, clauses_asked}
use Rattle.hub_database.proofs.looking.collection.Goals as goal

pub returns-clause-atoms : goal.returns-clause-atoms
returns-clause-atoms c = λ goals e h text. record { reply = done; serves = atoms_asked e (state_at goals h (length h)) (length h); says = refl }

pub returns-clause-clauses : goal.returns-clause-clauses
returns-clause-clauses c = λ goals e h text. record { reply = done; serves = clauses_asked e (state_at goals h (length h)) (length h); says = refl }
