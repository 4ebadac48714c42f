use Rattle.std.proofs.lemmas.Option.{same_Some}
use Rattle.atom_words.specs.Seats.{seen}
use Rattle.atom_table.specs.Naming.{requests}
use Rattle.hub_database.proofs.Deciding.{quiet_by}
use Rattle.hub_database.proofs.naming.predicate_text.Goals as goal

pub returns-clause-quiet : goal.returns-clause-quiet
returns-clause-quiet g c = quiet_by (seen c.args.atoms.now.seat) (seen c.spelled.new.atoms.seat) c.spelled.ensures.same c.spelled.ensures.refusals (same_Some (requests (seen c.spelled.new.atoms.seat)) (requests (seen c.args.atoms.now.seat)) c.spelled.ensures.asked)
