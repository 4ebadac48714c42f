use Rattle.std.proofs.Common.{ap}
use Rattle.std.specs.List.{list_all}
use Rattle.atom_words.specs.Seats.{seen}
use Rattle.atom_table.specs.Tables.{is_so}
use Rattle.toplevel.proofs.beginning.atoms_of.Goals as goal

pub new-requires-clause-sits : goal.new-requires-clause-sits
new-requires-clause-sits g c = c.in-Some.ensures.seat.sits

pub new-requires-clause-engine : goal.new-requires-clause-engine
new-requires-clause-engine g c = c.in-Some.ensures.seat.engine

pub new-requires-clause-fixed : goal.new-requires-clause-fixed
new-requires-clause-fixed g c = c.in-Some.ensures.seat.fixed

pub new-requires-clause-refused : goal.new-requires-clause-refused
new-requires-clause-refused g c = ap (list_all (is_so (seen c.in-Some.seat).size.slots)) c.in-Some.ensures.seat.refusals
