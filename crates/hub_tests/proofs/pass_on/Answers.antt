use Rattle.std.proofs.Common.{ap}
use Rattle.std.specs.List.{list_all}
use Rattle.atom_words.specs.Seats.{seen}
use Rattle.atom_table.specs.Tables.{is_so}
use Rattle.hub_tests.proofs.pass_on.Goals as goal

pub new-atoms-requires-clause-refused : goal.new-atoms-requires-clause-refused
new-atoms-requires-clause-refused g c = ap (list_all (is_so (seen c.args.writer).size.slots)) c.requires.writer.refusals

pub new-reader-requires-clause-refused : goal.new-reader-requires-clause-refused
new-reader-requires-clause-refused g c = ap (list_all (is_so (seen c.args.reader).size.slots)) c.requires.reader.refusals
