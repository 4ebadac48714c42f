use Rattle.std.proofs.Common.{Some}
use Rattle.atom_words.specs.Seats.{seen}
use Rattle.atom_table.specs.Naming.{names}
use Rattle.counted_terms.specs.CountedTerms.{naming}
use Rattle.hub_tests.proofs.Stands.{opened}
use Rattle.hub_tests.proofs.reclaimed.Stand.new.Goals as goal

pub invariant_of-result : goal.invariant_of-result
invariant_of-result g c =
    opened g.K.NamesTable.atoms g.K.NamesTable.size c.in_ok-db.db (Some c.args.keeper) c.in_ok-own.own (names (seen c.own_atom.new.atoms.seat)) c.requires.keeper c.requires.none
    (λ a. c.in_ok-db.ensures.weighs (naming a)) c.in_ok-db.ensures.start.0 c.in_ok-db.ensures.start.1 c.in_ok-own.ensures
