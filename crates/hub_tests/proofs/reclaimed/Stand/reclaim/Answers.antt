use Rattle.atom_words.specs.Seats.{seen}
use Rattle.atom_table.specs.Naming.{names}
use Rattle.hub_tests.proofs.Stands.{changed}
use Rattle.hub_tests.proofs.reclaimed.Stand.reclaim.Goals as goal

pub invariant_of-self : goal.invariant_of-self
invariant_of-self g c =
    let s = c.self.inside in
    let r = c.reclaim_clauses-reclaimed in
    changed g.K.NamesTable.atoms g.K.NamesTable.size s.db r.new.db s.keeper r.new.keeper s.own (names (seen s.atoms.seat)) (names (seen r.new.atoms.seat)) s.generation s.generation c.self.invariant r.ensures.keeper r.ensures.restored r.ensures.upto r.ensures.quiet.holds
