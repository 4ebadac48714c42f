use Rattle.std.proofs.Common.{◌+◌, ℕ, subst, arith}
use Rattle.atom_words.specs.Seats.{seen}
use Rattle.atom_table.specs.Naming.{names}
use Rattle.hub_database.specs.Database.{IsUpTo}
use Rattle.hub_tests.proofs.Stands.{steady_changed}
use Rattle.hub_tests.proofs.reclaimed.Stand.erase.Goals as goal

pub invariant_of-self : goal.invariant_of-self
invariant_of-self g c =
    let s = c.self.inside in
    let r = c.erase_clause-row in
    let next = c.is_made.ensures.made c.if-is_made.true s.generation in
    steady_changed g.K.NamesTable.atoms g.K.NamesTable.size s.db r.new.db s.keeper r.new.keeper s.own (names (seen s.atoms.seat)) (names (seen r.new.atoms.seat)) s.generation (s.generation + 1) c.self.invariant r.ensures.keeper
    r.ensures.steady r.ensures.weighs (omega arith) (subst (λ (z : ℕ). IsUpTo z r.new.db) next r.ensures.upto) r.ensures.quiet.holds

pub invariant_of-self-else-is_made : goal.invariant_of-self-else-is_made
invariant_of-self-else-is_made g c =
    let s = c.self.inside in
    let r = c.erase_clause-row in
    let same = c.is_made.ensures.unmade c.if-is_made.false s.generation in
    steady_changed g.K.NamesTable.atoms g.K.NamesTable.size s.db r.new.db s.keeper r.new.keeper s.own (names (seen s.atoms.seat)) (names (seen r.new.atoms.seat)) s.generation s.generation c.self.invariant r.ensures.keeper
    r.ensures.steady r.ensures.weighs (omega arith) (subst (λ (z : ℕ). IsUpTo z r.new.db) same r.ensures.upto) r.ensures.quiet.holds
