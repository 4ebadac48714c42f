use Rattle.std.proofs.Common.{◌+◌, ℕ, sym, subst}
use Rattle.std.specs.Prelude.{IsSome}
use Rattle.atom_words.specs.Seats.{seen}
use Rattle.atom_table.specs.Naming.{names}
use Rattle.counted_terms.specs.Keeping.{keeper_view}
use Rattle.counted_terms.specs.Sharing.{Restored}
use Rattle.hub_database.specs.Database.{IsUpTo, clause_counts}
use Rattle.hub_tests.proofs.Stands.{changed}
use Rattle.std.specs.List.{All}
use Rattle.pl_term.specs.Tree.{Tree}
use Rattle.term_store.specs.NumberedNames.{names_of}
use Rattle.hub_tests.proofs.reclaimed.Stand.add.Goals as goal

pub add_clause-row-requires-clause-held : goal.add_clause-row-requires-clause-held
add_clause-row-requires-clause-held g c =
    let m = names (seen c.self.inside.atoms.seat) in
    subst (λ (t : Tree). All (λ a. IsSome (m a)) (names_of t)) (sym c.in_ok-clause.ensures) (c.in_ok-term.ensures m c.self.inside.atoms.lawful.stand c.self.invariant.holds)

pub invariant_of-self : goal.invariant_of-self
invariant_of-self g c =
    let s = c.self.inside in
    let r = c.add_clause-row in
    let next = c.is_made.ensures.made c.if-is_made.true s.generation in
    changed g.K.NamesTable.atoms g.K.NamesTable.size s.db r.new.db s.keeper r.new.keeper s.own (names (seen s.atoms.seat)) (names (seen r.new.atoms.seat)) s.generation (s.generation + 1) c.self.invariant r.ensures.keeper
    (subst (λ (z : ℕ). Restored (clause_counts s.db) (clause_counts r.new.db) (keeper_view s.keeper) (keeper_view r.new.keeper) s.generation z) next r.ensures.restored)
    (subst (λ (z : ℕ). IsUpTo z r.new.db) next r.ensures.upto) r.ensures.quiet.holds

pub invariant_of-self-else-is_made : goal.invariant_of-self-else-is_made
invariant_of-self-else-is_made g c =
    let s = c.self.inside in
    let r = c.add_clause-row in
    let same = c.is_made.ensures.unmade c.if-is_made.false s.generation in
    changed g.K.NamesTable.atoms g.K.NamesTable.size s.db r.new.db s.keeper r.new.keeper s.own (names (seen s.atoms.seat)) (names (seen r.new.atoms.seat)) s.generation s.generation c.self.invariant r.ensures.keeper
    (subst (λ (z : ℕ). Restored (clause_counts s.db) (clause_counts r.new.db) (keeper_view s.keeper) (keeper_view r.new.keeper) s.generation z) same r.ensures.restored)
    (subst (λ (z : ℕ). IsUpTo z r.new.db) same r.ensures.upto) r.ensures.quiet.holds
