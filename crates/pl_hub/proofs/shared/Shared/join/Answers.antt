use Rattle.std.proofs.Common.{sym, subst}
use Rattle.std.specs.Prelude.{IsSome}
use Rattle.std.specs.List.{All}
use Rattle.pl_term.specs.Tree.{Tree}
use Rattle.atom_words.specs.Seats.{seen}
use Rattle.atom_table.specs.Naming.{names}
use Rattle.term_store.specs.ArgumentKeys.{key_atoms}
use Rattle.term_store.specs.NumberedNames.{names_of}
use Rattle.world_api.specs.Visits.{visit_names}
use Rattle.world_api.specs.declared.visit.Visit.TheVariants.{JoinThread}
use Rattle.pl_hub.specs.Visits.{IsVisit}
use Rattle.pl_hub.proofs.shared.Shared.join.Goals as goal

pub join_thread-requires-clause-held : goal.join_thread-requires-clause-held
join_thread-requires-clause-held g c = subst (λ (t : Tree). All (λ a. IsSome (names (seen c.args.atoms.now.seat) a)) (visit_names names_of key_atoms (JoinThread t))) (sym c.term.ensures) c.requires.held

pub returns : goal.returns
returns g c =
    subst (λ (t : Tree). IsVisit g.K.Naming.history g.K.Naming.goals c.args.engine (seen c.args.atoms.now.seat) (seen c.join_thread.new.atoms.seat) (JoinThread t) c.join_thread.result c.args.front.now c.join_thread.new.front c.args.self.now c.join_thread.new.self)
    c.term.ensures c.join_thread.ensures
