use Rattle.std.proofs.Common.{Option, sym, subst}
use Rattle.std.specs.Prelude.{IsSome}
use Rattle.std.specs.List.{All}
use Rattle.pl_term.specs.Tree.{Tree}
use Rattle.atom_words.specs.Seats.{seen}
use Rattle.atom_table.specs.Naming.{names}
use Rattle.term_store.specs.ArgumentKeys.{key_atoms}
use Rattle.term_store.specs.NumberedNames.{names_of}
use Rattle.world_api.specs.Visits.{visit_names}
use Rattle.world_api.specs.declared.visit.Visit.TheVariants.{CreateThread}
use Rattle.pl_hub.specs.Visits.{IsVisit}
use Rattle.pl_hub.proofs.shared.Shared.create.Goals as goal

pub create_thread-requires-clause-held : goal.create_thread-requires-clause-held
create_thread-requires-clause-held g c = subst (λ (t : Option Tree). All (λ a. IsSome (names (seen c.args.atoms.now.seat) a)) (visit_names names_of key_atoms (CreateThread c.args.goal c.args.aliases t))) (sym c.uncounted-error.ensures) c.requires.held

pub returns : goal.returns
returns g c =
    subst (λ (t : Option Tree). IsVisit g.K.Naming.history g.K.Naming.goals c.args.engine (seen c.args.atoms.now.seat) (seen c.create_thread.new.atoms.seat) (CreateThread c.args.goal c.args.aliases t) c.create_thread.result c.args.front.now c.create_thread.new.front c.args.self.now c.create_thread.new.self)
    c.uncounted-error.ensures c.create_thread.ensures
