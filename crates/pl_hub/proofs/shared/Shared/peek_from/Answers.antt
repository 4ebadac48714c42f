use Rattle.std.proofs.Common.{Some, sym, subst}
use Rattle.std.specs.Prelude.{IsSome}
use Rattle.std.specs.List.{All}
use Rattle.pl_term.specs.Tree.{Tree}
use Rattle.atom_words.specs.Seats.{seen}
use Rattle.atom_table.specs.Naming.{names}
use Rattle.term_store.specs.ArgumentKeys.{key_atoms}
use Rattle.term_store.specs.NumberedNames.{names_of}
use Rattle.world_api.specs.Visits.{visit_names}
use Rattle.world_api.specs.declared.visit.Visit.TheVariants.{PeekMessage}
use Rattle.pl_hub.specs.Visits.{IsVisit}
use Rattle.pl_hub.proofs.shared.Shared.peek_from.Goals as goal

pub peek_message-requires-clause-held : goal.peek_message-requires-clause-held
peek_message-requires-clause-held g c = subst (λ (t : Tree). All (λ a. IsSome (names (seen c.args.atoms.now.seat) a)) (visit_names names_of key_atoms (PeekMessage (Some t) c.args.pattern.now))) (sym c.term.ensures) c.requires.held

pub returns : goal.returns
returns g c =
    subst (λ (t : Tree). IsVisit g.K.Naming.history g.K.Naming.goals c.args.engine (seen c.args.atoms.now.seat) (seen c.peek_message.new.atoms.seat) (PeekMessage (Some t) c.args.pattern.now) c.peek_message.result c.args.front.now c.peek_message.new.front c.args.self.now c.peek_message.new.self)
    c.term.ensures c.peek_message.ensures
