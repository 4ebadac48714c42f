use Rattle.std.proofs.Common.{Option, subst}
use Rattle.std.specs.Prelude.{IsSome}
use Rattle.std.specs.List.{All}
use Rattle.pl_term.specs.Tree.{Tree}
use Rattle.atom_words.specs.Seats.{seen}
use Rattle.atom_table.specs.Naming.{names}
use Rattle.term_store.specs.ArgumentKeys.{key_atoms}
use Rattle.term_store.specs.NumberedNames.{names_of}
use Rattle.world_api.specs.Visits.{visit_names}
use Rattle.world_api.specs.declared.visit.Visit.TheVariants.{GetMessage}
use Rattle.pl_hub.proofs.shared.Shared.get.Goals as goal

pub get_own_message-requires-clause-held : goal.get_own_message-requires-clause-held
get_own_message-requires-clause-held g c =
    subst (λ (o : Option Tree). All (λ a. IsSome (names (seen c.args.atoms.now.seat) a)) (visit_names names_of key_atoms (GetMessage o c.args.pattern))) c.in-None.is c.requires.held

pub get_from-requires-clause-held : goal.get_from-requires-clause-held
get_from-requires-clause-held g c =
    subst (λ (o : Option Tree). All (λ a. IsSome (names (seen c.args.atoms.now.seat) a)) (visit_names names_of key_atoms (GetMessage o c.args.pattern))) c.in-Some.is c.requires.held
