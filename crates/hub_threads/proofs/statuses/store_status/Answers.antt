use Rattle.std.proofs.Common.{subst}
use Rattle.std.specs.List.{All}
use Rattle.std.specs.Option.{IsSome}
use Rattle.pl_term.specs.Tree.{Tree}
use Rattle.pl_model.specs.declared.threads.Status.{Status}
use Rattle.atom_words.specs.Seats.{seen}
use Rattle.atom_table.specs.Naming.{names}
use Rattle.hub_threads.specs.Rows.{status_names}
use Rattle.hub_threads.proofs.statuses.store_status.Goals as goal

pub store_from-requires-clause-held : goal.store_from-requires-clause-held
store_from-requires-clause-held g c = subst (λ (s : Status Tree). All (λ a. IsSome (names (seen c.args.atoms.now.seat) a)) (status_names s)) c.in-Exception.is c.requires.held

pub store_from-requires-in-Exited-clause-held : goal.store_from-requires-in-Exited-clause-held
store_from-requires-in-Exited-clause-held g c = subst (λ (s : Status Tree). All (λ a. IsSome (names (seen c.args.atoms.now.seat) a)) (status_names s)) c.in-Exited.is c.requires.held
