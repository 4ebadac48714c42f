use Rattle.std.proofs.Common.{subst}
use Rattle.std.specs.Prelude.{IsSome}
use Rattle.std.specs.List.{All}
use Rattle.pl_term.specs.Tree.{Tree}
use Rattle.atom_words.specs.Seats.{seen}
use Rattle.atom_table.specs.Naming.{names}
use Rattle.term_store.specs.ArgumentKeys.{key_atoms}
use Rattle.term_store.specs.NumberedNames.{names_of}
use Rattle.term_store.specs.declared.argument_key.ArgumentKey.{ArgumentKey}
use Rattle.world_api.specs.Visits.{visit_names}
use Rattle.world_api.specs.declared.visit.Visit.{Visit}
use Rattle.pl_hub.proofs.shared.Shared.session.Goals as goal

pub next_clause-requires-clause-held : goal.next_clause-requires-clause-held
next_clause-requires-clause-held g c =
    subst (λ (x : Visit Tree ArgumentKey). All (λ a. IsSome (names (seen c.args.atoms.now.seat) a)) (visit_names names_of key_atoms x)) c.in-Next.is c.requires.held

pub add_clause-requires-clause-held : goal.add_clause-requires-clause-held
add_clause-requires-clause-held g c =
    subst (λ (x : Visit Tree ArgumentKey). All (λ a. IsSome (names (seen c.args.atoms.now.seat) a)) (visit_names names_of key_atoms x)) c.in-AssertFirst.is c.requires.held

pub add_clause-requires-in-AssertLast-clause-held : goal.add_clause-requires-in-AssertLast-clause-held
add_clause-requires-in-AssertLast-clause-held g c =
    subst (λ (x : Visit Tree ArgumentKey). All (λ a. IsSome (names (seen c.args.atoms.now.seat) a)) (visit_names names_of key_atoms x)) c.in-AssertLast.is c.requires.held

pub add_clause-requires-in-Consult-clause-held : goal.add_clause-requires-in-Consult-clause-held
add_clause-requires-in-Consult-clause-held g c =
    subst (λ (x : Visit Tree ArgumentKey). All (λ a. IsSome (names (seen c.args.atoms.now.seat) a)) (visit_names names_of key_atoms x)) c.in-Consult.is c.requires.held

pub create-requires-clause-held : goal.create-requires-clause-held
create-requires-clause-held g c =
    subst (λ (x : Visit Tree ArgumentKey). All (λ a. IsSome (names (seen c.args.atoms.now.seat) a)) (visit_names names_of key_atoms x)) c.in-CreateThread.is c.requires.held

pub start_goal-requires-clause-held : goal.start_goal-requires-clause-held
start_goal-requires-clause-held g c =
    subst (λ (x : Visit Tree ArgumentKey). All (λ a. IsSome (names (seen c.args.atoms.now.seat) a)) (visit_names names_of key_atoms x)) c.in-StartGoal.is c.requires.held

pub join-requires-clause-held : goal.join-requires-clause-held
join-requires-clause-held g c =
    subst (λ (x : Visit Tree ArgumentKey). All (λ a. IsSome (names (seen c.args.atoms.now.seat) a)) (visit_names names_of key_atoms x)) c.in-JoinThread.is c.requires.held

pub send-requires-clause-held : goal.send-requires-clause-held
send-requires-clause-held g c =
    subst (λ (x : Visit Tree ArgumentKey). All (λ a. IsSome (names (seen c.args.atoms.now.seat) a)) (visit_names names_of key_atoms x)) c.in-SendMessage.is c.requires.held

pub destroy-requires-clause-held : goal.destroy-requires-clause-held
destroy-requires-clause-held g c =
    subst (λ (x : Visit Tree ArgumentKey). All (λ a. IsSome (names (seen c.args.atoms.now.seat) a)) (visit_names names_of key_atoms x)) c.in-DestroyQueue.is c.requires.held
