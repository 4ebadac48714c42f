use Rattle.std.proofs.Common.{subst}
use Rattle.std.specs.List.{All}
use Rattle.std.specs.Prelude.{IsSome, Option}
use Rattle.atom_words.specs.Seats.{seen}
use Rattle.atom_table.specs.Naming.{names}
use Rattle.term_store.specs.ArgumentKeys.{key_atoms}
use Rattle.term_store.specs.NumberedNames.{names_of}
use Rattle.world_api.specs.Visits.{visit_by, visit_names}
use Rattle.world_api.specs.declared.asking.After.{After}
use Rattle.pl_sched.proofs.LedgerLaws.{begun_grows}
use Rattle.pl_sched.proofs.OnlyLaws.{only_visited}
use Rattle.pl_sched.proofs.hub.Hub.listed.Goals as goal

pub invariant_of-self : goal.invariant_of-self
invariant_of-self g c = (
  begun_grows c.self.inside.started.items c.args.engine c.self.inside.shared c.call_clauses.new.self c.self.invariant.0 c.call_clauses.ensures.carried,
  only_visited c.call_clauses.result c.args.front.now c.call_clauses.new.front c.self.inside.shared c.call_clauses.new.self c.call_clauses.ensures c.self.invariant.1 c.requires.begun,
)

pub invariant_of-self-in-Some : goal.invariant_of-self-in-Some
invariant_of-self-in-Some g c = (
  begun_grows c.self.inside.started.items c.args.engine c.self.inside.shared c.next_clause.new.self c.self.invariant.0 c.next_clause.ensures.carried,
  only_visited c.next_clause.result c.args.front.now c.next_clause.new.front c.self.inside.shared c.next_clause.new.self c.next_clause.ensures c.self.invariant.1 c.requires.begun,
)

pub next_clause-requires-clause-held : goal.next_clause-requires-clause-held
next_clause-requires-clause-held g c =
    subst (λ (o : Option After). All (λ a. IsSome (names (seen c.args.atoms.now.seat) a)) (visit_names names_of key_atoms (visit_by c.args.asked.now.procedure c.args.asked.now.first o)))
    c.in-Some.is
    c.requires.held
