use Rattle.std.proofs.Common.{None, Some, subst}
use Rattle.builtin_rows.specs.Laws.{TellsConstructs, TellsRows, TellsShared}
use Rattle.iso_engine.proofs.Builtins.{asked_is, atom_is, compound_asks, compound_is_none, compound_no_step, variable_is}
use Rattle.iso_engine.proofs.builtin.builtin_at.Goals as goal

pub returns-in-Variable : goal.returns-in-Variable
returns-in-Variable c v view = variable_is v view c.args.store.now c.args.goal c.in-Variable.field-0 c.in-Variable.ensures

pub returns-in-None : goal.returns-in-None
returns-in-None c v view = atom_is v view c.args.store.now c.args.goal c.in-Atom.name c.in-Atom.ensures c.in-None.ensures

pub returns-in-None-predicate_of : goal.returns-in-None-predicate_of
returns-in-None-predicate_of c v view =
    let name = c.in-Compound.name in
    let a = c.in-Compound.arguments in
    let told = c.in-None-predicate_of.ensures in
    compound_is_none v view c.args.store.now c.args.goal name a c.in-Compound.ensures.0 c.in-Compound.ensures.1.0 c.in-Compound.ensures.1.1
    (subst (λ k. TellsRows name k None) c.len.ensures told.rows) (subst (λ k. TellsShared name k None) c.len.ensures told.shares)

pub asked_at-requires-clause-asks : goal.asked_at-requires-clause-asks
asked_at-requires-clause-asks c =
    let name = c.in-Compound.name in
    let a = c.in-Compound.arguments in
    let seen = c.requires.other in
    compound_asks seen.0 seen.1 c.args.store.now c.args.goal name a c.in-Compound.ensures.0 c.in-Compound.ensures.1.0 c.in-Compound.ensures.1.1
    (subst (λ w. TellsShared name a.count (Some w)) c.in-Asks.is (subst (λ k. TellsShared name k (Some c.in-Some-predicate_of.meaning)) c.len.ensures c.in-Some-predicate_of.ensures.shares))

pub unreachable-requires-in-Steps : goal.unreachable-requires-in-Steps
unreachable-requires-in-Steps c =
    let name = c.in-Compound.name in
    let a = c.in-Compound.arguments in
    let seen = c.requires.other in
    compound_no_step seen.0 seen.1 c.args.store.now c.args.goal name a c.in-Compound.ensures.0 c.in-Compound.ensures.1.0 c.in-Compound.ensures.1.1
    (subst (λ w. TellsConstructs name a.count (Some w)) c.in-Steps.is (subst (λ k. TellsConstructs name k (Some c.in-Some-predicate_of.meaning)) c.len.ensures c.in-Some-predicate_of.ensures.constructs))
    seen.2

pub returns-in-Asks : goal.returns-in-Asks
returns-in-Asks c =
    let name = c.in-Compound.name in
    let a = c.in-Compound.arguments in
    asked_is c.args.store.now c.args.goal name a c.requires.holds c.in-Compound.ensures.0 c.in-Compound.ensures.1.0 c.in-Compound.ensures.1.1
    (subst (λ w. TellsRows name a.count (Some w)) c.in-Asks.is (subst (λ k. TellsRows name k (Some c.in-Some-predicate_of.meaning)) c.len.ensures c.in-Some-predicate_of.ensures.rows))
    c.asked_at.result c.asked_at.ensures
