use Rattle.std.proofs.Common.{refl}
use Rattle.term_store.specs.Contents.{arguments_at, term_at}
use Rattle.iso_search.proofs.Constructing.{how_many}
use Rattle.iso_engine.proofs.Looks.{compound_predicate}
use Rattle.iso_engine.proofs.call.goals.predicate_at.Goals as goal

pub returns-in-Compound : goal.returns-in-Compound
returns-in-Compound c =
    let s = c.args.store.now in
    let seen = c.in-Compound.ensures in
    compound_predicate c.in-Compound.name c.in-Compound.arguments.count (arguments_at s c.in-Compound.arguments) (term_at s c.args.goal)
    (record { name = c.in-Compound.name; arity = c.len.result }) seen.0 (how_many s c.in-Compound.arguments seen.1.0) seen.1.1 refl c.len.ensures
