use Rattle.std.proofs.Common.{ap₂, ◌∙◌}
use Rattle.term_store.specs.declared.argument_key.ArgumentKey.TheVariants.{Compound}
use Rattle.term_store.specs.Contents.{arguments_at, term_at}
use Rattle.iso_search.proofs.Constructing.{how_many}
use Rattle.iso_engine.proofs.Looks.{compound_key}
use Rattle.iso_engine.proofs.call.goals.argument_key_at.Goals as goal

pub returns-in-Compound : goal.returns-in-Compound
returns-in-Compound c =
    let s = c.args.store.now in
    let seen = c.in-Compound.ensures in
    ap₂ Compound c.slot-in-Compound.ensures c.len.ensures
    ∙ compound_key c.in-Compound.name c.in-Compound.arguments.count (arguments_at s c.in-Compound.arguments) (term_at s c.args.argument)
    seen.0 (how_many s c.in-Compound.arguments seen.1.0) seen.1.1
