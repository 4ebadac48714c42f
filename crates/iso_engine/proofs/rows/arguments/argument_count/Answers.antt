use Rattle.std.proofs.Common.{sym, ap, ◌∙◌}
use Rattle.pl_term.specs.Tree.{count}
use Rattle.pl_model.specs.Terms.{arguments}
use Rattle.term_store.specs.Contents.{arguments_at}
use Rattle.term_store.specs.Heap.{atom_name}
use Rattle.iso_search.proofs.Constructing.{how_many}
use Rattle.iso_engine.proofs.Listed.{arguments_made, count_trees}
use Rattle.iso_engine.proofs.rows.arguments.argument_count.Goals as goal

pub returns-in-Compound : goal.returns-in-Compound
returns-in-Compound c =
    let s = c.args.store.now in
    let a = c.in-Compound.arguments in
    c.len.ensures
    ∙ sym (how_many s a c.in-Compound.ensures.1.0)
    ∙ sym (count_trees (arguments_at s a))
    ∙ sym (ap count (ap arguments c.in-Compound.ensures.0 ∙ arguments_made (atom_name c.in-Compound.field-0) (arguments_at s a)))
