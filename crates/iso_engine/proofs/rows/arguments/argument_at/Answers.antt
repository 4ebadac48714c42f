use Rattle.std.proofs.Common.{◌≡◌, ◌<◌, [], length, ap, ◌∙◌, arith}
use Rattle.pl_term.specs.Tree.{atom, count, trees}
use Rattle.pl_model.specs.Terms.{arguments}
use Rattle.term_store.specs.Contents.{arguments_at, term_at}
use Rattle.term_store.specs.Heap.{atom_name}
use Rattle.iso_search.proofs.Constructing.{how_many}
use Rattle.iso_engine.proofs.Listed.{arguments_made, at_trees, count_trees}
use Rattle.iso_engine.proofs.rows.arguments.argument_at.Goals as goal

pub argument-requires-clause-within : goal.argument-requires-clause-within
argument-requires-clause-within c =
    let s = c.args.store.now in
    let a = c.in-Compound.arguments in
    let made : arguments (term_at s c.args.term) ≡ trees (arguments_at s a) =
    ap arguments c.in-Compound.ensures.0 ∙ arguments_made (atom_name c.in-Compound.field-0) (arguments_at s a) in
    omega (arith, c.requires.within, ap count made, count_trees (arguments_at s a), how_many s a c.in-Compound.ensures.1.0)

pub returns-clause-stands : goal.returns-clause-stands
returns-clause-stands c =
    let s = c.args.store.now in
    let a = c.in-Compound.arguments in
    let made : arguments (term_at s c.args.term) ≡ trees (arguments_at s a) =
    ap arguments c.in-Compound.ensures.0 ∙ arguments_made (atom_name c.in-Compound.field-0) (arguments_at s a) in
    let within : c.args.index < length (arguments_at s a) = omega (arith, c.requires.within, ap count made, count_trees (arguments_at s a)) in
    let at = at_trees (arguments_at s a) c.args.index (atom []) within in
    rw made (rw c.argument.ensures.stands at)
