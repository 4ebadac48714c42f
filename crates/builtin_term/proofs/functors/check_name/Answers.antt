use Rattle.std.proofs.Common.{arith}
use Rattle.term_store.specs.Heap.{atom_name}
use Rattle.term_store.specs.Contents.{arguments_at}
use Rattle.builtin_term.proofs.Compounds.{how_many}
use Rattle.builtin_term.proofs.FunctorRows.{compound_refused}
use Rattle.builtin_term.proofs.functors.check_name.Goals as goal

pub returns-in-Compound : goal.returns-in-Compound
returns-in-Compound c =
    let s = c.args.store.now in
    let a = c.in-Compound.field-1 in
    compound_refused s c.args.name c.args.arity (atom_name c.in-Compound.field-0) (arguments_at s a) c.requires.name
    (omega (arith, how_many s a c.in-Compound.ensures.1.0, c.in-Compound.ensures.1.1)) c.in-Compound.ensures.0 c.unbound_or.result c.unbound_or.ensures
