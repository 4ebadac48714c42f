use Rattle.std.proofs.Common.{arith, ◌∙◌, ap, nat_abs, of_z, to_z, w64}
use Rattle.std.proofs.lemmas.Int.{ints}
use Rattle.pl_term.specs.Tree.{int}
use Rattle.term_store.specs.Contents.{arguments_at}
use Rattle.builtin_term.proofs.Compounds.{how_many}
use Rattle.builtin_term.proofs.Selecting.{natural_is, select_natural}
use Rattle.builtin_term.proofs.argument.select_from.Goals as goal

pub returns-else-i-lt0 : goal.returns-else-i-lt0
returns-else-i-lt0 c =
    let s = c.args.store.now in
    let a = c.in-Compound.arguments in
    let i = c.args.i in
    let n = nat_abs (to_z w64 (of_z w64 i)) in
    select_natural s c.args.number c.args.term c.in-Compound.field-0 n (arguments_at s a) (omega (arith, how_many s a c.in-Compound.ensures.1.0, c.in-Compound.ensures.1.1))
    (c.requires.stands ∙ ap int (natural_is i (omega (arith, ints)) c.ranges.i)) c.in-Compound.ensures.0 c.argument_at.result c.argument_at.ensures
