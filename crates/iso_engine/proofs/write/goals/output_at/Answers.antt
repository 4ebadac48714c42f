use Rattle.std.proofs.Common.{◌≡◌, length, sym, ◌∙◌, arith}
use Rattle.term_store.specs.Contents.{arguments_at}
use Rattle.iso_search.proofs.Constructing.{how_many}
use Rattle.iso_engine.proofs.Outputs.{at_atom, at_more, at_one, held_one, no_integer, no_variable}
use Rattle.iso_engine.proofs.write.goals.output_at.Goals as goal

pub returns-in-Variable-clause-stands : goal.returns-in-Variable-clause-stands
returns-in-Variable-clause-stands c v view = no_variable v c.args.store.now c.args.goal c.in-Variable.field-0 c.in-Variable.ensures

pub returns-in-Integer-clause-stands : goal.returns-in-Integer-clause-stands
returns-in-Integer-clause-stands c v view = no_integer v c.args.store.now c.args.goal c.in-Integer.field-0 c.in-Integer.ensures

pub returns-in-Atom-clause-stands : goal.returns-in-Atom-clause-stands
returns-in-Atom-clause-stands c = at_atom c.args.store.now c.args.goal c.in-Atom.name c.of_atom.result c.in-Atom.ensures c.of_atom.ensures

pub returns-then-len-eq1-clause-held : goal.returns-then-len-eq1-clause-held
returns-then-len-eq1-clause-held c =
    let s = c.args.store.now in
    let a = c.in-Compound.arguments in
    let long : length (arguments_at s a) ≡ 1 = omega (arith, how_many s a c.in-Compound.ensures.1.0, c.len.ensures, c.if-len-eq1.true) in
    held_one s c.args.goal c.argument.result c.in-Compound.name a c.in-Compound.ensures.0 long c.argument.ensures.stands c.of_one.result c.of_one.ensures

pub returns-then-len-eq1-clause-stands : goal.returns-then-len-eq1-clause-stands
returns-then-len-eq1-clause-stands c =
    let s = c.args.store.now in
    let a = c.in-Compound.arguments in
    let long : length (arguments_at s a) ≡ 1 = omega (arith, how_many s a c.in-Compound.ensures.1.0, c.len.ensures, c.if-len-eq1.true) in
    at_one s c.args.goal c.argument.result c.in-Compound.name a c.in-Compound.ensures.0 long c.argument.ensures.stands c.of_one.result c.of_one.ensures

pub returns-else-len-eq1-clause-stands : goal.returns-else-len-eq1-clause-stands
returns-else-len-eq1-clause-stands c v view =
    let s = c.args.store.now in
    let a = c.in-Compound.arguments in
    at_more v s c.args.goal c.in-Compound.name (arguments_at s a) c.in-Compound.ensures.0 (omega (arith, how_many s a c.in-Compound.ensures.1.0, c.in-Compound.ensures.1.1))
    (λ e. c.if-len-eq1.false (c.len.ensures ∙ sym (how_many s a c.in-Compound.ensures.1.0) ∙ e))
