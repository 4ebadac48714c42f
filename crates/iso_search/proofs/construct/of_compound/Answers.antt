use Rattle.std.proofs.Common.{◌==◌, ◌<◌, ◌≤◌, length, refl, arith}
use Rattle.term_store.specs.Contents.{arguments_at}
use Rattle.iso_search.proofs.Constructing.{called, how_many, named_otherwise, too_many, was, was_not}
use Rattle.iso_search.proofs.construct.of_compound.Goals as goal

pub returns-then-ne-clause-stands : goal.returns-then-ne-clause-stands
returns-then-ne-clause-stands c v view =
    let s = c.args.store.now in
    named_otherwise v view s c.args.name (arguments_at s c.args.arguments) c.by_count.result (c.by_count.ensures.stands v view)
    (was_not (c.args.name == 53) c.if-ne.ensures)

pub returns-then-len-gt8-clause-stands : goal.returns-then-len-gt8-clause-stands
returns-then-len-gt8-clause-stands c v view =
    let s = c.args.store.now in
    let xs = arguments_at s c.args.arguments in
    let long : 8 < length xs = omega (arith, how_many s c.args.arguments c.requires.arguments, c.len.ensures, c.if-len-gt8.true) in
    too_many v s c.args.name xs c.by_count-then-len-gt8.result (c.by_count-then-len-gt8.ensures.stands v view) long

pub returns-clause-stands : goal.returns-clause-stands
returns-clause-stands c v view =
    let s = c.args.store.now in
    let a = c.args.arguments in
    let xs = arguments_at s a in
    let some : 0 < length xs = omega (arith, how_many s a c.requires.arguments, c.requires.some) in
    let few : length xs ≤ 8 = omega (arith, how_many s a c.requires.arguments, c.len.ensures, c.if-len-gt8.false) in
    called v view s c.args.name xs c.argument-first.result a (was (c.args.name == 53) c.if-ne.ensures) some few c.argument-first.ensures.stands refl
