use Rattle.std.proofs.Common.{◌≡◌, ◌≢◌, ◌==◌, length, arith, ◌∙◌}
use Rattle.term_store.specs.Contents.{arguments_at}
use Rattle.iso_search.proofs.Constructing.{counted_no_condition, how_many, named_no_condition, was, was_not, with_else}
use Rattle.iso_search.proofs.construct.with_condition.Goals as goal

pub returns-then-ne-clause-stands : goal.returns-then-ne-clause-stands
returns-then-ne-clause-stands c v view =
    let s = c.args.store.now in
    named_no_condition v view s c.args.name (arguments_at s c.args.arguments) c.args.first c.args.second c.requires.stands
    (was_not (c.args.name == 7) c.if-ne.ensures)

pub returns-then-len-ne2-clause-stands : goal.returns-then-len-ne2-clause-stands
returns-then-len-ne2-clause-stands c v view =
    let s = c.args.store.now in
    let xs = arguments_at s c.args.arguments in
    let count : c.args.arguments.count ≢ 2 = λ e. c.if-len-ne2.true (c.len.ensures ∙ e) in
    let long : length xs ≢ 2 = λ e. count (omega (arith, how_many s c.args.arguments c.requires.arguments, e)) in
    counted_no_condition v view s c.args.name xs c.args.first c.args.second c.requires.stands long

pub returns-clause-stands : goal.returns-clause-stands
returns-clause-stands c v view =
    let s = c.args.store.now in
    let xs = arguments_at s c.args.arguments in
    let long : length xs ≡ 2 = omega (arith, how_many s c.args.arguments c.requires.arguments, c.len.ensures, c.if-len-ne2.false) in
    with_else v view s c.args.name xs c.args.first c.args.second c.requires.stands c.argument-condition.result c.argument-then_goal.result
    (was (c.args.name == 7) c.if-ne.ensures) long c.argument-condition.ensures.stands c.argument-then_goal.ensures.stands
