use Rattle.std.proofs.Common.{◌≡◌, ◌<◌, length, arith}
use Rattle.term_store.specs.Contents.{arguments_at}
use Rattle.iso_search.proofs.Constructing.{by_more, by_one, by_three, by_two, how_many}
use Rattle.iso_search.proofs.construct.by_count.Goals as goal

pub returns-then-count-eq1-clause-stands : goal.returns-then-count-eq1-clause-stands
returns-then-count-eq1-clause-stands c v view =
    let s = c.args.store.now in
    let xs = arguments_at s c.args.arguments in
    let long : length xs ≡ 1 = omega (arith, how_many s c.args.arguments c.requires.arguments, c.len-count.ensures, c.if-count-eq1.true) in
    by_one v view s c.args.name xs c.argument-first.result c.of_one.result long c.argument-first.ensures.stands c.of_one.ensures

pub returns-then-count-eq2-clause-stands : goal.returns-then-count-eq2-clause-stands
returns-then-count-eq2-clause-stands c v view =
    let s = c.args.store.now in
    let xs = arguments_at s c.args.arguments in
    let long : length xs ≡ 2 = omega (arith, how_many s c.args.arguments c.requires.arguments, c.len-count.ensures, c.if-count-eq2.true) in
    by_two v view s c.args.name xs c.argument-first.result c.argument-second.result c.of_two.result long c.argument-first.ensures.stands
    c.argument-second.ensures.stands (c.of_two.ensures.stands v view)

pub returns-then-count-eq3-clause-stands : goal.returns-then-count-eq3-clause-stands
returns-then-count-eq3-clause-stands c v view =
    let s = c.args.store.now in
    let xs = arguments_at s c.args.arguments in
    let long : length xs ≡ 3 = omega (arith, how_many s c.args.arguments c.requires.arguments, c.len-count.ensures, c.if-count-eq3.true) in
    by_three v view s c.args.name xs c.argument-first.result c.argument-second.result c.argument-third.result c.of_three.result long
    c.argument-first.ensures.stands c.argument-second.ensures.stands c.argument-third.ensures.stands c.of_three.ensures

pub returns-clause-stands : goal.returns-clause-stands
returns-clause-stands c v view =
    let s = c.args.store.now in
    let xs = arguments_at s c.args.arguments in
    let long : 3 < length xs =
    omega (arith, how_many s c.args.arguments c.requires.arguments, c.requires.some, c.len-count.ensures, c.if-count-eq1.false, c.if-count-eq2.false, c.if-count-eq3.false) in
    by_more v s c.args.name xs long
