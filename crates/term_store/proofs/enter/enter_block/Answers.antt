use Rattle.std.proofs.Common.{◌≤◌, subst, arith}
use Rattle.term_store.specs.Cells.{heap_of}
use Rattle.term_store.specs.Entering.{Entered, Enters}
use Rattle.term_store.proofs.Copying.{all_ready}
use Rattle.term_store.proofs.Heading.{body_entered}
use Rattle.term_store.proofs.enter.enter_block.Goals as goal

pub meet_head-requires-clause-facing : goal.meet_head-requires-clause-facing
meet_head-requires-clause-facing c = (c.requires.goal, c.requires.parts.head_in_block)

pub make_others-requires-clause-known : goal.make_others-requires-clause-known
make_others-requires-clause-known c =
    let b = c.args.block.now in
    let h = heap_of c.args.cells.now in
    let d = heap_of c.meet_head.new.cells in
    let known = c.meet_head.new.entry.known.items in
    let met : Entered b h c.args.from c.args.goal b.head d known =
    subst (λ r. Enters r b h c.args.from c.args.goal b.head d known) c.if-not-branch.false c.in_ok-meet_head.ensures.enters in
    met.known_after

pub copy_part-requires-clause-ready : goal.copy_part-requires-clause-ready
copy_part-requires-clause-ready c =
    let b = c.args.block.now in
    all_ready b c.requires.block c.make_others.new.known.items c.in_ok-make_others.ensures.enough b.body c.requires.parts.body_in_block

pub returns-clause-entered : goal.returns-clause-entered
returns-clause-entered c =
    let b = c.args.block.now in
    let h = heap_of c.args.cells.now in
    let d = heap_of c.meet_head.new.cells in
    let e = heap_of c.make_others.new.cells in
    let f = heap_of c.copy_part.new.cells in
    let known = c.meet_head.new.entry.known.items in
    let after = c.make_others.new.known.items in
    let met : Entered b h c.args.from c.args.goal b.head d known =
    subst (λ r. Enters r b h c.args.from c.args.goal b.head d known) c.if-not-branch.false c.in_ok-meet_head.ensures.enters in
    let most : b.variables ≤ b.variables = omega arith in
    body_entered b h c.args.from c.args.goal b.head b.body d known e after f c.in_ok-body.body c.requires.parts met c.in_ok-make_others.ensures.meets
    c.make_others.ensures.fit.fit c.in_ok-make_others.ensures.known (c.in_ok-make_others.ensures.few b.variables most met.few) c.copy_part.ensures.gains
    (c.in_ok-body.ensures.copied c.args.from)
