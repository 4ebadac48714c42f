use Rattle.std.proofs.Common.{zero}
use Rattle.builtin_term.proofs.Making.{above_fresh, fresh_more, fresh_none}
use Rattle.builtin_term.proofs.functors.make_variables.Goals as goal

pub loop-i-init : goal.loop-i-init
loop-i-init c = fresh_none c.args.store.now c.args.next c.new-all.result.items c.new-all.ensures.items

pub make_variable-requires : goal.make_variable-requires
make_variable-requires c = above_fresh c.args.store.now c.loop-i.store c.args.next c.loop-i.i zero c.loop-i.invariant.makes c.requires.above

pub loop-i-preserved : goal.loop-i-preserved
loop-i-preserved c =
    let made = c.in_ok-variable.ensures in
    fresh_more c.args.store.now c.loop-i.store c.make_variable.new.self c.args.next c.loop-i.i c.loop-i.all.items c.push.new.self.items c.in_ok-variable.variable
    c.loop-i.invariant made.made made.numbers made.adds c.in_ok-push.ensures.items
