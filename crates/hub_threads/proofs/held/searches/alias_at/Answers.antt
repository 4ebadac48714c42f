use Rattle.std.proofs.Common.{arith, ap, sym, ◌∙◌}
use Rattle.hub_threads.specs.Held.{is_spelled}
use Rattle.hub_threads.proofs.Searched.{found_at, passed_next}
use Rattle.hub_threads.proofs.held.searches.alias_at.Goals as goal

pub returns-then-spells : goal.returns-then-spells
returns-then-spells c =
    found_at (is_spelled c.args.name.now) c.args.aliases.now c.loop-i.i c.index-aliases-i.result (omega (arith, c.loop-i-test.true)) c.index-aliases-i.is c.loop-i.invariant (ap (is_spelled c.args.name.now) c.index-aliases-i.is ∙ sym c.spells.ensures ∙ c.if-spells.true)

pub loop-i-preserved : goal.loop-i-preserved
loop-i-preserved c =
    passed_next (is_spelled c.args.name.now) c.args.aliases.now c.loop-i.i c.index-aliases-i.result (omega (arith, c.loop-i-test.true)) c.index-aliases-i.is c.loop-i.invariant (ap (is_spelled c.args.name.now) c.index-aliases-i.is ∙ sym c.spells.ensures ∙ c.if-spells.false)
