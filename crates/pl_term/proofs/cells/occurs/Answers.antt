use Rattle.std.proofs.Common.{◌∙◌}
use Rattle.std.proofs.lemmas.Bool.{iff_false}
use Rattle.pl_term.proofs.Places.{occurs_step}
use Rattle.pl_term.proofs.cells.occurs.Goals as goal

pub loop-n-preserved : goal.loop-n-preserved
loop-n-preserved c =
    c.loop-n.invariant
    ∙ occurs_step
    c.args.x
    c.args.nodes.now
    c.loop-n.n-index
    c.n-item.result
    c.loop-n-test.true
    c.n-item.is
    (iff_false c.is_variable.ensures c.if-is_variable.false)
