use Rattle.std.proofs.Common.{sym, ap, ◌∙◌}
use Rattle.pl_term.specs.NodeLists.{met_with}
use Rattle.pl_term.proofs.NodeLemmas.{met_more, met_all}
use Rattle.pl_term.proofs.flat.Flat.variables.Goals as goal

pub loop-n-preserved : goal.loop-n-preserved
loop-n-preserved c =
    c.in_ok-meet.ensures
    ∙ ap (met_with c.n-item.result) c.loop-n.invariant
    ∙ sym (met_more c.nodes-n-items.result.now c.loop-n.n-index c.n-item.result c.loop-n-test.true c.n-item.is)

pub returns : goal.returns
returns c =
    c.into_met.ensures
    ∙ met_all
    c.args.self.now
    c.nodes-n-items.result.now
    c.loop-n.n-index
    c.loop-n.met
    c.nodes-n-items.ensures
    c.loop-n-test.false
    c.loop-n.invariant
