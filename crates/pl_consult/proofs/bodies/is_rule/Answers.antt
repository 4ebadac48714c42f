use Rattle.std.proofs.Common.{◌∙◌, ◌==◌, ap, sym}
use Rattle.std.specs.Prelude.{◌&&◌, bytes_eq, codes}
use Rattle.pl_consult.proofs.WordTexts.{chars-neck}
use Rattle.pl_consult.proofs.BodiesNodes.{word-by, is_rule-root}
use Rattle.pl_consult.proofs.TermNodes.{length-nodes}
use Rattle.pl_consult.proofs.bodies.is_rule.Goals as goal

pub bounds-nodes-0 : goal.bounds-nodes-0
bounds-nodes-0 c = length-nodes c.args.term.now _ c.nodes.ensures

pub returns-then-k-eq2 : goal.returns-then-k-eq2
returns-then-k-eq2 c =
    word-by c.is.result c.in-Comp.f _ _ c.is.ensures chars-neck
    ∙ ap (λ k. (k == 2) && bytes_eq c.in-Comp.f (codes ":-")) (sym c.if-k-eq2.true)
    ∙ sym (is_rule-root c.args.term.now _ _ _ c.nodes.ensures c.index-nodes-0.is c.in-Comp.is)
