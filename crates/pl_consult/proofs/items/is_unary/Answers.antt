use Rattle.std.proofs.Common.{◌∙◌, ◌==◌, ap, sym, refl}
use Rattle.std.specs.Prelude.{◌&&◌, bytes_eq}
use Rattle.std.specs.Str.{chars}
use Rattle.pl_consult.proofs.BodiesNodes.{word-by}
use Rattle.pl_consult.proofs.TermNodes.{length-nodes}
use Rattle.pl_consult.proofs.ItemTerms.{is_unary-root}
use Rattle.pl_consult.proofs.items.is_unary.Goals as goal

pub bounds-nodes-0 : goal.bounds-nodes-0
bounds-nodes-0 c = length-nodes c.args.term.now _ c.nodes.ensures

pub returns-then-k-eq1 : goal.returns-then-k-eq1
returns-then-k-eq1 c =
    word-by c.is.result c.in-Comp.f _ _ c.is.ensures refl
    ∙ ap (λ k. (k == 1) && bytes_eq c.in-Comp.f (chars c.args.name.now)) (sym c.if-k-eq1.true)
    ∙ sym (is_unary-root (chars c.args.name.now) c.args.term.now _ _ _ c.nodes.ensures c.index-nodes-0.is c.in-Comp.is)
