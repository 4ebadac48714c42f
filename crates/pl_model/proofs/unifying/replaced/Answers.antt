use Rattle.std.proofs.Common.{◌∙◌, ◌++◌, ◌∷◌, [], cond, ap, sym, arith}
use Rattle.pl_model.specs.laws.UnifySides.{is_variable}
use Rattle.pl_model.proofs.UnifyPutIn.{put_in_more}
use Rattle.pl_model.proofs.unifying.replaced.Goals as goal

pub loop-node-preserved : goal.loop-node-preserved
loop-node-preserved c =
    c.in_ok-put_node.ensures
    ∙ ap (λ l. l ++ cond (is_variable c.args.variable c.node-item.result) c.args.value.now (c.node-item.result ∷ [])) c.loop-node.invariant
    ∙ sym (put_in_more c.args.variable c.args.value.now c.args.all.now c.loop-node.node-index c.node-item.result (omega arith) c.node-item.is)
