use Rattle.std.proofs.Common.{◌≡◌, ◌+◌, zero, ap, subst, ◌∙◌}
use Rattle.std.proofs.lemmas.Result.{IfOk-weaker}
use Rattle.pl_term.specs.Variables.{rename_by}
use Rattle.pl_term.proofs.Spelled.{tree_spelled}
use Rattle.term_store.specs.Blocks.{part_of}
use Rattle.term_store.specs.Entering.{ClauseEntered}
use Rattle.term_store.specs.Nodes.{node_views}
use Rattle.term_store.proofs.Renumbering.{raised_numbered}
use Rattle.term_store.proofs.store.Store.enter_anew.Goals as goal

pub returns-clause-entered : goal.returns-clause-entered
returns-clause-entered c =
    let t = c.args.clause.now in
    let b = c.in_ok-block.block in
    let means : part_of b b.root ≡ t =
    c.in_ok-block.ensures.means ∙ ap (rename_by (λ x. zero + x)) (tree_spelled (node_views c.nodes.result.now) t c.nodes.ensures.spelled)
    ∙ raised_numbered zero t c.nodes.ensures.numbered ∙ c.nodes.ensures.numbered in
    IfOk-weaker c.enter_kept.result _ _ (λ r e. subst (λ u. ClauseEntered c.args.self.now c.args.goal c.args.from u r c.enter_kept.new.self) means e)
    c.enter_kept.ensures.entered
