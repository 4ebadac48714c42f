use Rattle.std.proofs.Common.{◌≡◌, zero, IfOk, subst, ap, ◌∙◌}
use Rattle.pl_term.specs.Variables.{rename}
use Rattle.pl_term.proofs.Spelled.{tree_spelled}
use Rattle.term_store.specs.Contents.{term_at}
use Rattle.term_store.specs.Nodes.{node_views}
use Rattle.term_store.proofs.store.Store.save.Goals as goal

pub returns : goal.returns
returns c =
    subst (λ t. IfOk c.from_nodes.result (λ s. s ≡ rename zero t))
    (tree_spelled (node_views c.deref.result.now) (term_at c.args.self.now c.args.place) (ap node_views c.deref.ensures.value ∙ c.in_ok-nodes.ensures))
    c.from_nodes.ensures
