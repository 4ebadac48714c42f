use Rattle.std.proofs.Common.{◌+◌, zero, ap, subst, ◌∙◌}
use Rattle.pl_term.specs.Nodes.{tree}
use Rattle.pl_term.specs.Variables.{rename_by}
use Rattle.term_store.specs.Entering.{IsBlockOf}
use Rattle.term_store.specs.Nodes.{node_views}
use Rattle.term_store.proofs.Renumbering.{raised_numbered}
use Rattle.term_store.proofs.stored.forms_of.Goals as goal

pub returns-in_ok-block-clause-block : goal.returns-in_ok-block-clause-block
returns-in_ok-block-clause-block c =
    let t = tree (node_views c.args.nodes.items) in
    subst (λ u. IsBlockOf c.args.variables u c.in_ok-block.block)
    (ap (λ ns. rename_by (λ x. zero + x) (tree (node_views ns))) c.deref.ensures.value ∙ raised_numbered zero t c.requires.numbered ∙ c.requires.numbered)
    c.in_ok-block.ensures
