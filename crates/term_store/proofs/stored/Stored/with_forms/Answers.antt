use Rattle.std.proofs.Common.{◌≡◌, ◌+◌, get_or, refl, rules, ap, sym, subst, ◌∙◌}
use Rattle.term_store.specs.declared.nodes.AtomNode.TheVariants.{Var}
use Rattle.pl_term.specs.Nodes.{tree}
use Rattle.std.specs.Option.{IfSome}
use Rattle.term_store.specs.Entering.{IsBlockOf}
use Rattle.term_store.specs.Nodes.{node_views}
use Rattle.term_store.specs.StoredTerms.{IsStored}
use Rattle.term_store.proofs.Renumbering.{numbered_more, numbered_stored, numbered_tree}
use Rattle.term_store.proofs.stored.Stored.with_forms.Goals as goal

pub loop-n-preserved : goal.loop-n-preserved
loop-n-preserved c =
    numbered_more c.args.nodes.now c.loop-n.n-index c.loop-n.met c.renumbered.new.met c.loop-n.all.items c.push.new.self.items c.loop-n.sum c.in_ok-sum.sum
    (get_or c.args.nodes.now c.loop-n.n-index (Var 0)) (Var 0) c.in_ok-m.m c.loop-n.invariant c.loop-n-test.true refl c.in_ok-m.ensures.met
    c.in_ok-m.ensures.renamed c.in_ok-m.ensures.below c.in_ok-sum.ensures c.in_ok-push.ensures.items

pub forms_of-requires : goal.forms_of-requires
forms_of-requires c =
    let total : c.in-Some.cells ≡ c.loop-n.sum + c.len-variables.result = search rules in
    numbered_stored c.requires.0 c.args.nodes.now c.requires.1 c.loop-n.n-index c.loop-n.met c.loop-n.all.items c.loop-n.sum c.loop-n.invariant c.loop-n-test.false
    c.len-variables.result c.in-Some.cells c.len-variables.ensures total

pub invariant_of-result : goal.invariant_of-result
invariant_of-result c =
    let total : c.in-Some.cells ≡ c.loop-n.sum + c.len-variables.result = search rules in
    let v = c.len-variables.result in
    let e = c.in_ok-forms-2.ensures.ok in
    let n = c.in_ok-forms.ensures.nodes in
    let stored =
    numbered_stored c.requires.0 c.args.nodes.now c.requires.1 c.loop-n.n-index c.loop-n.met c.loop-n.all.items c.loop-n.sum c.loop-n.invariant c.loop-n-test.false
    v c.in-Some.cells c.len-variables.ensures total in (
      subst (λ f. IsStored f.nodes.items v c.in-Some.cells) (sym e) (subst (λ ns. IsStored ns v c.in-Some.cells) (sym n) stored),
      subst (λ f. IfSome f.block (IsBlockOf v (tree (node_views f.nodes.items)))) (sym e)
          (subst (λ ns. IfSome c.in_ok-forms.forms.block (IsBlockOf v (tree (node_views ns)))) (sym n) c.in_ok-forms.ensures.block),
    )

pub returns : goal.returns
returns c =
    ap (λ f. tree (node_views f.nodes.items)) c.in_ok-forms-2.ensures.ok
    ∙ ap (λ ns. tree (node_views ns)) c.in_ok-forms.ensures.nodes
    ∙ numbered_tree c.requires.0 c.args.nodes.now c.requires.1 c.loop-n.n-index c.loop-n.met c.loop-n.all.items c.loop-n.sum c.loop-n.invariant c.loop-n-test.false
