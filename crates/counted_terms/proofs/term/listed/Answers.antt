use Rattle.std.proofs.Common.{ℕ, Bool, List, [], ◌∷◌, ◌||◌, get_or, sym, ap, ◌∙◌}
use Rattle.term_store.specs.declared.nodes.AtomNode.{AtomNode}
use Rattle.term_store.specs.declared.nodes.AtomNode.TheVariants.{Var}
use Rattle.counted_terms.specs.CountedTerms.{has_counted, slots_of}
use Rattle.counted_terms.proofs.Listing.{slots_next}
use Rattle.counted_terms.proofs.term.listed.Goals as goal

pub loop-node-preserved : goal.loop-node-preserved
loop-node-preserved c = let ns : List AtomNode = c.args.nodes.now in let i : ℕ = c.loop-node.node-index in record {
  listed = c.in_ok-add_node.ensures.listed;
  met = λ k. c.in_ok-add_node.ensures.met k ∙ (ap (λ (b : Bool). b || has_counted k (slots_of (get_or ns i (Var 0) ∷ []))) (c.loop-node.invariant.met k) ∙ sym (slots_next k ns i (Var 0) c.loop-node-test.true));
}
