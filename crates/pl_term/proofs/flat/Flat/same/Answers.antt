use Rattle.std.proofs.Common.{sym, ap, ◌∙◌}
use Rattle.pl_term.specs.Nodes.{nodes}
use Rattle.pl_term.proofs.NodeLemmas.{same_from_nodes}
use Rattle.pl_term.proofs.flat.Flat.same.Goals as goal

pub returns : goal.returns
returns c = (
  λ e. same_from_nodes
      c.args.self.now
      c.args.other.now
      (sym c.nodes.ensures ∙ c.same_nodes.ensures.0 e ∙ c.nodes-2.ensures),
  λ e. c.same_nodes.ensures.1 (c.nodes.ensures ∙ ap nodes e ∙ sym c.nodes-2.ensures),
)
