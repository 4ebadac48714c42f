use Rattle.std.proofs.Common.{◌∙◌}
use Rattle.counted_terms.proofs.TermNames.{first_at, first_none}
use Rattle.counted_terms.proofs.names.named_by_nodes.Goals as goal

pub returns-in-len1-up : goal.returns-in-len1-up
returns-in-len1-up c = c.named_by_node.ensures ∙ first_at c.args.nodes.now c.in-len1-up.len_at_least

pub returns-in_default : goal.returns-in_default
returns-in_default c = first_none c.args.nodes.now c.in_default.len_below
