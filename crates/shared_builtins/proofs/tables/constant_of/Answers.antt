use Rattle.std.proofs.Common.{◌∙◌}
use Rattle.shared_builtins.proofs.FlagLines.{spelled_constant, spelled_some}
use Rattle.shared_builtins.proofs.tables.constant_of.Goals as goal

pub bounds-nodes-0 : goal.bounds-nodes-0
bounds-nodes-0 c = spelled_some c.nodes-nodes.result.now c.args.term.now c.nodes-nodes.ensures.spelled

pub returns : goal.returns
returns c = c.constant_at.ensures ∙ spelled_constant c.nodes-nodes.result.now c.args.term.now _ c.nodes-nodes.ensures.spelled
