use Rattle.std.proofs.Common.{◌∙◌, sym, ap}
use Rattle.term_store.specs.NumberedNames.{is_rule_term}
use Rattle.term_store.proofs.KeptTerms.{rule_begins, some_nodes}
use Rattle.term_store.proofs.stored.Stored.is_rule.Goals as goal

pub bounds-nodes-0 : goal.bounds-nodes-0
bounds-nodes-0 c = some_nodes c.nodes.result.now c.args.self.now c.nodes.ensures.spelled

pub returns-in-Some : goal.returns-in-Some
returns-in-Some c = c.is_apart.ensures ∙ sym c.in-Some.ensures.parts.rule_is ∙ ap is_rule_term c.in-Some.ensures.means

pub returns-in-None : goal.returns-in-None
returns-in-None c = c.is_rule.ensures ∙ rule_begins c.nodes.result.now _ c.args.self.now c.nodes.ensures.spelled
