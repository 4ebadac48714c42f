use Rattle.std.proofs.Common.{ap, ◌∙◌}
use Rattle.term_store.specs.ArgumentKeys.{first_key, head_nodes}
use Rattle.term_store.proofs.KeptTerms.{key-head, some_nodes}
use Rattle.term_store.proofs.kept.StoredKept.key.Goals as goal

pub head-requires : goal.head-requires
head-requires c = some_nodes c.nodes.result.now c.args.self.now c.nodes.ensures.spelled

pub returns : goal.returns
returns c =
    c.first_argument.ensures ∙ ap first_key (c.head.ensures ∙ ap head_nodes c.nodes.ensures.spelled) ∙ key-head c.args.self.now
