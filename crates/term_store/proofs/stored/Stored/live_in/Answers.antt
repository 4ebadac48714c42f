use Rattle.std.proofs.Common.{subst}
use Rattle.term_store.specs.Live.{Gathers}
use Rattle.term_store.proofs.Naming.{spelled_atoms}
use Rattle.term_store.proofs.stored.Stored.live_in.Goals as goal

pub returns : goal.returns
returns c =
    subst (λ l. Gathers l c.args.live.now c.list_nodes.new.live) (spelled_atoms c.nodes.result.now c.args.self.now c.nodes.ensures.spelled) c.in_ok-list_nodes.ensures
