use Rattle.shared_builtins.proofs.Sharing.{first_comes}
use Rattle.shared_builtins.proofs.one.asserts_first.Goals as goal

pub returns-clause-comes : goal.returns-clause-comes
returns-clause-comes c m tells held =
    first_comes m c.args.store.now c.args.term c.in_ok-given.given c.adds_first.result c.adds_first.ensures (c.in_ok-given.ensures.clause m tells held)
