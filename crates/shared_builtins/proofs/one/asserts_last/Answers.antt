use Rattle.shared_builtins.proofs.Sharing.{last_comes}
use Rattle.shared_builtins.proofs.one.asserts_last.Goals as goal

pub returns-clause-comes : goal.returns-clause-comes
returns-clause-comes c m tells held =
    last_comes m c.args.store.now c.args.term c.in_ok-given.given c.adds_last.result c.adds_last.ensures (c.in_ok-given.ensures.clause m tells held)
