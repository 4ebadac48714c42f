use Rattle.shared_builtins.proofs.Sharing.{declared_comes}
use Rattle.shared_builtins.proofs.one.declares.Goals as goal

pub returns : goal.returns
returns c m n held =
    declared_comes m c.args.store.now c.args.term c.in_ok-indicated.indicated c.declares_all.result c.declares_all.ensures (c.in_ok-indicated.ensures m n held)
