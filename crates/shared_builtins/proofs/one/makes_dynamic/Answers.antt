use Rattle.shared_builtins.proofs.Sharing.{dynamic_comes}
use Rattle.shared_builtins.proofs.one.makes_dynamic.Goals as goal

pub returns : goal.returns
returns c m n held =
    dynamic_comes m c.args.store.now c.args.term c.in_ok-indicated.indicated c.makes_all_dynamic.result c.makes_all_dynamic.ensures (c.in_ok-indicated.ensures m n held)
