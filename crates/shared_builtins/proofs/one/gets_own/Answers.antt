use Rattle.shared_builtins.proofs.Sharing.{own_got}
use Rattle.shared_builtins.proofs.one.gets_own.Goals as goal

pub returns : goal.returns
returns c m n held = own_got m c.args.store.now c.args.term c.in_ok-pattern.pattern (c.in_ok-pattern.ensures m n held)
