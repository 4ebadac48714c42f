use Rattle.shared_builtins.proofs.Sharing.{abolished, not_abolished}
use Rattle.shared_builtins.proofs.one.abolishes.Goals as goal

pub returns-in-Ok : goal.returns-in-Ok
returns-in-Ok c m n held = abolished m c.args.store.now c.args.term c.in-Ok.procedure (c.in-Ok.ensures m n held)

pub returns-in-Err : goal.returns-in-Err
returns-in-Err c m n held = not_abolished m c.args.store.now c.args.term c.in-Err.fault (c.in-Err.ensures m n held)
