use Rattle.std.proofs.Common.{arith}
use Rattle.pl_sched.proofs.hub.first_turn.Goals as goal

pub new-requires : goal.new-requires
new-requires g c = c.requires.new (let low = c.if-number-le1.false in omega (arith, low))
