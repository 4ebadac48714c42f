use Rattle.std.proofs.Common.{◌-◌}
use Rattle.pl_model.specs.Unify.{unify}
use Rattle.pl_model.proofs.UnifyCode.{Unifying}
use Rattle.pl_model.proofs.unifying.unify.Given as goal

abbrev pub invariant-loop-turn : goal.invariant-loop-turn
invariant-loop-turn l = Unifying l.bindings.items l.left l.right (l.turns - l._turn) (unify l.a l.b)
