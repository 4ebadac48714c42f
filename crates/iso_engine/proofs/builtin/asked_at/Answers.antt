use Rattle.std.proofs.Common.{refl, subst}
use Rattle.shared_builtins.specs.Goals.{IsPredicate}
use Rattle.iso_engine.proofs.Arms.{when_some}
use Rattle.iso_engine.proofs.builtin.asked_at.Goals as goal

pub returns : goal.returns
returns c =
    let name = c.args.name in
    let k = c.len.result in (
      refl,
      refl,
      refl,
      subst (λ n. IsPredicate name n c.in-Some.pred) c.len.ensures (when_some (IsPredicate name k) c.built_pred.result c.in-Some.pred c.built_pred.ensures.some c.in-Some.is),
    )
