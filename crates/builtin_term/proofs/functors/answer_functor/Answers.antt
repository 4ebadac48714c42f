use Rattle.std.proofs.Common.{codes}
use Rattle.world_builtins.specs.Naming.{IsHeldAt}
use Rattle.builtin_term.proofs.PartAnswers.{all_three, ok_weaker}
use Rattle.builtin_term.proofs.FixedNames.{functor_is}
use Rattle.builtin_term.proofs.functors.answer_functor.Goals as goal

pub returns-clause-row : goal.returns-clause-row
returns-clause-row c =
    let s = c.args.store.now in
    ok_weaker _ _ c.answer.result c.answer.ensures.row
    (λ r h m stands term name arity.
    h m (codes "functor") stands (all_three (IsHeldAt m s) c.args.term c.args.name c.args.arity term name arity) functor_is)
