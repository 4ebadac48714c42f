use Rattle.std.proofs.Common.{[]}
use Rattle.std.specs.List.{All}
use Rattle.builtin_arithmetic.specs.declared.steps.Step.TheVariants.{Visit}
use Rattle.builtin_arithmetic.specs.Steps.{IsPendingIn, IsStepIn, Leads}
use Rattle.builtin_arithmetic.proofs.evaluation.value_at.Given as goal

abbrev pub invariant-loop : goal.invariant-loop
invariant-loop l =
    record {
      inside : IsStepIn l.store l.step;
      stack : All (IsPendingIn l.store) l.stack.items;
      leads : Leads l.store [] (Visit l.fn.place) l.stack.items l.step;
    }
