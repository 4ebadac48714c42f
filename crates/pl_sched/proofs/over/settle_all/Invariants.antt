use Rattle.std.specs.Prelude.{◌≡◌}
use Rattle.std.specs.List.{All}
use Rattle.pl_history.specs.Fronts.{FrontState}
use Rattle.pl_sched.proofs.over.settle_all.Given as goal

abbrev pub invariant-loop-ended : goal.invariant-loop-ended
invariant-loop-ended g l = record {
  same : l.shared ≡ l.initial.shared;
  all : All (λ (f : FrontState). f.seen ≡ l.initial.shared.seen) l.done.items;
}
