use Rattle.std.proofs.Common.{rules}
use Rattle.pl_history.proofs.Moves.{allows_same, once_with_hub}
use Rattle.pl_history.proofs.steps.compare_with_hub.Goals as goal

pub load-requires : goal.load-requires
load-requires c = (
  search rules,
  search rules,
  allows_same c.args.words.now.shared.key _ _ c.meet-seat.result.me,
)

pub returns-clause-once : goal.returns-clause-once
returns-clause-once c = λ e. once_with_hub c.meet-seat.result.me _ _ e c.meet-seat.ensures.view (c.load.ensures.2.once e)
