use Rattle.std.proofs.Common.{rules}
use Rattle.pl_history.proofs.Moves.{allows_nothing}
use Rattle.pl_history.proofs.steps.tell.Goals as goal

pub load-found-requires : goal.load-found-requires
load-found-requires c = (
  search rules,
  search rules,
  allows_nothing c.args.words.now.shared.key _ _ _ _ c.meet-seat.result.me c.meet-seat.ensures.view,
)
