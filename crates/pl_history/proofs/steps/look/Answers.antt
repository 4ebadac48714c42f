use Rattle.std.proofs.Common.{rules}
use Rattle.pl_history.proofs.Moves.{allows_look}
use Rattle.pl_history.proofs.steps.look.Goals as goal

pub load-found-requires : goal.load-found-requires
load-found-requires c = (
  search rules,
  search rules,
  allows_look c.args.words.now.shared.key _ _ _ _ c.meet-seat.result.me c.meet-seat.ensures.view,
)
