use Rattle.std.proofs.Common.{rules}
use Rattle.pl_history.proofs.Moves.{allows_visit}
use Rattle.pl_history.proofs.steps.visit.Goals as goal

pub load-found-requires : goal.load-found-requires
load-found-requires c = (
  search rules,
  search rules,
  allows_visit c.args.words.now.shared.key _ _ _ _ c.meet-seat.result.me c.meet-seat.ensures.view c.requires.runs,
)
