use Rattle.std.proofs.Common.{rules}
use Rattle.pl_history.proofs.Moves.{allows_append}
use Rattle.pl_history.proofs.steps.append.Goals as goal

pub fetch_add-found-requires : goal.fetch_add-found-requires
fetch_add-found-requires g c = (
  search rules,
  search rules,
  allows_append
      c.args.words.now.shared.key
      _
      _
      g.N.Adds.entry
      _
      _
      c.meet-seat.result.me
      c.meet-seat.ensures.view
      c.requires.may
      c.requires.room,
)
