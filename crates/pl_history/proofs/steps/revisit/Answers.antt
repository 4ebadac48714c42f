use Rattle.std.proofs.Common.{rules}
use Rattle.pl_history.specs.Seats.{front_in_badge}
use Rattle.pl_history.proofs.Moves.{allows_revisit, me_alone}
use Rattle.pl_history.proofs.steps.revisit.Goals as goal

pub load-found-requires : goal.load-found-requires
load-found-requires c =
    let p = front_in_badge c.args.front.now.views in
    let alone = me_alone c.lift-seat.result.me _ p c.lift-seat.ensures.views c.lift-seat.ensures.slots c.requires.front_is in (
      search rules,
      search rules,
      allows_revisit c.args.words.now.shared.key _ _ p c.lift-seat.result.me alone c.requires.runs,
    )
