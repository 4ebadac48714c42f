use Rattle.std.proofs.Common.{rules, ap}
use Rattle.atomic_table.specs.Table.{Me}
use Rattle.pl_history.specs.Steps.{View}
use Rattle.pl_history.proofs.Moves.{splits_hand}
use Rattle.pl_history.proofs.steps.hand.Goals as goal

pub split_seat-other-requires : goal.split_seat-other-requires
split_seat-other-requires g c = (
  search rules,
  search rules,
  splits_hand
      c.args.words.now.shared.key
      g.N.Names.engine
      _
      c.meet-seat.result.me.0
      _
      _
      (ap (λ (m : Me (Unit {0}) View). m.0) c.meet-seat.ensures.view)
      c.requires.carried
      c.requires.over,
)
