use Rattle.std.proofs.Common.{rules, ap}
use Rattle.pl_history.specs.Steps.{View}
use Rattle.pl_history.proofs.Moves.{joins_beside, one_view}
use Rattle.pl_history.proofs.steps.meet.Goals as goal

pub join_seat-requires : goal.join_seat-requires
join_seat-requires c =
    let front = one_view c.args.front.now.views c.lift-other.result.me.0 _ c.lift-other.ensures.views c.requires.front_is in (
      search rules,
      search rules,
      search rules,
      search rules,
      joins_beside c.args.words.now.shared.key _ _ _ _ (ap (λ (v : View). v.hub) front),
    )
