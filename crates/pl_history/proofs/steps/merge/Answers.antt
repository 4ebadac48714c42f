use Rattle.std.proofs.Common.{rules}
use Rattle.pl_history.proofs.Moves.{joins_as_one, one_view}
use Rattle.pl_history.proofs.steps.merge.Goals as goal

pub join_seat-requires : goal.join_seat-requires
join_seat-requires c =
    let first = one_view c.args.front.now.views c.lift-seat.result.me.0 _ c.lift-seat.ensures.views c.requires.front_is in
    let second = one_view c.args.other.views c.lift-second.result.me.0 _ c.lift-second.ensures.views c.requires.other_is in (
      search rules,
      search rules,
      search rules,
      search rules,
      joins_as_one c.args.words.now.shared.key _ _ _ _ _ _ first second,
    )
