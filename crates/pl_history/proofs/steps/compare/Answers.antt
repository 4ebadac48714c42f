use Rattle.std.proofs.Common.{rules, ap}
use Rattle.pl_history.specs.Steps.{View}
use Rattle.pl_history.proofs.Moves.{joins_beside, allows_same, splits_at, one_view, once_of}
use Rattle.pl_history.proofs.steps.compare.Goals as goal

pub join_seat-requires : goal.join_seat-requires
join_seat-requires c =
    let second = one_view c.args.second.now.views c.lift-other.result.me.0 _ c.lift-other.ensures.views c.requires.second_is in (
      search rules,
      search rules,
      search rules,
      search rules,
      joins_beside c.args.words.now.shared.key _ _ _ _ (ap (λ (v : View). v.hub) second),
    )

pub load-requires : goal.load-requires
load-requires c = (
  search rules,
  search rules,
  allows_same c.args.words.now.shared.key _ _ c.join_seat.new.seat.me,
)

pub split_seat-other-requires : goal.split_seat-other-requires
split_seat-other-requires c = (
  search rules,
  search rules,
  splits_at c.args.words.now.shared.key 1 _ c.load.new.seat.me.0,
)

pub returns-clause-once : goal.returns-clause-once
returns-clause-once c =
    let first = one_view c.args.first.now.views c.lift-seat.result.me.0 _ c.lift-seat.ensures.views c.requires.first_is in
    let second = one_view c.args.second.now.views c.lift-other.result.me.0 _ c.lift-other.ensures.views c.requires.second_is in
    λ e. once_of c.join_seat.new.seat.me _ _ _ _ _ e c.join_seat.ensures.2 first second (c.load.ensures.2.once e)
