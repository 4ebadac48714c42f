use Rattle.std.proofs.Common.{rules, ap}
use Rattle.atomic_table.specs.Table.{Me}
use Rattle.pl_history.specs.Seats.{front_in_badge}
use Rattle.pl_history.specs.Steps.{View}
use Rattle.pl_history.proofs.Moves.{joins_beside, allows_inform, splits_at, one_view, two_of, seen_in}
use Rattle.pl_history.proofs.steps.inform.Goals as goal

pub join_seat-requires : goal.join_seat-requires
join_seat-requires c =
    let second = one_view c.args.second.now.views c.lift-other.result.me.0 _ c.lift-other.ensures.views c.requires.second_is in (
      search rules,
      search rules,
      search rules,
      search rules,
      joins_beside c.args.words.now.shared.key _ _ _ _ (ap (λ (v : View). v.hub) second),
    )

pub load-requires : goal.load-requires
load-requires c =
    let first = one_view c.args.first.now.views c.lift-seat.result.me.0 _ c.lift-seat.ensures.views c.requires.first_is in
    let second = one_view c.args.second.now.views c.lift-other.result.me.0 _ c.lift-other.ensures.views c.requires.second_is in (
      search rules,
      search rules,
      allows_inform
          c.args.words.now.shared.key
          _
          _
          (front_in_badge c.args.first.now.views)
          (front_in_badge c.args.second.now.views)
          c.join_seat.new.seat.me
          (two_of c.join_seat.new.seat.me _ _ _ _ _ c.join_seat.ensures.2 c.lift-seat.ensures.slots first second),
    )

pub split_seat-other-requires : goal.split_seat-other-requires
split_seat-other-requires c = (search rules, search rules, splits_at c.args.words.now.shared.key 1 _ c.load.new.seat.me.0)

pub returns-clause-seen : goal.returns-clause-seen
returns-clause-seen c =
    let first = one_view c.args.first.now.views c.lift-seat.result.me.0 _ c.lift-seat.ensures.views c.requires.first_is in
    let second = one_view c.args.second.now.views c.lift-other.result.me.0 _ c.lift-other.ensures.views c.requires.second_is in
    let is = two_of c.join_seat.new.seat.me _ _ _ _ _ c.join_seat.ensures.2 c.lift-seat.ensures.slots first second in
    λ le.
    seen_in
    c.join_seat.new.seat.me.0
    (front_in_badge c.args.first.now.views)
    (front_in_badge c.args.second.now.views)
    c.load.ensures.2.history
    (ap (λ (m : Me (Unit {0}) View). m.0) is)
    c.load.ensures.2.seen
    le
