use Rattle.std.proofs.Common.{Some, ◌∷◌, sym, ap, ◌∙◌}
use Rattle.pl_term.specs.Tree.{Tree}
use Rattle.counted_terms.specs.Keeping.{keeper_view}
use Rattle.hub_threads.specs.Held.{Held, goal_numbers}
use Rattle.hub_threads.proofs.HandedGoals.{first_kept, first_left, goal_below, goal_counted, goal_restores, goal_stands}
use Rattle.hub_threads.proofs.goals.take_goal.Goals as goal

-- THE FIRST IS KEPT
pub unreachable-requires : goal.unreachable-requires
unreachable-requires g c = first_kept c.in_ok-number.number c.args.queues.now (sym c.in_ok-number.ensures) (sym c.in-None.ensures.goal)

-- IT IS HANDED OVER
pub hand_over-requires-clause-counted : goal.hand_over-requires-clause-counted
hand_over-requires-clause-counted g c =
    goal_counted c.args.queues.now c.take_goal.new.self c.in_ok-number.number c.in-Some.goal c.is_sound.ensures (sym c.in-Some.ensures.goal) c.in-Some.ensures.rest (keeper_view c.args.keeper.now) c.requires.counts.0 c.requires.counts.1

pub returns-clause-restored : goal.returns-clause-restored
returns-clause-restored g c = λ n.
    goal_restores c.args.queues.now c.take_goal.new.self c.in_ok-number.number c.in-Some.goal c.is_sound.ensures (sym c.in-Some.ensures.goal) c.in-Some.ensures.rest (keeper_view c.args.keeper.now) (keeper_view c.hand_over.new.keeper) c.hand_over.ensures.others c.hand_over.ensures.counts n

pub returns-clause-below : goal.returns-clause-below
returns-clause-below g c = λ count k below.
    goal_below c.args.queues.now c.take_goal.new.self c.in_ok-number.number c.in-Some.goal c.is_sound.ensures (sym c.in-Some.ensures.goal) c.in-Some.ensures.rest count k below

pub returns-clause-first : goal.returns-clause-first
returns-clause-first g c =
    first_left c.in_ok-number.number c.args.queues.now c.is_sound.ensures (sym c.in_ok-number.ensures)
    ∙ ap (λ (q : Held Tree). c.in_ok-number.number ∷ goal_numbers q.goals) (sym c.in-Some.ensures.rest)

pub returns-clause-goal : goal.returns-clause-goal
returns-clause-goal g c = λ count goals h stands.
    stands.waiting c.in_ok-number.number c.in-Some.goal (sym c.in-Some.ensures.goal) ∙ ap Some (sym c.hand_over.ensures.says)

pub returns-clause-stands : goal.returns-clause-stands
returns-clause-stands g c = λ count goals h stands.
    goal_stands c.args.queues.now c.take_goal.new.self c.in_ok-number.number c.in-Some.goal c.is_sound.ensures (sym c.in-Some.ensures.goal) c.in-Some.ensures.rest (keeper_view c.args.keeper.now) (keeper_view c.hand_over.new.keeper) c.hand_over.ensures.others c.hand_over.ensures.counts
    c.requires.counts.0 c.requires.counts.1 count goals h c.are_sound.ensures stands
