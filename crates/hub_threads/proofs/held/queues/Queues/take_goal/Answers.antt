use Rattle.std.proofs.Common.{◌≡◌, Some, None, ap, sym, subst, ◌∙◌, find}
use Rattle.std.specs.Option.{option_map}
use Rattle.hub_threads.specs.Held.{held, goal_of, without_goal, is_goal_of}
use Rattle.hub_threads.specs.Located.{IsAt}
use Rattle.hub_threads.proofs.Located.{located_item}
use Rattle.hub_threads.proofs.Searched.{none_out}
use Rattle.hub_threads.proofs.Changes.{goal_sound, goal_state}
use Rattle.hub_threads.proofs.held.queues.Queues.take_goal.Goals as goal

pub invariant_of-self : goal.invariant_of-self
invariant_of-self g c =
    let at = subst (λ l. IsAt (find (is_goal_of c.args.n) l) l c.in-Some.i) c.as_slice.ensures.value c.in-Some.ensures
    in goal_sound _ _ _ _ _ _ _ c.in-Some.i at c.remove.ensures.items c.self.invariant

pub returns-in-None-clause-goal : goal.returns-in-None-clause-goal
returns-in-None-clause-goal g c =
    sym (ap (goal_of c.args.n) (sym c.self.view_is)
    ∙ ap (λ l. option_map (λ x. x.1) (find (is_goal_of c.args.n) l)) (sym c.as_slice.ensures.value)
    ∙ ap (option_map (λ x. x.1)) c.in-None.ensures)

pub returns-in-None-clause-rest : goal.returns-in-None-clause-rest
returns-in-None-clause-rest g c =
    sym (ap (without_goal c.args.n) (sym c.self.view_is)
    ∙ ap (λ l. held c.self.inside.aliases.items c.self.inside.queues.items c.self.inside.threads.items c.self.inside.joined.items l)
    (none_out (is_goal_of c.args.n) c.self.inside.goals.items (subst (λ l. find (is_goal_of c.args.n) l ≡ None) c.as_slice.ensures.value c.in-None.ensures))
    ∙ c.self.view_is)

pub returns-in-Some-clause-goal : goal.returns-in-Some-clause-goal
returns-in-Some-clause-goal g c =
    let at = subst (λ l. IsAt (find (is_goal_of c.args.n) l) l c.in-Some.i) c.as_slice.ensures.value c.in-Some.ensures
    in sym (ap (goal_of c.args.n) (sym c.self.view_is)
    ∙ ap (option_map (λ x. x.1)) at.found_is
    ∙ ap (λ x. Some x.1) (sym (c.remove.ensures.value ∙ located_item _ _ c.in-Some.i _ at)))

pub returns-in-Some-clause-rest : goal.returns-in-Some-clause-rest
returns-in-Some-clause-rest g c =
    let at = subst (λ l. IsAt (find (is_goal_of c.args.n) l) l c.in-Some.i) c.as_slice.ensures.value c.in-Some.ensures
    in goal_state c.args.self.now _ _ _ _ _ _ c.in-Some.i c.args.n c.self.view_is at c.remove.ensures.items c.self.invariant
