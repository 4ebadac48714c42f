use Rattle.std.proofs.Common.{◌≡◌, List, ◌∷◌, ◌++◌, map, length, refl, sym, ap, subst, ◌∙◌}
use Rattle.pl_model.specs.History.{History}
use Rattle.pl_history.specs.Fronts.{AllTold, FrontState, Life, picked}
use Rattle.atom_words.specs.Seats.{seen}
use Rattle.atom_table.specs.Naming.{names}
use Rattle.hub_threads.specs.Held.{goal_numbers}
use Rattle.pl_hub.specs.Beginning.{HasBegun}
use Rattle.pl_hub.specs.declared.beginning.Begun.{Begun}
use Rattle.pl_hub.specs.Fronts.{idle}
use Rattle.pl_hub.proofs.Handing.{begins_in, carries_first, handed_shared, picked_first, without_first}
use Rattle.pl_hub.proofs.ThreadRows.{thread_counts_of}
use Rattle.pl_hub.proofs.shared.Shared.begin.Goals as goal

pub take_goal-requires-clause-counts : goal.take_goal-requires-clause-counts
take_goal-requires-clause-counts g c = (length c.self.inside.front.seen, thread_counts_of c.self.invariant (length c.self.inside.front.seen) refl)

pub hand-requires-clause-carried : goal.hand-requires-clause-carried
hand-requires-clause-carried g c =
    carries_first c.in-Some.number c.self.inside.front.lives (map idle (goal_numbers c.take_goal.new.queues.goals)) (c.self.invariant.waiting ∙ ap (map idle) c.in-Some.ensures.first)

-- NONE HAS BEGUN
pub invariant_of-self : goal.invariant_of-self
invariant_of-self g c =
    let f = c.self.inside.front in
    handed_shared c.self.invariant c.take_goal.ensures.keeper (c.take_goal.ensures.restored (length f.seen)) (c.take_goal.ensures.below c.self.inside.count (length f.seen) c.self.invariant.below)
    (c.take_goal.ensures.stands c.self.inside.count g.K.Naming.goals f.seen c.self.invariant.threads) f
    (ap (λ (ls : List Life). record f { lives = ls }) (c.self.invariant.waiting ∙ ap (λ q. map idle (goal_numbers q.goals)) (sym c.in-None.ensures.none.1)))

pub returns-in-None-clause-none : goal.returns-in-None-clause-none
returns-in-None-clause-none g c = (refl, c.self.view_is, sym (ap (λ (x : FrontState). x.lives) c.self.view_is) ∙ c.self.invariant.waiting ∙ ap (map idle) c.in-None.ensures.none.0)

-- ONE BEGINS
pub invariant_of-self-in-Some : goal.invariant_of-self-in-Some
invariant_of-self-in-Some g c =
    let f = c.self.inside.front in
    let n = c.in-Some.number in
    let rest = map idle (goal_numbers c.take_goal.new.queues.goals) in
    let was : f.lives ≡ idle n ∷ rest = c.self.invariant.waiting ∙ ap (map idle) c.in-Some.ensures.first in
    handed_shared c.self.invariant c.take_goal.ensures.keeper (c.take_goal.ensures.restored (length f.seen)) (c.take_goal.ensures.below c.self.inside.count (length f.seen) c.self.invariant.below)
    (c.take_goal.ensures.stands c.self.inside.count g.K.Naming.goals f.seen c.self.invariant.threads) c.look.new.hub
    (c.look.ensures.hub ∙ c.hand.ensures.hub ∙ ap (λ (ls : List Life). record f { lives = ls }) (without_first n f.lives rest was))

pub returns-in-Some-clause-begun : goal.returns-in-Some-clause-begun
returns-in-Some-clause-begun g c =
    let f = c.self.inside.front in
    let fr = c.args.front.now in
    let n = c.in-Some.number in
    let rest = map idle (goal_numbers c.take_goal.new.queues.goals) in
    let was : f.lives ≡ idle n ∷ rest = c.self.invariant.waiting ∙ ap (map idle) c.in-Some.ensures.first in
    let seen_is : c.hand.new.hub.seen ≡ f.seen = ap (λ (x : FrontState). x.seen) c.hand.ensures.hub in
    let own_is : picked n f.lives ++ fr.lives ≡ idle n ∷ fr.lives = ap (λ (ls : List Life). ls ++ fr.lives) (picked_first n f.lives rest was) in
    let b : Begun = record { number = n; goal = c.in-Some.goal } in
    subst (λ (x : FrontState). HasBegun g.K.Naming.history b (names (seen c.take_goal.new.atoms.seat)) fr c.look.new.front x c.look.new.hub) c.self.view_is
    (begins_in g.K.Naming.history b (names (seen c.take_goal.new.atoms.seat)) fr f rest c.requires.front was
    (subst (λ (h : History). AllTold h (idle n ∷ fr.lives)) seen_is
    (subst (λ (ls : List Life). AllTold c.hand.new.hub.seen ls) (ap (λ (x : FrontState). x.lives) c.hand.ensures.front ∙ own_is) c.look.ensures.told))
    (c.in-Some.ensures.goal c.self.inside.count g.K.Naming.goals f.seen c.self.invariant.threads)
    c.in-Some.ensures.named
    c.look.new.front c.look.new.hub
    (c.look.ensures.front
    ∙ ap (λ (x : FrontState). record x { seen = c.hand.new.hub.seen }) c.hand.ensures.front
    ∙ ap (λ (h : History). record fr { seen = h; lives = picked n f.lives ++ fr.lives }) seen_is
    ∙ ap (λ (ls : List Life). record fr { seen = f.seen; lives = ls }) own_is)
    (c.look.ensures.hub ∙ c.hand.ensures.hub ∙ ap (λ (ls : List Life). record f { lives = ls }) (without_first n f.lives rest was)))
