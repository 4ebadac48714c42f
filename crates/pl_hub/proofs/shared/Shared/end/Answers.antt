use Rattle.std.proofs.Common.{ℕ, refl, sym, subst}
use Rattle.pl_history.specs.Fronts.{FrontState}
use Rattle.pl_model.specs.History.{finish}
use Rattle.hub_threads.specs.Weights.{IsBelow}
use Rattle.pl_hub.specs.Ending.{IsEnded}
use Rattle.pl_hub.proofs.Ended.{ended, ended_shared, undone_shared}
use Rattle.pl_hub.proofs.ThreadRows.{thread_counts_of}
use Rattle.pl_hub.proofs.shared.Shared.end.Goals as goal

pub end_thread-ended-requires-clause-counts : goal.end_thread-ended-requires-clause-counts
end_thread-ended-requires-clause-counts g c = thread_counts_of c.self.invariant c.generation-generation.result c.generation-generation.ensures

pub invariant_of-self : goal.invariant_of-self
invariant_of-self g c =
    undone_shared g.K.NamesTable.atoms g.K.NamesTable.size g.K.Naming.history g.K.Naming.goals c.self.inside.front c.self.inside.keeper c.end_thread-ended.new.keeper c.self.inside.db c.self.inside.queues c.end_thread-ended.new.queues c.self.inside.count c.self.inside.begun.items
    c.self.invariant c.in-Err.ensures.keeper c.generation-generation.result c.generation-generation.ensures c.in-Err.ensures.unchanged c.in-Err.ensures.undone
    (c.in-Err.ensures.failed c.self.inside.count g.K.Naming.goals c.self.inside.front.seen c.self.invariant.threads)

pub invariant_of-self-in-Ok : goal.invariant_of-self-in-Ok
invariant_of-self-in-Ok g c =
    let how = g.W.ShowsHow.how c.args.how.now in
    let steps = g.S.ShowsSteps.steps c.args.run.now in
    ended_shared g.K.NamesTable.atoms g.K.NamesTable.size g.K.Naming.history g.K.Naming.goals c.self.inside.front c.self.inside.keeper c.end_thread-ended.new.keeper c.self.inside.db c.self.inside.queues c.end_thread-ended.new.queues c.self.inside.count c.self.inside.begun.items
    c.self.invariant c.in-Ok.ensures.keeper c.args.engine (finish how steps) tt c.generation-generation.result c.generation-generation.ensures c.in-Ok.ensures.restored
    (c.in-Ok.ensures.below c.self.inside.count (subst (λ (x : ℕ). IsBelow c.self.inside.count x c.self.inside.queues) (sym c.generation-generation.ensures) c.self.invariant.below))
    (c.in-Ok.ensures.ended how steps c.self.inside.count g.K.Naming.goals c.self.inside.front.seen (sym c.generation-generation.ensures) c.self.invariant.threads c.requires.status)
    c.end_thread-ended.ensures.goals refl c.close.new.hub c.close.ensures.hub

pub returns-in-Ok-clause-ended : goal.returns-in-Ok-clause-ended
returns-in-Ok-clause-ended g c =
    let k = finish (g.W.ShowsHow.how c.args.how.now) (g.S.ShowsSteps.steps c.args.run.now) in
    subst (λ (x : FrontState). IsEnded g.K.Naming.goals c.args.engine k c.args.front.now c.close.new.front x c.close.new.hub) c.self.view_is
    (ended g.K.Naming.history g.K.Naming.goals c.args.engine k c.args.front.now c.close.new.front c.self.inside.front c.close.new.hub c.requires.front refl c.close.ensures.sees c.close.ensures.front c.close.ensures.hub)
