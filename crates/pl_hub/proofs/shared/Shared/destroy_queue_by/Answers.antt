use Rattle.std.proofs.Common.{ℕ, refl, sym, subst}
use Rattle.pl_model.specs.Requests as requests
use Rattle.atom_words.specs.Seats.{seen}
use Rattle.atom_table.specs.Naming.{names}
use Rattle.world_api.specs.declared.visit.Visit.TheVariants.{DestroyQueue}
use Rattle.counted_terms.specs.CountedTerms.{said}
use Rattle.counted_terms.specs.Keeping.{keeper_view}
use Rattle.hub_threads.specs.Weights.{IsBelow}
use Rattle.pl_hub.proofs.ThreadRows.{can_settle, shared_then, thread_counts_of, threads_visit}
use Rattle.pl_hub.proofs.shared.Shared.destroy_queue_by.Goals as goal

pub destroy_queue-row-requires-clause-counts : goal.destroy_queue-row-requires-clause-counts
destroy_queue-row-requires-clause-counts g c = thread_counts_of c.self.invariant c.generation-generation.result c.generation-generation.ensures

pub settle-requires-clause-can : goal.settle-requires-clause-can
settle-requires-clause-can g c =
    let f = c.self.inside.front in
    let n = names (seen c.args.atoms.now.seat) in
    let q = requests.destroy_queue (said n c.args.queue.now) in
    can_settle g.K.Naming.goals c.args.engine g.N.Updates.kind f c.args.self.now c.self.view_is q tt c.requires.kind
    (seen c.destroy_queue-row.new.atoms.seat) (keeper_view c.destroy_queue-row.new.keeper) c.destroy_queue-row.new.queues c.self.inside.count c.destroy_queue-row.result
    (c.destroy_queue-row.ensures.says c.args.engine c.self.inside.count g.K.Naming.goals f.seen (sym c.generation-generation.ensures) c.self.invariant.threads)

pub invariant_of-self : goal.invariant_of-self
invariant_of-self g c =
    let f = c.self.inside.front in
    let n = names (seen c.args.atoms.now.seat) in
    let q = requests.destroy_queue (said n c.args.queue.now) in
    shared_then g.K.Naming.goals c.args.engine g.N.Updates.kind f c.args.self.now c.self.view_is q tt c.requires.kind
    (seen c.destroy_queue-row.new.atoms.seat) (keeper_view c.destroy_queue-row.new.keeper) c.destroy_queue-row.new.queues c.self.inside.count c.destroy_queue-row.result
    (c.destroy_queue-row.ensures.says c.args.engine c.self.inside.count g.K.Naming.goals f.seen (sym c.generation-generation.ensures) c.self.invariant.threads)
    refl c.self.invariant c.destroy_queue-row.ensures.keeper refl c.generation-generation.result c.generation-generation.ensures
    c.destroy_queue-row.ensures.restored (c.destroy_queue-row.ensures.below c.self.inside.count (subst (λ (x : ℕ). IsBelow c.self.inside.count x c.self.inside.queues) (sym c.generation-generation.ensures) c.self.invariant.below)) c.destroy_queue-row.ensures.goals c.settle.new.hub c.settle.ensures.hub

pub returns : goal.returns
returns g c =
    let f = c.self.inside.front in
    let n = names (seen c.args.atoms.now.seat) in
    let q = requests.destroy_queue (said n c.args.queue.now) in
    threads_visit g.K.Naming.goals c.args.engine g.N.Updates.kind f c.args.self.now c.self.view_is q tt c.requires.kind
    (seen c.destroy_queue-row.new.atoms.seat) (keeper_view c.destroy_queue-row.new.keeper) c.destroy_queue-row.new.queues c.self.inside.count c.destroy_queue-row.result
    (c.destroy_queue-row.ensures.says c.args.engine c.self.inside.count g.K.Naming.goals f.seen (sym c.generation-generation.ensures) c.self.invariant.threads)
    g.K.Naming.history (seen c.args.atoms.now.seat) (DestroyQueue c.args.queue.now) (λ r m old before new x. x, λ r. tt) refl (λ z e. e)
    c.args.front.now c.requires.front c.settle.result c.settle.new.front c.settle.new.hub c.settle.ensures.answer c.settle.ensures.front c.settle.ensures.hub
    c.settle.ensures.sees c.destroy_queue-row.ensures.named c.destroy_queue-row.ensures.holds c.destroy_queue-row.ensures.refusals c.destroy_queue-row.ensures.asked
