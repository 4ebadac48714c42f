use Rattle.std.proofs.Common.{ℕ, refl, sym, subst}
use Rattle.pl_model.specs.Requests as requests
use Rattle.atom_words.specs.Seats.{seen}
use Rattle.atom_table.specs.Naming.{names}
use Rattle.world_api.specs.declared.visit.Visit.TheVariants.{JoinThread}
use Rattle.counted_terms.specs.CountedTerms.{said}
use Rattle.counted_terms.specs.Keeping.{keeper_view}
use Rattle.hub_threads.specs.Weights.{IsBelow}
use Rattle.pl_hub.proofs.ThreadRows.{can_settle, shared_then, thread_counts_of, threads_visit}
use Rattle.pl_hub.proofs.shared.Shared.join_thread_by.Goals as goal

pub join_thread-row-requires-clause-counts : goal.join_thread-row-requires-clause-counts
join_thread-row-requires-clause-counts g c = thread_counts_of c.self.invariant c.generation-generation.result c.generation-generation.ensures

pub settle-requires-clause-can : goal.settle-requires-clause-can
settle-requires-clause-can g c =
    let f = c.self.inside.front in
    let n = names (seen c.args.atoms.now.seat) in
    let q = requests.join_thread (said n c.args.thread.now) in
    can_settle g.K.Naming.goals c.args.engine g.N.Updates.kind f c.args.self.now c.self.view_is q tt c.requires.kind
    (seen c.join_thread-row.new.atoms.seat) (keeper_view c.join_thread-row.new.keeper) c.join_thread-row.new.queues c.self.inside.count c.join_thread-row.result
    (c.join_thread-row.ensures.says c.self.inside.count g.K.Naming.goals f.seen (sym c.generation-generation.ensures) c.self.invariant.threads)

pub invariant_of-self : goal.invariant_of-self
invariant_of-self g c =
    let f = c.self.inside.front in
    let n = names (seen c.args.atoms.now.seat) in
    let q = requests.join_thread (said n c.args.thread.now) in
    shared_then g.K.Naming.goals c.args.engine g.N.Updates.kind f c.args.self.now c.self.view_is q tt c.requires.kind
    (seen c.join_thread-row.new.atoms.seat) (keeper_view c.join_thread-row.new.keeper) c.join_thread-row.new.queues c.self.inside.count c.join_thread-row.result
    (c.join_thread-row.ensures.says c.self.inside.count g.K.Naming.goals f.seen (sym c.generation-generation.ensures) c.self.invariant.threads)
    refl c.self.invariant c.join_thread-row.ensures.keeper refl c.generation-generation.result c.generation-generation.ensures
    c.join_thread-row.ensures.restored (c.join_thread-row.ensures.below c.self.inside.count (subst (λ (x : ℕ). IsBelow c.self.inside.count x c.self.inside.queues) (sym c.generation-generation.ensures) c.self.invariant.below)) c.join_thread-row.ensures.goals c.settle.new.hub c.settle.ensures.hub

pub returns : goal.returns
returns g c =
    let f = c.self.inside.front in
    let n = names (seen c.args.atoms.now.seat) in
    let q = requests.join_thread (said n c.args.thread.now) in
    threads_visit g.K.Naming.goals c.args.engine g.N.Updates.kind f c.args.self.now c.self.view_is q tt c.requires.kind
    (seen c.join_thread-row.new.atoms.seat) (keeper_view c.join_thread-row.new.keeper) c.join_thread-row.new.queues c.self.inside.count c.join_thread-row.result
    (c.join_thread-row.ensures.says c.self.inside.count g.K.Naming.goals f.seen (sym c.generation-generation.ensures) c.self.invariant.threads)
    g.K.Naming.history (seen c.args.atoms.now.seat) (JoinThread c.args.thread.now) (λ r m old before new x. x, λ r. tt) refl (λ z e. e)
    c.args.front.now c.requires.front c.settle.result c.settle.new.front c.settle.new.hub c.settle.ensures.answer c.settle.ensures.front c.settle.ensures.hub
    c.settle.ensures.sees c.join_thread-row.ensures.named c.join_thread-row.ensures.holds c.join_thread-row.ensures.refusals c.join_thread-row.ensures.asked
