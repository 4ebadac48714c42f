use Rattle.std.proofs.Common.{ℕ, refl, sym, subst}
use Rattle.std.specs.Prelude.{IsSome}
use Rattle.pl_model.specs.Requests as requests
use Rattle.atom_words.specs.Seats.{seen}
use Rattle.atom_table.specs.Naming.{names}
use Rattle.term_store.specs.NumberedNames.{names_of}
use Rattle.world_api.specs.declared.visit.Visit.TheVariants.{SendMessage}
use Rattle.counted_terms.specs.CountedTerms.{said}
use Rattle.counted_terms.specs.Keeping.{keeper_view}
use Rattle.hub_threads.specs.Weights.{IsBelow}
use Rattle.pl_hub.proofs.Held.{all_left, all_right}
use Rattle.pl_hub.proofs.ThreadRows.{can_settle, shared_then, thread_counts_of, threads_visit}
use Rattle.pl_hub.proofs.shared.Shared.send_message_by.Goals as goal

pub send_message-row-requires-clause-counts : goal.send_message-row-requires-clause-counts
send_message-row-requires-clause-counts g c = thread_counts_of c.self.invariant c.generation-generation.result c.generation-generation.ensures

pub send_message-row-requires-clause-queue : goal.send_message-row-requires-clause-queue
send_message-row-requires-clause-queue g c = all_left (λ a. IsSome (names (seen c.args.atoms.now.seat) a)) (names_of c.args.queue.now) (names_of c.args.message) c.requires.held

pub send_message-row-requires-clause-message : goal.send_message-row-requires-clause-message
send_message-row-requires-clause-message g c = all_right (λ a. IsSome (names (seen c.args.atoms.now.seat) a)) (names_of c.args.queue.now) (names_of c.args.message) c.requires.held

pub settle-requires-clause-can : goal.settle-requires-clause-can
settle-requires-clause-can g c =
    let f = c.self.inside.front in
    let n = names (seen c.args.atoms.now.seat) in
    let q = requests.send_message (said n c.args.queue.now) (said n c.args.message) in
    can_settle g.K.Naming.goals c.args.engine g.N.Updates.kind f c.args.self.now c.self.view_is q tt c.requires.kind
    (seen c.send_message-row.new.atoms.seat) (keeper_view c.send_message-row.new.keeper) c.send_message-row.new.queues c.self.inside.count c.send_message-row.result
    (c.send_message-row.ensures.says c.args.engine c.self.inside.count g.K.Naming.goals f.seen (sym c.generation-generation.ensures) c.self.invariant.threads)

pub invariant_of-self : goal.invariant_of-self
invariant_of-self g c =
    let f = c.self.inside.front in
    let n = names (seen c.args.atoms.now.seat) in
    let q = requests.send_message (said n c.args.queue.now) (said n c.args.message) in
    shared_then g.K.Naming.goals c.args.engine g.N.Updates.kind f c.args.self.now c.self.view_is q tt c.requires.kind
    (seen c.send_message-row.new.atoms.seat) (keeper_view c.send_message-row.new.keeper) c.send_message-row.new.queues c.self.inside.count c.send_message-row.result
    (c.send_message-row.ensures.says c.args.engine c.self.inside.count g.K.Naming.goals f.seen (sym c.generation-generation.ensures) c.self.invariant.threads)
    refl c.self.invariant c.send_message-row.ensures.keeper refl c.generation-generation.result c.generation-generation.ensures
    c.send_message-row.ensures.restored (c.send_message-row.ensures.below c.self.inside.count (subst (λ (x : ℕ). IsBelow c.self.inside.count x c.self.inside.queues) (sym c.generation-generation.ensures) c.self.invariant.below)) c.send_message-row.ensures.goals c.settle.new.hub c.settle.ensures.hub

pub returns : goal.returns
returns g c =
    let f = c.self.inside.front in
    let n = names (seen c.args.atoms.now.seat) in
    let q = requests.send_message (said n c.args.queue.now) (said n c.args.message) in
    threads_visit g.K.Naming.goals c.args.engine g.N.Updates.kind f c.args.self.now c.self.view_is q tt c.requires.kind
    (seen c.send_message-row.new.atoms.seat) (keeper_view c.send_message-row.new.keeper) c.send_message-row.new.queues c.self.inside.count c.send_message-row.result
    (c.send_message-row.ensures.says c.args.engine c.self.inside.count g.K.Naming.goals f.seen (sym c.generation-generation.ensures) c.self.invariant.threads)
    g.K.Naming.history (seen c.args.atoms.now.seat) (SendMessage c.args.queue.now c.args.message) (λ r n old before new x. x, λ r. tt) refl (λ z e. e)
    c.args.front.now c.requires.front c.settle.result c.settle.new.front c.settle.new.hub c.settle.ensures.answer c.settle.ensures.front c.settle.ensures.hub
    c.settle.ensures.sees c.send_message-row.ensures.named c.send_message-row.ensures.holds c.send_message-row.ensures.refusals c.send_message-row.ensures.asked
