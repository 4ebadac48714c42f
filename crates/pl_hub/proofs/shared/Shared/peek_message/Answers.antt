use Rattle.std.proofs.Common.{Some, refl}
use Rattle.std.specs.Prelude.{IsSome, length}
use Rattle.pl_model.specs.Requests as requests
use Rattle.pl_model.specs.History.{erase}
use Rattle.atom_words.specs.Seats.{seen}
use Rattle.atom_table.specs.Naming.{names}
use Rattle.term_store.specs.NumberedNames.{names_of}
use Rattle.world_api.specs.declared.visit.Visit.TheVariants.{PeekMessage}
use Rattle.counted_terms.specs.CountedTerms.{said}
use Rattle.counted_terms.specs.Keeping.{keeper_view}
use Rattle.pl_hub.proofs.Held.{all_left, all_right}
use Rattle.pl_hub.proofs.ThreadRows.{reads_can, reads_shared, reads_visit, thread_counts_of}
use Rattle.pl_hub.proofs.shared.Shared.peek_message.Goals as goal

pub peek_message-row-requires-clause-counts : goal.peek_message-row-requires-clause-counts
peek_message-row-requires-clause-counts g c = (length c.self.inside.front.seen, thread_counts_of c.self.invariant (length c.self.inside.front.seen) refl)

pub peek_message-row-requires-clause-queue : goal.peek_message-row-requires-clause-queue
peek_message-row-requires-clause-queue g c = all_left (λ a. IsSome (names (seen c.args.atoms.now.seat) a)) (names_of c.args.queue.now) (names_of c.args.pattern.now) c.requires.held

pub peek_message-row-requires-clause-pattern : goal.peek_message-row-requires-clause-pattern
peek_message-row-requires-clause-pattern g c = all_right (λ a. IsSome (names (seen c.args.atoms.now.seat) a)) (names_of c.args.queue.now) (names_of c.args.pattern.now) c.requires.held

pub settle-requires-clause-can : goal.settle-requires-clause-can
settle-requires-clause-can g c = reads_can (erase 0) c.self.inside.front.seen c.peek_message-row.result c.peek_message-row.ensures.reads

pub invariant_of-self : goal.invariant_of-self
invariant_of-self g c =
    let f = c.self.inside.front in
    let n = names (seen c.args.atoms.now.seat) in
    let q = requests.peek_message (Some (said n c.args.queue.now)) (said n c.args.pattern.now) in
    reads_shared g.K.Naming.goals c.args.engine (erase 0) f c.args.self.now c.self.view_is q tt
    (seen c.peek_message-row.new.atoms.seat) (keeper_view c.peek_message-row.new.keeper) c.self.inside.queues c.self.inside.count c.peek_message-row.result c.peek_message-row.ensures.reads
    (c.peek_message-row.ensures.says c.args.engine c.self.inside.count g.K.Naming.goals f.seen c.self.invariant.threads)
    c.self.invariant c.peek_message-row.ensures.keeper refl (c.peek_message-row.ensures.restored (length f.seen)) c.self.invariant.below refl c.settle.new.hub c.settle.ensures.hub

pub returns : goal.returns
returns g c =
    let f = c.self.inside.front in
    let n = names (seen c.args.atoms.now.seat) in
    let q = requests.peek_message (Some (said n c.args.queue.now)) (said n c.args.pattern.now) in
    reads_visit g.K.Naming.goals c.args.engine (erase 0) f c.args.self.now c.self.view_is q tt
    (seen c.peek_message-row.new.atoms.seat) (keeper_view c.peek_message-row.new.keeper) c.self.inside.queues c.self.inside.count c.peek_message-row.result c.peek_message-row.ensures.reads
    (c.peek_message-row.ensures.says c.args.engine c.self.inside.count g.K.Naming.goals f.seen c.self.invariant.threads)
    g.K.Naming.history (seen c.args.atoms.now.seat) (PeekMessage (Some c.args.queue.now) c.args.pattern.now) (λ r n old before new x. x, λ r. tt) refl (λ z e. e)
    c.args.front.now c.requires.front c.settle.result c.settle.new.front c.settle.new.hub c.settle.ensures.answer c.settle.ensures.front c.settle.ensures.hub
    c.settle.ensures.sees c.peek_message-row.ensures.named c.peek_message-row.ensures.holds c.peek_message-row.ensures.refusals c.peek_message-row.ensures.asked
