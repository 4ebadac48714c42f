use Rattle.std.proofs.Common.{refl, sym}
use Rattle.std.specs.Prelude.{option_map}
use Rattle.pl_model.specs.Requests as requests
use Rattle.atom_words.specs.Seats.{seen}
use Rattle.atom_table.specs.Naming.{names}
use Rattle.atom_api.specs.Names.{Names}
use Rattle.std.proofs.Common.{ap, ◌∙◌}
use Rattle.world_api.specs.Texts.{text_of}
use Rattle.world_api.specs.declared.visit.Visit.TheVariants.{CreateQueue}
use Rattle.counted_terms.specs.Keeping.{keeper_view}
use Rattle.hub_threads.specs.Rows.{updates_in}
use Rattle.pl_hub.proofs.ThreadRows.{can_settle, nothing_stored, shared_then, threads_visit}
use Rattle.pl_hub.proofs.shared.Shared.create_queue_by.Goals as goal

pub settle-requires-clause-can : goal.settle-requires-clause-can
settle-requires-clause-can g c =
    let k = keeper_view c.self.inside.keeper in
    let f = c.self.inside.front in
    let q = requests.create_queue (option_map (text_of (names (seen c.args.atoms.now.seat))) c.args.alias) in
    can_settle g.K.Naming.goals c.args.engine g.N.Updates.kind f c.args.self.now c.self.view_is q tt c.requires.kind
    (seen c.create_queue-row.new.atoms.seat) k c.create_queue-row.new.queues c.create_queue-row.new.count c.create_queue-row.result
    (c.create_queue-row.ensures.says k c.args.engine g.K.Naming.goals f.seen (sym c.generation-generation.ensures) c.self.invariant.threads)

pub invariant_of-self : goal.invariant_of-self
invariant_of-self g c =
    let k = keeper_view c.self.inside.keeper in
    let f = c.self.inside.front in
    let q = requests.create_queue (option_map (text_of (names (seen c.args.atoms.now.seat))) c.args.alias) in
    shared_then g.K.Naming.goals c.args.engine g.N.Updates.kind f c.args.self.now c.self.view_is q tt c.requires.kind
    (seen c.create_queue-row.new.atoms.seat) k c.create_queue-row.new.queues c.create_queue-row.new.count c.create_queue-row.result
    (c.create_queue-row.ensures.says k c.args.engine g.K.Naming.goals f.seen (sym c.generation-generation.ensures) c.self.invariant.threads)
    refl c.self.invariant c.self.invariant.keeper_is refl c.generation-generation.result c.generation-generation.ensures
    (nothing_stored k c.self.inside.queues c.create_queue-row.new.queues c.generation-generation.result (updates_in c.create_queue-row.result) c.create_queue-row.ensures.stored)
    c.create_queue-row.ensures.below c.create_queue-row.ensures.goals c.settle.new.hub c.settle.ensures.hub

pub returns : goal.returns
returns g c =
    let k = keeper_view c.self.inside.keeper in
    let f = c.self.inside.front in
    let q = requests.create_queue (option_map (text_of (names (seen c.args.atoms.now.seat))) c.args.alias) in
    threads_visit g.K.Naming.goals c.args.engine g.N.Updates.kind f c.args.self.now c.self.view_is q tt c.requires.kind
    (seen c.create_queue-row.new.atoms.seat) k c.create_queue-row.new.queues c.create_queue-row.new.count c.create_queue-row.result
    (c.create_queue-row.ensures.says k c.args.engine g.K.Naming.goals f.seen (sym c.generation-generation.ensures) c.self.invariant.threads)
    g.K.Naming.history (seen c.args.atoms.now.seat) (CreateQueue c.args.alias) (λ r n old before new x. x, λ r. tt) refl (λ z e. e)
    c.args.front.now c.requires.front c.settle.result c.settle.new.front c.settle.new.hub c.settle.ensures.answer c.settle.ensures.front c.settle.ensures.hub
    c.settle.ensures.sees c.create_queue-row.ensures.named (λ a t e. ap (λ (m : Names). m a) c.create_queue-row.ensures.held ∙ e) c.create_queue-row.ensures.refusals c.create_queue-row.ensures.asked
