use Rattle.std.proofs.Common.{refl, sym, subst, ◌∙◌}
use Rattle.pl_history.specs.Fronts.{FrontState}
use Rattle.pl_model.specs.History.{erase}
use Rattle.pl_model.specs.Requests as requests
use Rattle.pl_model.specs.Requests.{Request}
use Rattle.atom_words.specs.Seats.{seen}
use Rattle.atom_table.specs.Naming.{names, requests as texts}
use Rattle.world_api.specs.Texts.{text_of}
use Rattle.world_api.specs.declared.visit.Visit.TheVariants.{OwnName}
use Rattle.counted_terms.specs.Keeping.{keeper_view}
use Rattle.pl_hub.specs.Fronts.{IsOwn}
use Rattle.pl_hub.specs.Settling.{IsBehind}
use Rattle.pl_hub.specs.State.{IsShared}
use Rattle.pl_hub.specs.Visits.{IsVisit}
use Rattle.hub_threads.specs.Threads.{IsThreads}
use Rattle.pl_hub.proofs.AskedTexts.{own_asked}
use Rattle.pl_hub.proofs.ThreadRows.{reads_after, reads_can, reads_visit_asking}
use Rattle.pl_hub.proofs.shared.Shared.own_name.Goals as goal

pub settle-requires-clause-can : goal.settle-requires-clause-can
settle-requires-clause-can g c = reads_can (erase 0) c.tell.new.hub.seen c.own_name-row.result c.own_name-row.ensures.reads

pub invariant_of-self : goal.invariant_of-self
invariant_of-self g c =
    subst (λ (x : FrontState). IsShared g.K.NamesTable.atoms g.K.NamesTable.size g.K.Naming.history g.K.Naming.goals x c.self.inside.keeper c.self.inside.db c.self.inside.queues c.self.inside.count c.self.inside.begun.items)
    (sym (c.settle.ensures.hub ∙ reads_after c.args.engine (erase 0) c.own_name-row.result c.tell.new.hub c.own_name-row.ensures.reads ∙ c.tell.ensures.hub))
    c.self.invariant

pub returns : goal.returns
returns g c =
    let f = c.tell.new.hub in
    let m = c.tell.new.front in
    let v = seen c.args.atoms.now.seat in
    let w = seen c.own_name-row.new.atoms.seat in
    let k = keeper_view c.self.inside.keeper in
    let own : IsOwn g.K.Naming.history c.args.engine m = subst (IsOwn g.K.Naming.history c.args.engine) (sym c.tell.ensures.front) c.requires.front in
    let behind : IsBehind f.seen m =
    subst (λ (x : FrontState). IsBehind x.seen m) (sym c.tell.ensures.hub)
    (subst (λ (y : FrontState). IsBehind c.self.inside.front.seen y) (sym c.tell.ensures.front) (record { seen = c.tell.ensures.seen; told = c.tell.ensures.told })) in
    let is_threads = subst (λ (x : FrontState). IsThreads k c.self.inside.queues c.self.inside.count g.K.Naming.goals x.seen) (sym c.tell.ensures.hub) c.self.invariant.threads in
    subst (λ (x : FrontState). IsVisit g.K.Naming.history g.K.Naming.goals c.args.engine v w OwnName c.settle.result x c.settle.new.front c.args.self.now c.settle.new.hub) c.tell.ensures.front
    (reads_visit_asking g.K.Naming.goals c.args.engine (erase 0) f c.args.self.now (c.tell.ensures.hub ∙ c.self.view_is) requests.own_name tt w k c.self.inside.queues c.self.inside.count c.own_name-row.result c.own_name-row.ensures.reads
    (c.own_name-row.ensures.says k g.K.Naming.goals f.seen c.self.inside.count is_threads)
    g.K.Naming.history v OwnName (λ r n old before new x. x, λ r. tt) refl (λ z e. e) m own c.settle.result c.settle.new.front c.settle.new.hub c.settle.ensures.answer c.settle.ensures.front c.settle.ensures.hub
    c.settle.ensures.sees c.own_name-row.ensures.named c.own_name-row.ensures.holds c.own_name-row.ensures.refusals
    (own_asked g.K.Naming.history g.K.Naming.goals c.args.engine m own f.seen behind (text_of (names v)) k c.self.inside.queues c.self.inside.count is_threads (texts v) (texts w) c.own_name-row.ensures.asked))
