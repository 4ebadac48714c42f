use Rattle.std.proofs.Common.{◌≡◌, ℕ, Some, length, refl, sym, ap, subst, ◌∙◌}
use Rattle.pl_history.specs.Fronts.{FrontState}
use Rattle.pl_model.specs.Requests as requests
use Rattle.pl_model.specs.Threads.{goal_alias}
use Rattle.atom_words.specs.Seats.{seen}
use Rattle.atom_table.specs.Naming.{names, requests as texts}
use Rattle.world_api.specs.Texts.{text_of}
use Rattle.world_api.specs.declared.visit.Visit.TheVariants.{StartGoal}
use Rattle.counted_terms.specs.CountedTerms.{said}
use Rattle.counted_terms.specs.Keeping.{keeper_view}
use Rattle.hub_threads.specs.Goals.{IsNextGoal}
use Rattle.hub_threads.specs.Threads.{IsThreads}
use Rattle.pl_hub.specs.Fronts.{IsOwn}
use Rattle.pl_hub.specs.Settling.{IsBehind}
use Rattle.pl_hub.specs.State.{IsShared}
use Rattle.pl_hub.specs.Visits.{IsVisit}
use Rattle.pl_hub.proofs.AskedTexts.{start_asked}
use Rattle.pl_hub.proofs.Order.{goal_begins, later_goal}
use Rattle.pl_hub.proofs.ThreadRows.{can_settle, shared_begun, thread_counts_of, threads_visit_asking}
use Rattle.pl_hub.proofs.shared.Shared.start_goal_by.Goals as goal

pub start_goal-row-requires-clause-counts : goal.start_goal-row-requires-clause-counts
start_goal-row-requires-clause-counts g c = thread_counts_of c.self.invariant c.tell-generation.result c.tell-generation.ensures.generation

pub settle-requires-clause-can : goal.settle-requires-clause-can
settle-requires-clause-can g c =
    let f = c.tell-generation.new.hub in
    let v = seen c.args.atoms.now.seat in
    let n = names v in
    let q = requests.start_goal c.args.number (said n c.args.goal) in
    let long : length f.seen ≡ c.tell-generation.result = ap (λ (x : FrontState). length x.seen) c.tell-generation.ensures.hub ∙ sym c.tell-generation.ensures.generation in
    let is_threads = subst (λ (x : FrontState). IsThreads (keeper_view c.self.inside.keeper) c.self.inside.queues c.self.inside.count g.K.Naming.goals x.seen) (sym c.tell-generation.ensures.hub) c.self.invariant.threads in
    can_settle g.K.Naming.goals c.args.engine g.N.Updates.kind f c.args.self.now (c.tell-generation.ensures.hub ∙ c.self.view_is) q tt c.requires.kind
    (seen c.start_goal-row.new.atoms.seat) (keeper_view c.start_goal-row.new.keeper) c.start_goal-row.new.queues c.start_goal-row.new.count c.start_goal-row.result
    (c.start_goal-row.ensures.says c.args.engine g.K.Naming.goals f.seen long is_threads)

pub invariant_of-self : goal.invariant_of-self
invariant_of-self g c =
    let f = c.tell-generation.new.hub in
    let v = seen c.args.atoms.now.seat in
    let n = names v in
    let q = requests.start_goal c.args.number (said n c.args.goal) in
    let long : length f.seen ≡ c.tell-generation.result = ap (λ (x : FrontState). length x.seen) c.tell-generation.ensures.hub ∙ sym c.tell-generation.ensures.generation in
    let is_threads = subst (λ (x : FrontState). IsThreads (keeper_view c.self.inside.keeper) c.self.inside.queues c.self.inside.count g.K.Naming.goals x.seen) (sym c.tell-generation.ensures.hub) c.self.invariant.threads in
    shared_begun g.K.Naming.goals c.args.engine g.N.Updates.kind f c.args.self.now (c.tell-generation.ensures.hub ∙ c.self.view_is) q tt c.requires.kind
    (seen c.start_goal-row.new.atoms.seat) (keeper_view c.start_goal-row.new.keeper) c.start_goal-row.new.queues c.start_goal-row.new.count c.start_goal-row.result
    (c.start_goal-row.ensures.says c.args.engine g.K.Naming.goals f.seen long is_threads)
    c.args.number (Some (goal_alias c.args.number)) refl c.start_goal-row.new.begun.items
    (subst (λ (x : FrontState). IsShared g.K.NamesTable.atoms g.K.NamesTable.size g.K.Naming.history g.K.Naming.goals x c.self.inside.keeper c.self.inside.db c.self.inside.queues c.self.inside.count c.self.inside.begun.items) (sym c.tell-generation.ensures.hub) c.self.invariant)
    c.start_goal-row.ensures.keeper refl c.tell-generation.result (sym long)
    c.start_goal-row.ensures.restored c.start_goal-row.ensures.below c.start_goal-row.ensures.goals c.start_goal-row.ensures.begun
    (goal_begins g.K.Naming.goals f.seen c.args.number c.start_goal-row.result
    (λ made. later_goal (keeper_view c.self.inside.keeper) c.self.inside.queues c.self.inside.count g.K.Naming.goals c.args.number f.seen is_threads
    (subst (λ (i : ℕ). IsNextGoal i c.args.number c.self.inside.queues) c.self.inside.commanded (c.start_goal-row.ensures.next made)))) c.settle.new.hub c.settle.ensures.hub

pub returns : goal.returns
returns g c =
    let f = c.tell-generation.new.hub in
    let v = seen c.args.atoms.now.seat in
    let n = names v in
    let q = requests.start_goal c.args.number (said n c.args.goal) in
    let long : length f.seen ≡ c.tell-generation.result = ap (λ (x : FrontState). length x.seen) c.tell-generation.ensures.hub ∙ sym c.tell-generation.ensures.generation in
    let is_threads = subst (λ (x : FrontState). IsThreads (keeper_view c.self.inside.keeper) c.self.inside.queues c.self.inside.count g.K.Naming.goals x.seen) (sym c.tell-generation.ensures.hub) c.self.invariant.threads in
    let m = c.tell-generation.new.front in
    let w = seen c.start_goal-row.new.atoms.seat in
    let own : IsOwn g.K.Naming.history c.args.engine m = subst (IsOwn g.K.Naming.history c.args.engine) (sym c.tell-generation.ensures.front) c.requires.front in
    let behind : IsBehind f.seen m =
    subst (λ (x : FrontState). IsBehind x.seen m) (sym c.tell-generation.ensures.hub)
    (subst (λ (y : FrontState). IsBehind c.self.inside.front.seen y) (sym c.tell-generation.ensures.front) (record { seen = c.tell-generation.ensures.seen; told = c.tell-generation.ensures.told })) in
    subst (λ (x : FrontState). IsVisit g.K.Naming.history g.K.Naming.goals c.args.engine v w (StartGoal c.args.number c.args.goal) c.settle.result x c.settle.new.front c.args.self.now c.settle.new.hub) c.tell-generation.ensures.front
    (threads_visit_asking g.K.Naming.goals c.args.engine g.N.Updates.kind f c.args.self.now (c.tell-generation.ensures.hub ∙ c.self.view_is) q tt c.requires.kind
    (seen c.start_goal-row.new.atoms.seat) (keeper_view c.start_goal-row.new.keeper) c.start_goal-row.new.queues c.start_goal-row.new.count c.start_goal-row.result
    (c.start_goal-row.ensures.says c.args.engine g.K.Naming.goals f.seen long is_threads)
    g.K.Naming.history v (StartGoal c.args.number c.args.goal) (λ r o old before new x. x, λ r. tt) refl (λ z e. e)
    m own c.settle.result c.settle.new.front c.settle.new.hub c.settle.ensures.answer c.settle.ensures.front c.settle.ensures.hub
    c.settle.ensures.sees c.start_goal-row.ensures.named c.start_goal-row.ensures.holds c.start_goal-row.ensures.refusals
    (start_asked g.K.Naming.history g.K.Naming.goals c.args.engine m own f.seen behind (text_of n) (keeper_view c.self.inside.keeper) c.self.inside.queues c.self.inside.count is_threads c.args.number c.args.goal (texts v) (texts w) c.start_goal-row.ensures.asked))
