use Rattle.std.proofs.Common.{ℕ, List, [], ◌∷◌, None, refl, sym, ap, subst, ◌∙◌, map, ◌++◌}
use Rattle.std.specs.Prelude.{IsSome, option_map}
use Rattle.std.specs.List.{All}
use Rattle.pl_model.specs.Requests as requests
use Rattle.atom_words.specs.Seats.{seen}
use Rattle.atom_table.specs.Naming.{names}
use Rattle.term_store.specs.NumberedNames.{names_of}
use Rattle.world_api.specs.Texts.{text_of}
use Rattle.world_api.specs.Visits.{optional_names}
use Rattle.world_api.specs.declared.visit.Visit.TheVariants.{CreateThread}
use Rattle.counted_terms.specs.CountedTerms.{said}
use Rattle.counted_terms.specs.Keeping.{keeper_view}
use Rattle.hub_threads.specs.Aliases.{last_of}
use Rattle.pl_hub.specs.Settling.{kind_of}
use Rattle.pl_hub.proofs.Held.{all_left, all_right}
use Rattle.pl_hub.proofs.Order.{thread_begins}
use Rattle.pl_hub.proofs.ThreadRows.{can_settle, shared_begun, thread_counts_of, threads_visit}
use Rattle.pl_hub.proofs.shared.Shared.create_thread_by.Goals as goal

pub create_thread-row-requires-clause-counts : goal.create_thread-row-requires-clause-counts
create_thread-row-requires-clause-counts g c = thread_counts_of c.self.invariant c.generation-generation.result c.generation-generation.ensures

pub create_thread-row-requires-clause-goal : goal.create_thread-row-requires-clause-goal
create_thread-row-requires-clause-goal g c = all_left (λ a. IsSome (names (seen c.args.atoms.now.seat) a)) (names_of c.args.goal) (c.args.aliases.items ++ optional_names names_of c.args.error) c.requires.held

pub create_thread-row-requires-clause-aliases : goal.create_thread-row-requires-clause-aliases
create_thread-row-requires-clause-aliases g c =
    let P = λ (a : ℕ). IsSome (names (seen c.args.atoms.now.seat) a) in
    subst (λ (l : List ℕ). All P l) (sym c.as_slice.ensures.value)
    (all_left P c.args.aliases.items (optional_names names_of c.args.error) (all_right P (names_of c.args.goal) (c.args.aliases.items ++ optional_names names_of c.args.error) c.requires.held))

pub create_thread-row-requires-clause-error : goal.create_thread-row-requires-clause-error
create_thread-row-requires-clause-error g c =
    let P = λ (a : ℕ). IsSome (names (seen c.args.atoms.now.seat) a) in
    all_right P c.args.aliases.items (optional_names names_of c.args.error) (all_right P (names_of c.args.goal) (c.args.aliases.items ++ optional_names names_of c.args.error) c.requires.held)

pub settle-requires-clause-can : goal.settle-requires-clause-can
settle-requires-clause-can g c =
    let f = c.self.inside.front in
    let n = names (seen c.args.atoms.now.seat) in
    let asks = λ (l : List ℕ). requests.create_thread (said n c.args.goal) (map (text_of n) l) (option_map (said n) c.args.error) in
    let q = asks c.as_slice.result.now in
    can_settle g.K.Naming.goals c.args.engine g.N.Updates.kind f c.args.self.now c.self.view_is q tt (c.requires.kind ∙ ap (λ (l : List ℕ). kind_of c.args.engine g.K.Naming.goals c.args.self.now.seen (asks l)) (sym c.as_slice.ensures.value))
    (seen c.create_thread-row.new.atoms.seat) (keeper_view c.create_thread-row.new.keeper) c.create_thread-row.new.queues c.create_thread-row.new.count c.create_thread-row.result
    (c.create_thread-row.ensures.says c.args.engine g.K.Naming.goals f.seen (sym c.generation-generation.ensures) c.self.invariant.threads)

pub invariant_of-self : goal.invariant_of-self
invariant_of-self g c =
    let f = c.self.inside.front in
    let n = names (seen c.args.atoms.now.seat) in
    let asks = λ (l : List ℕ). requests.create_thread (said n c.args.goal) (map (text_of n) l) (option_map (said n) c.args.error) in
    let q = asks c.as_slice.result.now in
    let last = last_of None (map (text_of n) c.as_slice.result.now) in
    shared_begun g.K.Naming.goals c.args.engine g.N.Updates.kind f c.args.self.now c.self.view_is q tt (c.requires.kind ∙ ap (λ (l : List ℕ). kind_of c.args.engine g.K.Naming.goals c.args.self.now.seen (asks l)) (sym c.as_slice.ensures.value))
    (seen c.create_thread-row.new.atoms.seat) (keeper_view c.create_thread-row.new.keeper) c.create_thread-row.new.queues c.create_thread-row.new.count c.create_thread-row.result
    (c.create_thread-row.ensures.says c.args.engine g.K.Naming.goals f.seen (sym c.generation-generation.ensures) c.self.invariant.threads)
    c.self.inside.count last (ap (λ (k : ℕ). (k, last) ∷ []) c.self.invariant.threads.number) c.create_thread-row.new.begun.items
    c.self.invariant c.create_thread-row.ensures.keeper refl c.generation-generation.result c.generation-generation.ensures
    c.create_thread-row.ensures.restored c.create_thread-row.ensures.below c.create_thread-row.ensures.goals c.create_thread-row.ensures.begun
    (thread_begins g.K.Naming.goals f.seen c.self.inside.count (sym c.self.invariant.threads.number) c.create_thread-row.result) c.settle.new.hub c.settle.ensures.hub

pub returns : goal.returns
returns g c =
    let f = c.self.inside.front in
    let n = names (seen c.args.atoms.now.seat) in
    let asks = λ (l : List ℕ). requests.create_thread (said n c.args.goal) (map (text_of n) l) (option_map (said n) c.args.error) in
    let q = asks c.as_slice.result.now in
    threads_visit g.K.Naming.goals c.args.engine g.N.Updates.kind f c.args.self.now c.self.view_is q tt (c.requires.kind ∙ ap (λ (l : List ℕ). kind_of c.args.engine g.K.Naming.goals c.args.self.now.seen (asks l)) (sym c.as_slice.ensures.value))
    (seen c.create_thread-row.new.atoms.seat) (keeper_view c.create_thread-row.new.keeper) c.create_thread-row.new.queues c.create_thread-row.new.count c.create_thread-row.result
    (c.create_thread-row.ensures.says c.args.engine g.K.Naming.goals f.seen (sym c.generation-generation.ensures) c.self.invariant.threads)
    g.K.Naming.history (seen c.args.atoms.now.seat) (CreateThread c.args.goal c.args.aliases c.args.error) (λ r m old before new x. x, λ r. tt)
    (ap asks c.as_slice.ensures.value) (λ z e. e ∙ ap asks (sym c.as_slice.ensures.value))
    c.args.front.now c.requires.front c.settle.result c.settle.new.front c.settle.new.hub c.settle.ensures.answer c.settle.ensures.front c.settle.ensures.hub
    c.settle.ensures.sees c.create_thread-row.ensures.named c.create_thread-row.ensures.holds c.create_thread-row.ensures.refusals c.create_thread-row.ensures.asked
