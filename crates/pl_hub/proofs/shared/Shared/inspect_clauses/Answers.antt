use Rattle.std.proofs.Common.{sym, subst, ◌∙◌}
use Rattle.std.specs.Prelude.{IsSome}
use Rattle.std.proofs.lemmas.List.Elements.{All-head, All-tail}
use Rattle.pl_model.specs.History.{erase}
use Rattle.pl_model.specs.Requests as requests
use Rattle.pl_history.specs.Fronts.{FrontState}
use Rattle.atom_words.specs.Seats.{seen}
use Rattle.atom_table.specs.Naming.{names}
use Rattle.term_store.specs.ArgumentKeys.{key_atoms}
use Rattle.world_api.specs.declared.visit.Visit.TheVariants.{Inspect}
use Rattle.pl_hub.specs.State.{IsShared}
use Rattle.pl_hub.proofs.ClauseRows.{clause_counts_of, goal_visit, reply_after, reply_can, shared_steady}
use Rattle.pl_hub.proofs.shared.Shared.inspect_clauses.Goals as goal

pub inspect_clauses-row-requires-clause-counts : goal.inspect_clauses-row-requires-clause-counts
inspect_clauses-row-requires-clause-counts g c = clause_counts_of c.self.invariant c.generation-generation.result c.generation-generation.ensures

pub inspect_clauses-row-requires-clause-name : goal.inspect_clauses-row-requires-clause-name
inspect_clauses-row-requires-clause-name g c = All-head (λ a. IsSome (names (seen c.args.atoms.now.seat) a)) c.args.procedure.name (key_atoms c.args.first) c.requires.held

pub inspect_clauses-row-requires-clause-key : goal.inspect_clauses-row-requires-clause-key
inspect_clauses-row-requires-clause-key g c = All-tail (λ a. IsSome (names (seen c.args.atoms.now.seat) a)) c.args.procedure.name (key_atoms c.args.first) c.requires.held

pub settle-requires-clause-can : goal.settle-requires-clause-can
settle-requires-clause-can g c = reply_can (erase 0) c.self.inside.front.seen c.inspect_clauses-row.result c.inspect_clauses-row.ensures.replies

pub invariant_of-self : goal.invariant_of-self
invariant_of-self g c =
    subst (λ (x : FrontState). IsShared g.K.NamesTable.atoms g.K.NamesTable.size g.K.Naming.history g.K.Naming.goals x c.inspect_clauses-row.new.keeper c.self.inside.db c.self.inside.queues c.self.inside.count c.self.inside.begun.items)
    (sym (c.settle.ensures.hub ∙ reply_after c.args.engine (erase 0) c.inspect_clauses-row.result c.self.inside.front c.inspect_clauses-row.ensures.replies))
    (shared_steady g.K.NamesTable.atoms g.K.NamesTable.size g.K.Naming.history g.K.Naming.goals c.self.inside.front c.self.inside.keeper c.inspect_clauses-row.new.keeper c.self.inside.db c.self.inside.queues c.self.inside.count c.self.inside.begun.items
    c.self.invariant c.is_sound.ensures c.inspect_clauses-row.ensures.keeper c.inspect_clauses-row.ensures.steady)

pub returns : goal.returns
returns g c =
    let f = c.self.inside.front in
    let v = seen c.args.atoms.now.seat in
    let w = seen c.inspect_clauses-row.new.atoms.seat in
    goal_visit g.K.Naming.goals c.args.engine (erase 0) f c.args.self.now c.self.view_is v w (Inspect c.args.procedure c.args.first) c.args.procedure c.args.first requests.inspected_clauses c.inspect_clauses-row.result c.inspect_clauses-row.ensures.replies
    (λ t. c.inspect_clauses-row.ensures.says g.K.Naming.goals c.args.engine f.seen t (sym c.generation-generation.ensures) c.self.invariant.database)
    g.K.Naming.history (λ r n old before new x. x, λ r. tt) (λ q asked. asked)
    c.args.front.now c.requires.front c.settle.result c.settle.new.front c.settle.new.hub c.settle.ensures.answer c.settle.ensures.front c.settle.ensures.hub
    c.settle.ensures.sees c.inspect_clauses-row.ensures.named c.inspect_clauses-row.ensures.quiet c.inspect_clauses-row.ensures.unrefused
