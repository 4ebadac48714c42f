use Rattle.std.proofs.Common.{ℕ, [], ◌∷◌, ◌≢◌, ◌<◌, length, refl, sym, subst}
use Rattle.std.specs.Prelude.{IsSome, ◌^◌}
use Rattle.std.proofs.lemmas.List.Elements.{All-head, All-tail}
use Rattle.pl_model.specs.History as entries
use Rattle.pl_model.specs.Requests as requests
use Rattle.atom_words.specs.Seats.{seen}
use Rattle.atom_table.specs.Naming.{names}
use Rattle.term_store.specs.ArgumentKeys.{key_atoms}
use Rattle.world_api.specs.Texts.{text_of}
use Rattle.world_api.specs.Visits.{proc_named}
use Rattle.world_api.specs.declared.visit.Visit.TheVariants.{Clear}
use Rattle.counted_terms.specs.Keeping.{keeper_view}
use Rattle.hub_database.specs.Database.{IsUpTo, clause_counts}
use Rattle.hub_database.specs.Rows.{generation_after}
use Rattle.pl_hub.proofs.ClauseRows.{clause_counts_of, generation_le, made_can, made_shared, made_visit, upto_of}
use Rattle.pl_hub.proofs.States.{steady_restores}
use Rattle.pl_hub.proofs.shared.Shared.clear_clauses_by.Goals as goal

pub clear_clauses-row-requires-clause-counts : goal.clear_clauses-row-requires-clause-counts
clear_clauses-row-requires-clause-counts g c = clause_counts_of c.self.invariant c.generation-generation.result c.generation-generation.ensures

pub clear_clauses-row-requires-clause-upto : goal.clear_clauses-row-requires-clause-upto
clear_clauses-row-requires-clause-upto g c = upto_of c.self.invariant c.generation-generation.result c.generation-generation.ensures

pub clear_clauses-row-requires-clause-name : goal.clear_clauses-row-requires-clause-name
clear_clauses-row-requires-clause-name g c = All-head (λ a. IsSome (names (seen c.args.atoms.now.seat) a)) c.args.procedure.name (key_atoms c.args.first) c.requires.held

pub clear_clauses-row-requires-clause-key : goal.clear_clauses-row-requires-clause-key
clear_clauses-row-requires-clause-key g c = All-tail (λ a. IsSome (names (seen c.args.atoms.now.seat) a)) c.args.procedure.name (key_atoms c.args.first) c.requires.held

pub settle-requires-clause-can : goal.settle-requires-clause-can
settle-requires-clause-can g c =
    let f = c.self.inside.front in
    let v = seen c.args.atoms.now.seat in
    let k = entries.set_dynamic (proc_named (text_of (names v)) c.args.procedure ∷ []) in
    let gen = c.generation-generation.ensures in
    made_can g.K.Naming.goals c.args.engine g.N.Updates.kind k c.requires.kind refl tt f c.args.self.now c.self.view_is c.clear_clauses-row.result c.clear_clauses-row.ensures.replies
    (subst (λ (x : ℕ). generation_after c.clear_clauses-row.result x ≢ x → x < 2 ^ 47) gen c.clear_clauses-row.ensures.early)

pub invariant_of-self : goal.invariant_of-self
invariant_of-self g c =
    let f = c.self.inside.front in
    let v = seen c.args.atoms.now.seat in
    let k = entries.set_dynamic (proc_named (text_of (names v)) c.args.procedure ∷ []) in
    let gen = c.generation-generation.ensures in
    made_shared g.K.Naming.goals c.args.engine g.N.Updates.kind k c.requires.kind refl tt f c.args.self.now c.self.view_is c.clear_clauses-row.result c.clear_clauses-row.ensures.replies
    (subst (λ (x : ℕ). generation_after c.clear_clauses-row.result x ≢ x → x < 2 ^ 47) gen c.clear_clauses-row.ensures.early)
    c.self.invariant c.is_sound.ensures c.clear_clauses-row.ensures.keeper
    (steady_restores (clause_counts c.self.inside.db) (clause_counts c.clear_clauses-row.new.db) (keeper_view c.self.inside.keeper) (keeper_view c.clear_clauses-row.new.keeper) (length f.seen) (generation_after c.clear_clauses-row.result (length f.seen)) c.clear_clauses-row.ensures.steady c.clear_clauses-row.ensures.weighs (generation_le c.clear_clauses-row.result (length f.seen)))
    (subst (λ (x : ℕ). IsUpTo (generation_after c.clear_clauses-row.result x) c.clear_clauses-row.new.db) gen c.clear_clauses-row.ensures.upto)
    c.clear_clauses-row.ensures.floor (c.clear_clauses-row.ensures.database g.K.Naming.goals c.args.engine f.seen (sym gen) c.self.invariant.database) c.settle.new.hub c.settle.ensures.hub

pub returns : goal.returns
returns g c =
    let f = c.self.inside.front in
    let v = seen c.args.atoms.now.seat in
    let k = entries.set_dynamic (proc_named (text_of (names v)) c.args.procedure ∷ []) in
    let gen = c.generation-generation.ensures in
    made_visit g.K.Naming.goals c.args.engine g.N.Updates.kind k c.requires.kind refl tt f c.args.self.now c.self.view_is c.clear_clauses-row.result c.clear_clauses-row.ensures.replies
    (subst (λ (x : ℕ). generation_after c.clear_clauses-row.result x ≢ x → x < 2 ^ 47) gen c.clear_clauses-row.ensures.early)
    v (seen c.clear_clauses-row.new.atoms.seat) (keeper_view c.clear_clauses-row.new.keeper) c.clear_clauses-row.new.db (Clear c.args.procedure c.args.first) c.args.procedure c.args.first requests.cleared_clauses
    (λ t. c.clear_clauses-row.ensures.says g.K.Naming.goals c.args.engine f.seen t (sym gen) c.self.invariant.database)
    g.K.Naming.history (λ r n old before new x. x, λ r. tt) (λ q asked. asked)
    c.args.front.now c.requires.front c.settle.result c.settle.new.front c.settle.new.hub c.settle.ensures.answer c.settle.ensures.front c.settle.ensures.hub
    c.settle.ensures.sees c.clear_clauses-row.ensures.named c.clear_clauses-row.ensures.quiet c.clear_clauses-row.ensures.unrefused

pub clear_clauses-row-requires-clause-has : goal.clear_clauses-row-requires-clause-has
clear_clauses-row-requires-clause-has g c = record { goals = g.K.Naming.goals; history = c.self.inside.front.seen; long = sym c.generation-generation.ensures; is = c.self.invariant.database }
