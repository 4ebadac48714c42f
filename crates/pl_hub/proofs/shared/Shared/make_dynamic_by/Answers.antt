use Rattle.std.proofs.Common.{List, refl, sym, ap, subst, ◌∙◌, map}
use Rattle.std.specs.Prelude.{IsSome}
use Rattle.std.specs.List.{All}
use Rattle.pl_model.specs.History as entries
use Rattle.pl_model.specs.Requests as requests
use Rattle.atom_words.specs.Seats.{seen}
use Rattle.atom_table.specs.Naming.{names}
use Rattle.world_api.specs.Texts.{text_of}
use Rattle.world_api.specs.Visits.{proc_named}
use Rattle.world_api.specs.declared.visit.Visit.TheVariants.{MakeDynamic}
use Rattle.counted_terms.specs.Keeping.{keeper_view}
use Rattle.hub_database.specs.Database.{clause_counts}
use Rattle.hub_database.specs.Rows.{generation_after}
use Rattle.hub_database.proofs.Deciding.{steady_same}
use Rattle.pl_hub.proofs.ClauseRows.{changes_can, changes_shared, changes_visit, generation_le, upto_of}
use Rattle.pl_hub.proofs.States.{steady_restores}
use Rattle.world_api.specs.declared.visit.Procedure.{Procedure}
use Rattle.pl_hub.proofs.Held.{all_mapped}
use Rattle.pl_hub.proofs.shared.Shared.make_dynamic_by.Goals as goal

pub make_dynamic-row-requires-clause-upto : goal.make_dynamic-row-requires-clause-upto
make_dynamic-row-requires-clause-upto g c = upto_of c.self.invariant c.generation-generation.result c.generation-generation.ensures

pub make_dynamic-row-requires-clause-held : goal.make_dynamic-row-requires-clause-held
make_dynamic-row-requires-clause-held g c =
    subst (λ (l : List Procedure). All (λ (p : Procedure). IsSome (names (seen c.args.atoms.now.seat) p.name)) l) (sym c.as_slice.ensures.value)
    (all_mapped (λ (p : Procedure). p.name) (λ a. IsSome (names (seen c.args.atoms.now.seat) a)) c.args.procedures.items c.requires.held)

pub settle-requires-clause-can : goal.settle-requires-clause-can
settle-requires-clause-can g c =
    let f = c.self.inside.front in
    let n = names (seen c.args.atoms.now.seat) in
    let q = requests.make_dynamic (map (proc_named (text_of n)) c.as_slice.result.now) in
    let k = entries.set_dynamic (map (proc_named (text_of n)) c.as_slice.result.now) in
    let l = keeper_view c.self.inside.keeper in
    changes_can g.K.Naming.goals c.args.engine g.N.Updates.kind k (c.requires.kind ∙ ap (λ (l : List Procedure). entries.set_dynamic (map (proc_named (text_of n)) l)) (sym c.as_slice.ensures.value)) refl tt f c.args.self.now c.self.view_is q
    (seen c.make_dynamic-row.new.atoms.seat) l c.make_dynamic-row.new.db c.make_dynamic-row.result
    (c.make_dynamic-row.ensures.says l g.K.Naming.goals c.args.engine f.seen (sym c.generation-generation.ensures) c.self.invariant.database)

pub invariant_of-self : goal.invariant_of-self
invariant_of-self g c =
    let f = c.self.inside.front in
    let n = names (seen c.args.atoms.now.seat) in
    let q = requests.make_dynamic (map (proc_named (text_of n)) c.as_slice.result.now) in
    let k = entries.set_dynamic (map (proc_named (text_of n)) c.as_slice.result.now) in
    let l = keeper_view c.self.inside.keeper in
    changes_shared g.K.Naming.goals c.args.engine g.N.Updates.kind k (c.requires.kind ∙ ap (λ (l : List Procedure). entries.set_dynamic (map (proc_named (text_of n)) l)) (sym c.as_slice.ensures.value)) refl tt f c.args.self.now c.self.view_is q
    (seen c.make_dynamic-row.new.atoms.seat) l c.make_dynamic-row.new.db c.make_dynamic-row.result
    (c.make_dynamic-row.ensures.says l g.K.Naming.goals c.args.engine f.seen (sym c.generation-generation.ensures) c.self.invariant.database)
    c.self.invariant c.is_sound.ensures c.self.invariant.keeper_is refl c.generation-generation.result c.generation-generation.ensures
    (steady_restores (clause_counts c.self.inside.db) (clause_counts c.make_dynamic-row.new.db) l l c.generation-generation.result (generation_after c.make_dynamic-row.result c.generation-generation.result) (steady_same l) c.make_dynamic-row.ensures.weighs (generation_le c.make_dynamic-row.result c.generation-generation.result))
    c.make_dynamic-row.ensures.upto c.make_dynamic-row.ensures.floor c.settle.new.hub c.settle.ensures.hub

pub returns : goal.returns
returns g c =
    let f = c.self.inside.front in
    let n = names (seen c.args.atoms.now.seat) in
    let q = requests.make_dynamic (map (proc_named (text_of n)) c.as_slice.result.now) in
    let k = entries.set_dynamic (map (proc_named (text_of n)) c.as_slice.result.now) in
    let l = keeper_view c.self.inside.keeper in
    changes_visit g.K.Naming.goals c.args.engine g.N.Updates.kind k (c.requires.kind ∙ ap (λ (l : List Procedure). entries.set_dynamic (map (proc_named (text_of n)) l)) (sym c.as_slice.ensures.value)) refl tt f c.args.self.now c.self.view_is q
    (seen c.make_dynamic-row.new.atoms.seat) l c.make_dynamic-row.new.db c.make_dynamic-row.result
    (c.make_dynamic-row.ensures.says l g.K.Naming.goals c.args.engine f.seen (sym c.generation-generation.ensures) c.self.invariant.database)
    g.K.Naming.history (seen c.args.atoms.now.seat) (MakeDynamic c.args.procedures) (λ r m old before new x. x, λ r. tt)
    (ap (λ (l : List Procedure). requests.make_dynamic (map (proc_named (text_of n)) l)) c.as_slice.ensures.value) (λ z e. e ∙ ap (λ (l : List Procedure). requests.make_dynamic (map (proc_named (text_of n)) l)) (sym c.as_slice.ensures.value))
    c.args.front.now c.requires.front c.settle.result c.settle.new.front c.settle.new.hub c.settle.ensures.answer c.settle.ensures.front c.settle.ensures.hub
    c.settle.ensures.sees c.make_dynamic-row.ensures.named c.make_dynamic-row.ensures.quiet c.make_dynamic-row.ensures.unrefused

pub make_dynamic-row-requires-clause-has : goal.make_dynamic-row-requires-clause-has
make_dynamic-row-requires-clause-has g c = (keeper_view c.self.inside.keeper, record { goals = g.K.Naming.goals; history = c.self.inside.front.seen; long = sym c.generation-generation.ensures; is = c.self.invariant.database })
