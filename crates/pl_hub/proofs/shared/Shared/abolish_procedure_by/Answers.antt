use Rattle.std.proofs.Common.{refl, sym}
use Rattle.pl_model.specs.History as entries
use Rattle.pl_model.specs.Requests as requests
use Rattle.atom_words.specs.Seats.{seen}
use Rattle.atom_table.specs.Naming.{names}
use Rattle.world_api.specs.Texts.{text_of}
use Rattle.world_api.specs.Visits.{proc_named}
use Rattle.world_api.specs.declared.visit.Visit.TheVariants.{Abolish}
use Rattle.counted_terms.specs.Keeping.{keeper_view}
use Rattle.hub_database.specs.Database.{clause_counts}
use Rattle.hub_database.specs.Rows.{generation_after}
use Rattle.pl_hub.proofs.ClauseRows.{changes_can, changes_shared, changes_visit, generation_le, upto_of}
use Rattle.pl_hub.proofs.States.{steady_restores}
use Rattle.pl_hub.proofs.shared.Shared.abolish_procedure_by.Goals as goal

pub abolish_procedure-row-requires-clause-upto : goal.abolish_procedure-row-requires-clause-upto
abolish_procedure-row-requires-clause-upto g c = upto_of c.self.invariant c.generation-generation.result c.generation-generation.ensures

pub settle-requires-clause-can : goal.settle-requires-clause-can
settle-requires-clause-can g c =
    let f = c.self.inside.front in
    let n = names (seen c.args.atoms.now.seat) in
    let q = requests.abolish_procedure (proc_named (text_of n) c.args.procedure) in
    let k = entries.abolish (proc_named (text_of n) c.args.procedure) in
    changes_can g.K.Naming.goals c.args.engine g.N.Updates.kind k c.requires.kind refl tt f c.args.self.now c.self.view_is q
    (seen c.abolish_procedure-row.new.atoms.seat) (keeper_view c.abolish_procedure-row.new.keeper) c.abolish_procedure-row.new.db c.abolish_procedure-row.result
    (c.abolish_procedure-row.ensures.says g.K.Naming.goals c.args.engine f.seen (sym c.generation-generation.ensures) c.self.invariant.database)

pub invariant_of-self : goal.invariant_of-self
invariant_of-self g c =
    let f = c.self.inside.front in
    let n = names (seen c.args.atoms.now.seat) in
    let q = requests.abolish_procedure (proc_named (text_of n) c.args.procedure) in
    let k = entries.abolish (proc_named (text_of n) c.args.procedure) in
    changes_shared g.K.Naming.goals c.args.engine g.N.Updates.kind k c.requires.kind refl tt f c.args.self.now c.self.view_is q
    (seen c.abolish_procedure-row.new.atoms.seat) (keeper_view c.abolish_procedure-row.new.keeper) c.abolish_procedure-row.new.db c.abolish_procedure-row.result
    (c.abolish_procedure-row.ensures.says g.K.Naming.goals c.args.engine f.seen (sym c.generation-generation.ensures) c.self.invariant.database)
    c.self.invariant c.is_sound.ensures c.abolish_procedure-row.ensures.keeper refl c.generation-generation.result c.generation-generation.ensures
    (steady_restores (clause_counts c.self.inside.db) (clause_counts c.abolish_procedure-row.new.db) (keeper_view c.self.inside.keeper) (keeper_view c.abolish_procedure-row.new.keeper) c.generation-generation.result (generation_after c.abolish_procedure-row.result c.generation-generation.result) c.abolish_procedure-row.ensures.steady c.abolish_procedure-row.ensures.weighs (generation_le c.abolish_procedure-row.result c.generation-generation.result))
    c.abolish_procedure-row.ensures.upto c.abolish_procedure-row.ensures.floor c.settle.new.hub c.settle.ensures.hub

pub returns : goal.returns
returns g c =
    let f = c.self.inside.front in
    let n = names (seen c.args.atoms.now.seat) in
    let q = requests.abolish_procedure (proc_named (text_of n) c.args.procedure) in
    let k = entries.abolish (proc_named (text_of n) c.args.procedure) in
    changes_visit g.K.Naming.goals c.args.engine g.N.Updates.kind k c.requires.kind refl tt f c.args.self.now c.self.view_is q
    (seen c.abolish_procedure-row.new.atoms.seat) (keeper_view c.abolish_procedure-row.new.keeper) c.abolish_procedure-row.new.db c.abolish_procedure-row.result
    (c.abolish_procedure-row.ensures.says g.K.Naming.goals c.args.engine f.seen (sym c.generation-generation.ensures) c.self.invariant.database)
    g.K.Naming.history (seen c.args.atoms.now.seat) (Abolish c.args.procedure) (λ r m old before new x. x, λ r. tt) refl (λ z e. e)
    c.args.front.now c.requires.front c.settle.result c.settle.new.front c.settle.new.hub c.settle.ensures.answer c.settle.ensures.front c.settle.ensures.hub
    c.settle.ensures.sees c.abolish_procedure-row.ensures.named c.abolish_procedure-row.ensures.quiet c.abolish_procedure-row.ensures.unrefused

pub abolish_procedure-row-requires-clause-has : goal.abolish_procedure-row-requires-clause-has
abolish_procedure-row-requires-clause-has g c = record { goals = g.K.Naming.goals; history = c.self.inside.front.seen; long = sym c.generation-generation.ensures; is = c.self.invariant.database }
