use Rattle.std.proofs.Common.{refl, sym}
use Rattle.pl_model.specs.History as entries
use Rattle.pl_model.specs.Requests as requests
use Rattle.atom_words.specs.Seats.{seen}
use Rattle.atom_table.specs.Naming.{names}
use Rattle.world_api.specs.declared.visit.Visit.TheVariants.{Erase}
use Rattle.counted_terms.specs.Keeping.{keeper_view}
use Rattle.hub_database.specs.Database.{clause_counts}
use Rattle.hub_database.specs.Rows.{generation_after}
use Rattle.pl_hub.proofs.ClauseRows.{changes_can, changes_shared, changes_visit, generation_le, upto_of}
use Rattle.pl_hub.proofs.States.{steady_restores}
use Rattle.pl_hub.proofs.shared.Shared.erase_clause_by.Goals as goal

pub erase_clause-row-requires-clause-upto : goal.erase_clause-row-requires-clause-upto
erase_clause-row-requires-clause-upto g c = upto_of c.self.invariant c.generation-generation.result c.generation-generation.ensures

pub settle-requires-clause-can : goal.settle-requires-clause-can
settle-requires-clause-can g c =
    let f = c.self.inside.front in
    let n = names (seen c.args.atoms.now.seat) in
    let q = requests.erase_clause c.args.place in
    let k = entries.erase c.args.place in
    changes_can g.K.Naming.goals c.args.engine g.N.Updates.kind k c.requires.kind refl tt f c.args.self.now c.self.view_is q
    (seen c.erase_clause-row.new.atoms.seat) (keeper_view c.erase_clause-row.new.keeper) c.erase_clause-row.new.db c.erase_clause-row.result
    (c.erase_clause-row.ensures.says g.K.Naming.goals c.args.engine f.seen (sym c.generation-generation.ensures) c.self.invariant.database)

pub invariant_of-self : goal.invariant_of-self
invariant_of-self g c =
    let f = c.self.inside.front in
    let n = names (seen c.args.atoms.now.seat) in
    let q = requests.erase_clause c.args.place in
    let k = entries.erase c.args.place in
    changes_shared g.K.Naming.goals c.args.engine g.N.Updates.kind k c.requires.kind refl tt f c.args.self.now c.self.view_is q
    (seen c.erase_clause-row.new.atoms.seat) (keeper_view c.erase_clause-row.new.keeper) c.erase_clause-row.new.db c.erase_clause-row.result
    (c.erase_clause-row.ensures.says g.K.Naming.goals c.args.engine f.seen (sym c.generation-generation.ensures) c.self.invariant.database)
    c.self.invariant c.is_sound.ensures c.erase_clause-row.ensures.keeper refl c.generation-generation.result c.generation-generation.ensures
    (steady_restores (clause_counts c.self.inside.db) (clause_counts c.erase_clause-row.new.db) (keeper_view c.self.inside.keeper) (keeper_view c.erase_clause-row.new.keeper) c.generation-generation.result (generation_after c.erase_clause-row.result c.generation-generation.result) c.erase_clause-row.ensures.steady c.erase_clause-row.ensures.weighs (generation_le c.erase_clause-row.result c.generation-generation.result))
    c.erase_clause-row.ensures.upto c.erase_clause-row.ensures.floor c.settle.new.hub c.settle.ensures.hub

pub returns : goal.returns
returns g c =
    let f = c.self.inside.front in
    let n = names (seen c.args.atoms.now.seat) in
    let q = requests.erase_clause c.args.place in
    let k = entries.erase c.args.place in
    changes_visit g.K.Naming.goals c.args.engine g.N.Updates.kind k c.requires.kind refl tt f c.args.self.now c.self.view_is q
    (seen c.erase_clause-row.new.atoms.seat) (keeper_view c.erase_clause-row.new.keeper) c.erase_clause-row.new.db c.erase_clause-row.result
    (c.erase_clause-row.ensures.says g.K.Naming.goals c.args.engine f.seen (sym c.generation-generation.ensures) c.self.invariant.database)
    g.K.Naming.history (seen c.args.atoms.now.seat) (Erase c.args.place) (λ r m old before new x. x, λ r. tt) refl (λ z e. e)
    c.args.front.now c.requires.front c.settle.result c.settle.new.front c.settle.new.hub c.settle.ensures.answer c.settle.ensures.front c.settle.ensures.hub
    c.settle.ensures.sees c.erase_clause-row.ensures.named c.erase_clause-row.ensures.quiet c.erase_clause-row.ensures.unrefused
