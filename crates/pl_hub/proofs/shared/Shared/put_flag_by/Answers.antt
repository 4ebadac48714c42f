use Rattle.std.proofs.Common.{refl, sym}
use Rattle.pl_model.specs.History as entries
use Rattle.pl_model.specs.Requests as requests
use Rattle.atom_words.specs.Seats.{seen}
use Rattle.atom_table.specs.Naming.{names}
use Rattle.world_api.specs.Texts.{text_of}
use Rattle.world_api.specs.declared.visit.Visit.TheVariants.{PutFlag}
use Rattle.counted_terms.specs.Keeping.{keeper_view}
use Rattle.hub_database.specs.Database.{clause_counts}
use Rattle.hub_database.specs.Rows.{generation_after}
use Rattle.hub_database.proofs.Deciding.{quiet_same, steady_same}
use Rattle.pl_hub.proofs.ClauseRows.{changes_can, changes_shared, changes_visit, generation_le, upto_of}
use Rattle.pl_hub.proofs.States.{steady_restores}
use Rattle.pl_hub.proofs.shared.Shared.put_flag_by.Goals as goal

pub put_flag-row-requires : goal.put_flag-row-requires
put_flag-row-requires g c = record { upto = upto_of c.self.invariant c.generation-generation.result c.generation-generation.ensures }

pub settle-requires-clause-can : goal.settle-requires-clause-can
settle-requires-clause-can g c =
    let f = c.self.inside.front in
    let n = names (seen c.args.atoms.now.seat) in
    let q = requests.put_flag (text_of n c.args.flag) (text_of n c.args.value) in
    let k = entries.set_flag (text_of n c.args.flag) (text_of n c.args.value) in
    let l = keeper_view c.self.inside.keeper in
    changes_can g.K.Naming.goals c.args.engine g.N.Updates.kind k c.requires.kind refl tt f c.args.self.now c.self.view_is q
    (seen c.args.atoms.now.seat) l c.put_flag-row.new.db c.put_flag-row.result
    (c.put_flag-row.ensures.says l g.K.Naming.goals c.args.engine f.seen (sym c.generation-generation.ensures) c.self.invariant.database)

pub invariant_of-self : goal.invariant_of-self
invariant_of-self g c =
    let f = c.self.inside.front in
    let n = names (seen c.args.atoms.now.seat) in
    let q = requests.put_flag (text_of n c.args.flag) (text_of n c.args.value) in
    let k = entries.set_flag (text_of n c.args.flag) (text_of n c.args.value) in
    let l = keeper_view c.self.inside.keeper in
    changes_shared g.K.Naming.goals c.args.engine g.N.Updates.kind k c.requires.kind refl tt f c.args.self.now c.self.view_is q
    (seen c.args.atoms.now.seat) l c.put_flag-row.new.db c.put_flag-row.result
    (c.put_flag-row.ensures.says l g.K.Naming.goals c.args.engine f.seen (sym c.generation-generation.ensures) c.self.invariant.database)
    c.self.invariant c.is_sound.ensures c.self.invariant.keeper_is refl c.generation-generation.result c.generation-generation.ensures
    (steady_restores (clause_counts c.self.inside.db) (clause_counts c.put_flag-row.new.db) l l c.generation-generation.result (generation_after c.put_flag-row.result c.generation-generation.result) (steady_same l) c.put_flag-row.ensures.weighs (generation_le c.put_flag-row.result c.generation-generation.result))
    c.put_flag-row.ensures.upto c.put_flag-row.ensures.floor c.settle.new.hub c.settle.ensures.hub

pub returns : goal.returns
returns g c =
    let f = c.self.inside.front in
    let n = names (seen c.args.atoms.now.seat) in
    let q = requests.put_flag (text_of n c.args.flag) (text_of n c.args.value) in
    let k = entries.set_flag (text_of n c.args.flag) (text_of n c.args.value) in
    let l = keeper_view c.self.inside.keeper in
    changes_visit g.K.Naming.goals c.args.engine g.N.Updates.kind k c.requires.kind refl tt f c.args.self.now c.self.view_is q
    (seen c.args.atoms.now.seat) l c.put_flag-row.new.db c.put_flag-row.result
    (c.put_flag-row.ensures.says l g.K.Naming.goals c.args.engine f.seen (sym c.generation-generation.ensures) c.self.invariant.database)
    g.K.Naming.history (seen c.args.atoms.now.seat) (PutFlag c.args.flag c.args.value) (λ r m old before new x. x, λ r. tt) refl (λ z e. e)
    c.args.front.now c.requires.front c.settle.result c.settle.new.front c.settle.new.hub c.settle.ensures.answer c.settle.ensures.front c.settle.ensures.hub
    c.settle.ensures.sees c.put_flag-row.ensures.named (quiet_same (seen c.args.atoms.now.seat)) c.put_flag-row.ensures.unrefused
