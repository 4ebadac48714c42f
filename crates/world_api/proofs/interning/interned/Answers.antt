use Rattle.std.proofs.Common.{◌∙◌}
use Rattle.world_api.specs.Texts.{text_of}
use Rattle.world_api.proofs.NamedTerms.{nodes_spelled, stored_means, stored_named}
use Rattle.world_api.proofs.AskedNames.{asked_of}
use Rattle.world_api.proofs.interning.interned.Goals as goal

pub clause_from_nodes-requires : goal.clause_from_nodes-requires
clause_from_nodes-requires g c =
    rw c.as_slice.ensures.value
    (nodes_spelled (text_of (g.A.Atoms.held c.interned_nodes.new.atoms)) c.args.t.now c.in-Ok.all.items (c.in-Ok.ensures.nodes ∙ c.nodes.ensures))

pub returns-in-Ok-clause_from_nodes-clause-term : goal.returns-in-Ok-clause_from_nodes-clause-term
returns-in-Ok-clause_from_nodes-clause-term g c =
    stored_means (g.A.Atoms.held c.interned_nodes.new.atoms) c.args.t.now c.in-Ok-clause_from_nodes.term c.in-Ok.all.items
    (g.met.A.Atoms.fixed_held c.interned_nodes.new.atoms)
    (c.in-Ok.ensures.nodes ∙ c.nodes.ensures)
    (rw c.as_slice.ensures.value at c.in-Ok-clause_from_nodes.ensures)

pub returns-in-Ok-clause_from_nodes-clause-named : goal.returns-in-Ok-clause_from_nodes-clause-named
returns-in-Ok-clause_from_nodes-clause-named g c =
    stored_named (g.A.Atoms.held c.interned_nodes.new.atoms) c.args.t.now c.in-Ok-clause_from_nodes.term c.in-Ok.all.items
    (g.met.A.Atoms.fixed_held c.interned_nodes.new.atoms)
    (c.in-Ok.ensures.nodes ∙ c.nodes.ensures)
    (rw c.as_slice.ensures.value at c.in-Ok-clause_from_nodes.ensures)
    c.in-Ok.ensures.named

pub returns-in-Ok-clause_from_nodes-clause-asked : goal.returns-in-Ok-clause_from_nodes-clause-asked
returns-in-Ok-clause_from_nodes-clause-asked g c =
    asked_of c.nodes.result.now c.args.t.now (g.A.Atoms.asked c.args.atoms.now) (g.A.Atoms.asked c.interned_nodes.new.atoms) c.nodes.ensures c.interned_nodes.ensures.asked

pub returns-in-Ok-clause-asked : goal.returns-in-Ok-clause-asked
returns-in-Ok-clause-asked g c =
    asked_of c.nodes.result.now c.args.t.now (g.A.Atoms.asked c.args.atoms.now) (g.A.Atoms.asked c.interned_nodes.new.atoms) c.nodes.ensures c.interned_nodes.ensures.asked

pub returns-clause-asked : goal.returns-clause-asked
returns-clause-asked g c =
    asked_of c.nodes.result.now c.args.t.now (g.A.Atoms.asked c.args.atoms.now) (g.A.Atoms.asked c.interned_nodes.new.atoms) c.nodes.ensures c.interned_nodes.ensures.asked
