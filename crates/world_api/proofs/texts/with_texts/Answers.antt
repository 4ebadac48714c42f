use Rattle.std.proofs.Common.{◌∙◌, ap, refl, IsSome}
use Rattle.std.specs.List.{All}
use Rattle.std.proofs.lemmas.List.{take_all}
use Rattle.std.proofs.lemmas.List.Elements.{All-tail, All-same}
use Rattle.term_store.specs.NumberedNames.{neck, atoms_in, term_by}
use Rattle.world_api.specs.Texts.{text_of}
use Rattle.world_api.specs.NamedNodes.{nodes_in, atoms_of}
use Rattle.world_api.proofs.NamedTerms.{atoms_of-spelled, nodes_with_texts, term_with_texts}
use Rattle.world_api.proofs.HeldNodes.{node_named}
use Rattle.world_api.proofs.texts.with_texts.Goals as goal

pub node_with_text-requires : goal.node_with_text-requires
node_with_text-requires g c =
    let items = c.nodes-node-items.result.now in
    let named : All (λ a. IsSome (g.A.Atoms.held c.args.atoms.now a)) (atoms_of items) =
    All-same (λ a. IsSome (g.A.Atoms.held c.args.atoms.now a)) (atoms_of items) (atoms_in c.args.t.now)
    (atoms_of-spelled items c.args.t.now c.nodes-node-items.ensures.spelled)
    (All-tail (λ a. IsSome (g.A.Atoms.held c.args.atoms.now a)) neck (atoms_in c.args.t.now) c.requires) in
    rw c.loop-node.invariant.same
    (node_named (λ a. IsSome (g.A.Atoms.held c.args.atoms.now a)) items c.loop-node.node-index _ _ c.loop-node-test.true refl named)

pub from_nodes-requires : goal.from_nodes-requires
from_nodes-requires g c = (
  term_by (text_of (g.A.Atoms.held c.args.atoms.now)) c.args.t.now,
  nodes_with_texts (g.A.Atoms.held c.args.atoms.now) c.args.t.now c.nodes-node-items.result.now c.loop-node.all.items
      (g.met.A.Atoms.fixed_held c.args.atoms.now)
      c.nodes-node-items.ensures.spelled
      (c.loop-node.invariant.nodes_are ∙ ap (nodes_in (text_of (g.A.Atoms.held c.args.atoms.now))) (take_all c.loop-node.node-index c.nodes-node-items.result.now c.loop-node-test.false)),
)

pub returns-clause-term : goal.returns-clause-term
returns-clause-term g c =
    term_with_texts c.from_nodes.result (term_by (text_of (g.A.Atoms.held c.args.atoms.now)) c.args.t.now)
    (c.from_nodes.ensures
    ∙ nodes_with_texts (g.A.Atoms.held c.args.atoms.now) c.args.t.now c.nodes-node-items.result.now c.loop-node.all.items
    (g.met.A.Atoms.fixed_held c.args.atoms.now)
    c.nodes-node-items.ensures.spelled
    (c.loop-node.invariant.nodes_are ∙ ap (nodes_in (text_of (g.A.Atoms.held c.args.atoms.now))) (take_all c.loop-node.node-index c.nodes-node-items.result.now c.loop-node-test.false)))
