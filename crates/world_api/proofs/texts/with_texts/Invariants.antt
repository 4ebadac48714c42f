use Rattle.std.proofs.Common.{◌≡◌, take}
use Rattle.world_api.specs.Texts.{text_of}
use Rattle.world_api.specs.NamedNodes.{nodes_in}
use Rattle.world_api.proofs.texts.with_texts.Given as goal

abbrev pub invariant-loop-node : goal.invariant-loop-node
invariant-loop-node g l =
    record {
      nodes_are : l.all.items ≡ nodes_in (text_of (g.A.Atoms.held l.fn.atoms)) (take l.node-index l.node-items);
      same : g.A.Atoms.held l.atoms ≡ g.A.Atoms.held l.fn.atoms;
      refusals : g.A.Atoms.refusals l.atoms ≡ g.A.Atoms.refusals l.fn.atoms;
      asked : g.A.Atoms.asked l.atoms ≡ g.A.Atoms.asked l.fn.atoms;
    }
