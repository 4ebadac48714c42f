use Rattle.std.proofs.Common.{◌≡◌, IsSome, take}
use Rattle.std.specs.List.{All, Contains}
use Rattle.world_api.specs.Gains.{Gains}
use Rattle.world_api.specs.Texts.{text_of, Holds}
use Rattle.world_api.specs.NamedNodes.{atoms_of, nodes_in, texts_of}
use Rattle.world_api.proofs.interning.interned_nodes.Given as goal

abbrev pub invariant-loop-node : goal.invariant-loop-node
invariant-loop-node g l =
    record {
      nodes_are : nodes_in (text_of (g.A.Atoms.held l.atoms)) l.all.items ≡ take l.node-index l.from;
      named : All (λ a. IsSome (g.A.Atoms.held l.atoms a)) (atoms_of l.all.items);
      holds : Holds (g.A.Atoms.held l.fn.atoms) (g.A.Atoms.held l.atoms);
      refusals : g.A.Atoms.refusals l.atoms ≡ g.A.Atoms.refusals l.fn.atoms;
      asked : Gains (λ c. Contains (texts_of l.from) c) (g.A.Atoms.asked l.fn.atoms) (g.A.Atoms.asked l.atoms);
    }
