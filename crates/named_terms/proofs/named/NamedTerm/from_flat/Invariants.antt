use Rattle.std.proofs.Common.{◌≡◌, length, take}
use Rattle.std.specs.List.{All}
use Rattle.named_terms.specs.NamedNodes.{IsNodeNamed, nodes_by}
use Rattle.named_terms.proofs.named.NamedTerm.from_flat.Given as goal

abbrev pub invariant-loop-node : goal.invariant-loop-node
invariant-loop-node l =
    record {
      spelled : nodes_by l.names.items l.all.items ≡ take l.node-index l.own;
      named : All (IsNodeNamed (length l.names.items)) l.all.items;
    }
