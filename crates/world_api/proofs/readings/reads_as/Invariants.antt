use Rattle.std.proofs.Common.{◌≡◌, IsSome, take}
use Rattle.std.specs.List.{All}
use Rattle.world_api.specs.Texts.{text_of}
use Rattle.world_api.specs.NamedNodes.{atoms_of, nodes_in}
use Rattle.world_api.proofs.readings.reads_as.Given as goal

abbrev pub invariant-loop-i : goal.invariant-loop-i
invariant-loop-i g l =
    record {
      reads : nodes_in (text_of (g.A.Atoms.held l.atoms)) (take l.i l.own) ≡ take l.i l.all;
      named : All (λ a. IsSome (g.A.Atoms.held l.atoms a)) (atoms_of (take l.i l.own));
    }
