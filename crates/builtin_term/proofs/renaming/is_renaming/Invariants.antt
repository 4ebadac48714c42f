use Rattle.std.proofs.Common.{take}
use Rattle.std.specs.BTreeMap as tree
use Rattle.std.specs.List.{All}
use Rattle.std.specs.Ordering.{nat_cmp}
use Rattle.builtin_term.proofs.Owners.{AreOwners, IsOwned}
use Rattle.builtin_term.proofs.renaming.is_renaming.Given as goal

abbrev pub invariant-loop-i : goal.invariant-loop-i
invariant-loop-i l =
    record {
      owned : All (IsOwned l.store (tree.get nat_cmp l.owners)) (take l.i l.met);
      owners : AreOwners l.store (take l.i l.met) (tree.get nat_cmp l.owners);
    }
