use Rattle.std.proofs.Common.{◌≡◌, length, map, take}
use Rattle.clause_db.specs.Index.{Indexed}
use Rattle.clause_db.specs.Parts.{piece}
use Rattle.clause_db.specs.Sound.{names}
use Rattle.clause_db.proofs.dynamic.take_back.Given as goal

abbrev pub invariant-loop-parts : goal.invariant-loop-parts
invariant-loop-parts g l =
    record {
      left : take l.fn.stood (map piece l.parts.items) ≡ take l.fn.stood (map piece l.initial.parts.items);
      indexed : Indexed l.index (names (map piece l.parts.items));
    }

abbrev pub decreases-loop-parts : goal.decreases-loop-parts
decreases-loop-parts g l = length l.parts.items
