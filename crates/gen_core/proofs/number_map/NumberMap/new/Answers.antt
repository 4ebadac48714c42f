use Rattle.std.proofs.Common.{sym, subst}
use Rattle.gen_core.specs.NumberMaps.{AreRows, IsAscending}
use Rattle.gen_core.proofs.NumberLaws.{none_sorted}
use Rattle.gen_core.proofs.number_map.NumberMap.new.Goals as goal

pub invariant_of-result : goal.invariant_of-result
invariant_of-result g c =
    (subst IsAscending (sym c.new.ensures.items) none_sorted, subst AreRows (sym c.new.ensures.items) tt)
