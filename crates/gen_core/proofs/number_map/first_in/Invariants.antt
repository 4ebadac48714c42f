use Rattle.std.proofs.Common.{take}
use Rattle.gen_core.specs.NumberMaps.{NoneFrom, flat}
use Rattle.gen_core.proofs.number_map.first_in.Given as goal

abbrev pub invariant-loop-i : goal.invariant-loop-i
invariant-loop-i g l = NoneFrom (flat (take l.i l.rows)) l.from
