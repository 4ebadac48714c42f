use Rattle.std.proofs.Common.{◌≡◌, ◌++◌, map, take, drop}
use Rattle.gen_core.specs.Marking.{item_marked}
use Rattle.gen_core.proofs.number_map.mark_items.Given as goal

abbrev pub invariant-loop-i : goal.invariant-loop-i
invariant-loop-i g l = l.items.items ≡ map (item_marked l.place) (take l.i l.initial.items.items) ++ drop l.i l.initial.items.items
