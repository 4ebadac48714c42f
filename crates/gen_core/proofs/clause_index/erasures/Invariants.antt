use Rattle.std.proofs.Common.{◌≡◌, map, take}
use Rattle.gen_core.specs.NumberMaps.{flat}
use Rattle.gen_core.specs.ClauseIndex.{erased_from}
use Rattle.gen_core.proofs.clause_index.erasures.Given as goal

abbrev pub invariant-loop-row : goal.invariant-loop-row
invariant-loop-row g l = l.pairs.items ≡ map (λ e. (erased_from l.place e.1.dated, e.0)) (flat (take l.row-index l.rows))
