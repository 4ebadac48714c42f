use Rattle.std.proofs.Common.{◌≡◌, take}
use Rattle.std.specs.Prelude.{min, sum_by}
use Rattle.gen_core.specs.Visible.{live_size}
use Rattle.gen_core.proofs.clause_index.live_cells_in.Given as goal

abbrev pub invariant-loop-item : goal.invariant-loop-item
invariant-loop-item g l = l.cells ≡ min (sum_by (λ x. live_size g.C.Kept.size x.value.dated) (take l.item-index l.items)) 18446744073709551615
