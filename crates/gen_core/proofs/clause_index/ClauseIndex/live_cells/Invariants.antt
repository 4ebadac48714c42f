use Rattle.std.proofs.Common.{◌≡◌, take}
use Rattle.std.specs.Prelude.{min, sum_by}
use Rattle.gen_core.specs.Visible.{live_size}
use Rattle.gen_core.proofs.clause_index.ClauseIndex.live_cells.Given as goal

abbrev pub invariant-loop-row : goal.invariant-loop-row
invariant-loop-row g l = l.cells ≡ min (sum_by (λ r. sum_by (λ x. live_size g.C.Kept.size x.value.dated) r.value.items) (take l.row-index l.rows)) 18446744073709551615
