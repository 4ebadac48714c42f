use Rattle.std.proofs.Common.{◌≡◌, false, take}
use Rattle.std.specs.List.{list_any}
use Rattle.gen_core.specs.Visible.{is_visible}
use Rattle.gen_core.proofs.clause_index.ClauseIndex.any_visible.Given as goal

abbrev pub invariant-loop-row : goal.invariant-loop-row
invariant-loop-row g l = list_any (λ r. list_any (λ x. is_visible l.g x.value.dated) r.value.items) (take l.row-index l.rows) ≡ false
