use Rattle.std.proofs.Common.{◌≡◌, false, take}
use Rattle.std.specs.Prelude.{is_some}
use Rattle.std.specs.List.{list_any}
use Rattle.hub_database.specs.Operators.{fault_in}
use Rattle.hub_database.proofs.operators.first_refused.Given as goal

abbrev pub invariant-loop-i : goal.invariant-loop-i
invariant-loop-i l = list_any (λ o. is_some (fault_in l.table o)) (take l.i l.rows) ≡ false
