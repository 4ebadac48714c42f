use Rattle.std.proofs.Common.{◌≡◌, false, drop}
use Rattle.std.specs.List.{list_any}
use Rattle.pl_model.specs.SharedState.{with_operators}
use Rattle.source_check.specs.Listings.{operators_of}
use Rattle.source_check.specs.Checkers.{refuses}
use Rattle.source_check.proofs.operators.put_operators.Given as goal

abbrev pub invariant-loop-name : goal.invariant-loop-name
invariant-loop-name l =
    (list_any (refuses l.table l.priority l.kind) (drop l.name-index l.names) ≡ false)
    × (with_operators (operators_of l.priority l.kind (drop l.name-index l.names)) l.table ≡ with_operators (operators_of l.priority l.kind l.names) l.fn.table)
