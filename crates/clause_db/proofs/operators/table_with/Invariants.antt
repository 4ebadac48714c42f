use Rattle.std.proofs.Common.{◌≡◌, drop, map}
use Rattle.pl_model.specs.SharedState.{with_operators}
use Rattle.clause_db.specs.Operators.{shown, first_fault}
use Rattle.clause_db.proofs.operators.table_with.Given as goal

abbrev pub invariant-loop-operator : goal.invariant-loop-operator
invariant-loop-operator l =
    (first_fault (drop l.operator-index l.operators) l.changed ≡ first_fault l.operators l.fn.table)
    × (with_operators (map shown (drop l.operator-index l.operators)) l.changed ≡ with_operators (map shown l.operators) l.fn.table)
