-- Operators that are put into the table, one after the other.
use Rattle.std.specs.Prelude.{List, [], ◌∷◌, Option, Some, None}
use Rattle.pl_model.specs.Operators as definitions
use Rattle.pl_model.specs.OperatorTable.{OperatorTable, specifier_of, refusal, changed}
use Rattle.op_table.specs.declared.operator.Operator.{Operator}
use Rattle.op_table.specs.declared.fault.OpFault.{OpFault}
use Rattle.op_table.specs.Faults.{fault_of}

-- The operator as the history has it.
abbrev pub shown : Operator → definitions.Operator
shown o = record { name = o.name; priority = o.priority; specifier = specifier_of o.kind }

-- Why the first of these operators that is refused at its turn is refused (ISO 8.14.3.3).
abbrev pub first_fault : List Operator → OperatorTable → Option OpFault
first_fault [] t = None
first_fault (o ∷ os) t =
    elim (refusal t o.priority (Some o.kind) o.name) [
      | None ↦ first_fault os (changed t o.priority o.kind o.name)
      | Some r ↦ Some (fault_of r)
    ]
