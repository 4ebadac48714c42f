-- The answers of a refused change.
use Rattle.std.specs.Prelude.{ℕ, List, codes}
use Rattle.pl_model.specs.OperatorTable.{Refusal, priority, specifier, comma, reserved, infix_postfix}
use Rattle.op_table.specs.declared.fault.OpFault.{OpFault}
use Rattle.op_table.specs.declared.fault.OpFault.TheVariants.{Priority, Kind, Comma, Reserved, InfixPostfix, Memory}

-- The answer that gives a cause.
abbrev pub fault_of : Refusal → OpFault
fault_of priority = Priority
fault_of specifier = Kind
fault_of comma = Comma
fault_of reserved = Reserved
fault_of infix_postfix = InfixPostfix

abbrev pub fault_text : OpFault → List ℕ
fault_text Priority = codes "the priority is above 1200"
fault_text Kind = codes "there is no such specifier"
fault_text Comma = codes "the comma cannot be modified"
fault_text Reserved = codes "the name is reserved"
fault_text InfixPostfix = codes "an infix operator beside a postfix operator"
fault_text Memory = codes "out of memory"
