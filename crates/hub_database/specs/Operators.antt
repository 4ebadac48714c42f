-- Operators as they are put into the table.
use Rattle.std.specs.Prelude.{ℕ, List, map, Option, Some}
use Rattle.std.specs.Option.{option_map}
use Rattle.pl_term.specs.Tree.{Chars}
use Rattle.pl_model.specs.History.{Kind, set_op}
use Rattle.pl_model.specs.OperatorTable.{OperatorTable, refusal, specifier_of}
use Rattle.pl_model.specs.declared.operators.Kind.{Kind as OperatorKind}
use Rattle.op_table.specs.Faults.{fault_of}
use Rattle.op_table.specs.declared.fault.OpFault.{OpFault}
use Rattle.op_table.specs.declared.operator.Operator.{Operator}

-- why the table refuses the operator, if it does
abbrev pub fault_in : OperatorTable → Operator → Option OpFault
fault_in t o = option_map fault_of (refusal t o.priority (Some o.kind) o.name)

-- the operators of these names
abbrev pub operators_by : ℕ → OperatorKind → List Chars → List Operator
operators_by p k fs = map (λ (f : Chars). record { name = f; priority = p; kind = k }) fs

-- the update that puts them into the table
abbrev pub operators_put : ℕ → OperatorKind → List Chars → Kind
operators_put p k fs = set_op (map (λ (f : Chars). record { name = f; priority = p; specifier = specifier_of k }) fs)
