-- What the operators of a table in memory are in the operator table.
use Rattle.std.specs.Prelude.{List, map, IsTrue}
use Rattle.std.specs.FinMap.{from_sorted, is_sorted}
use Rattle.pl_model.specs.OperatorTable.{Key, Entry, OperatorTable, key_order, place_of}
use Rattle.op_table.specs.declared.operator.Operator.{Operator}

abbrev pub key_of : Operator → Key
key_of o = (o.name, place_of o.kind)

abbrev pub entry_of : Operator → Key × Entry
entry_of o = (key_of o, (o.priority, o.kind))

abbrev pub entries_of : List Operator → List (Key × Entry)
entries_of os = map entry_of os

-- The operators stand in the order of the table, each name once at a place.
abbrev pub InOrder : List Operator → Type 0
InOrder os = IsTrue (is_sorted key_order (entries_of os))

abbrev pub table_of : List Operator → OperatorTable
table_of os = from_sorted (entries_of os)
