-- The rows of the code are the operators at the start.
use Rattle.std.proofs.Common.{◌≡◌, ℕ, List, true, refl, sym, ap, ◌∙◌}
use Rattle.std.specs.Prelude.{map}
use Rattle.std.specs.Str.{chars}
use Rattle.pl_model.specs.declared.operators.Kind.{Kind}
use Rattle.std.specs.FinMap.{is_sorted, entries-from_sorted, same_entries_map}
use Rattle.pl_model.specs.OperatorTable.{Key, Entry, key_order, place_of, opening_rows, opening_table}
use Rattle.pl_model.proofs.OperatorEntries.{puts, entries-from_entries}
use Rattle.op_table.specs.declared.iso.TheConstants.{OPENING}
use Rattle.op_table.specs.declared.operator.Operator.{Operator}
use Rattle.op_table.specs.Entries.{entries_of, table_of, InOrder}
use Rattle.op_table.proofs.EntriesRead.{sorted_from_order}

-- the rows of the code as entries
abbrev pub code_entries : List (Key × Entry)
code_entries = map (λ (r : (record { now : List ℕ }) × ℕ × Kind). ((chars r.0.now, place_of r.2), (r.1, r.2))) OPENING

rows_in_order : is_sorted key_order code_entries ≡ true
unfolding chars
rows_in_order = refl

rows_put : puts opening_rows ≡ code_entries
unfolding chars
rows_put = refl

module _ (os : List Operator) (is : entries_of os ≡ code_entries) where
  pub opening_in_order : InOrder os
  opening_in_order = ap (is_sorted key_order) is ∙ rows_in_order

  pub opening_is_table : table_of os ≡ opening_table
  opening_is_table =
      same_entries_map (table_of os) opening_table (
      entries-from_sorted key_order (entries_of os) (sorted_from_order os opening_in_order)
      ∙ is
      ∙ sym rows_put
      ∙ sym (entries-from_entries opening_rows)
      )
