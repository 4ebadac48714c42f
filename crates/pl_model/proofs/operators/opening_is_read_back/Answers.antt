use Rattle.std.proofs.Common.{◌≡◌, length, map, ap, refl, ◌∙◌}
use Rattle.std.specs.FinMap.{get-from_entries}
use Rattle.pl_model.specs.OperatorTable.{Key, Entry, opening_rows}
use Rattle.pl_model.proofs.KeyOrder.{key_order_total}
use Rattle.pl_model.proofs.OperatorEntries.{puts, entries-from_entries}
use Rattle.pl_model.proofs.operators.opening_is_read_back.Goals as goal

counted : length (puts opening_rows) ≡ 45
counted = refl

pub returns : goal.returns
returns c = record {
  rows = λ i. map (λ (e : Key × Entry). get-from_entries key_order_total opening_rows (e.0.0, e.0.1) i) opening_rows;
  count = ap length (entries-from_entries opening_rows) ∙ counted;
}
