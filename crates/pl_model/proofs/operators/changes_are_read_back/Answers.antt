use Rattle.std.proofs.Common.{refl}
use Rattle.std.specs.Prelude.{codes}
use Rattle.std.specs.FinMap.{get-from_entries, get-insert}
use Rattle.pl_model.specs.OperatorTable.{opening_rows, opening_table}
use Rattle.pl_model.specs.declared.operators.Kind.TheVariants.{Xfx}
use Rattle.pl_model.specs.declared.operators.Place.TheVariants.{Infix, Postfix}
use Rattle.pl_model.proofs.KeyOrder.{key_order_total}
use Rattle.pl_model.proofs.operators.changes_are_read_back.Goals as goal

pub returns : goal.returns
returns c = record {
  made = rw (get-from_entries key_order_total opening_rows (codes "===>", Postfix));
  found = get-insert key_order_total opening_table (codes "===>", Infix) (700, Xfx) (codes "===>", Infix);
  refused = refl;
}
